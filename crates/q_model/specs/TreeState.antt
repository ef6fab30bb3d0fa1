-- A device's tree: the node above the root, which is the device itself, and what arrivals, takes and commands make of both.
-- A packet longer than the mtu is refused by the device (this project's choice); a refused command changes nothing.
use Rattle.std.specs.Prelude.{ℕ, if◌then◌else◌, List, [], ◌∷◌, ◌++◌, map, Option, Some, None, Result, Ok, Err, option_and_then, option_map}
use Rattle.std.specs.Option.{option_to_list}
use Rattle.q_packet.specs.Descriptor.{Descriptor}
use Rattle.q_packet.specs.declared.cause.Cause.{Cause}
use Rattle.q_packet.specs.declared.cause.Cause.TheVariants.{TooLong, FatFlow}
use Rattle.q_model.specs.declared.command.Command.{Command}
use Rattle.q_model.specs.declared.command.Command.TheVariants.{QdiscAdd, QdiscChange, QdiscDel, ClassAdd, ClassChange, ClassDel, FilterAdd, FilterDel}
use Rattle.q_model.specs.declared.refusal.Refusal.{Refusal}
use Rattle.q_model.specs.declared.place.Place.{Place}
use Rattle.q_model.specs.declared.place.Place.TheVariants as place
use Rattle.q_model.specs.declared.row.Row.{Row}
use Rattle.q_model.specs.Tally.{Tally, Note, Arrived, Sent, Lost, no_counts, noted}
use Rattle.q_model.specs.Node.{Node, Shape, shape, blank}
use Rattle.q_model.specs.Beneath.{beneath, row, row_of}
use Rattle.q_model.specs.Route.{Route, device_route}
use Rattle.q_model.specs.Work.{Work, Worked, quiet, booked}
use Rattle.q_model.specs.Put.{put_along, drops_itself}
use Rattle.q_model.specs.Ask.{Asked, ask, take_from}
use Rattle.q_model.specs.Make.{Device, implicit_pfifo}
use Rattle.q_model.specs.Find.{node_at, class_path}
use Rattle.q_model.specs.Edit.{Edit, lost_by, edited}
use Rattle.q_model.specs.Refusals.{size_checks, done_unless}
use Rattle.q_model.specs.QdiscCommands.{qdisc_add, qdisc_change, qdisc_del}
use Rattle.q_model.specs.ClassCommands.{class_add, class_change, class_del}
use Rattle.q_model.specs.FilterCommands.{filter_add, filter_del}

-- `top` is what the device remembers, above the root
pub record TreeState (M : Type 0) : Type 0 where
  pub device : Device
  pub top : M
  pub root : Node M

-- a new tree has an implicit root
abbrev pub new_tree : {M : Type 0} → Tally M → Device → TreeState M
new_tree t d = record { device = d; top = t.none; root = blank t (implicit_pfifo d) }

-- the root as the rules leave it, and what the device notes
abbrev pub with_work : {M : Type 0} → Tally M → List Note → Worked → TreeState M → TreeState M
with_work t notes w s = record s { top = noted t s.top notes; root = booked t s.root w }

-- a packet that is put on its route; one without a route is refused above the root, which it never reaches
abbrev pub put_on : ℕ → Descriptor → Option Route → Shape → Work
put_on now p None root = record { node = quiet root; rises = Lost p TooLong ∷ [] }
put_on now p (Some r) root = put_along now p r.refusal r.path root

abbrev pub put_work : ℕ → Descriptor → Device → Shape → Work
put_work now p d root = put_on now p (device_route p d.mtu root) root

-- the cause where the packet that is put is itself lost: refused, or dropped at once
abbrev pub loss_at_end : ℕ → Descriptor → Shape → Route → Option Cause
loss_at_end now p root r = elim r.refusal [
  | Some cause ↦ Some cause
  | None ↦ option_and_then (λ (end : Shape). if drops_itself p now end.own.discipline then Some FatFlow else None) (node_at r.path root)
]

abbrev pub loss_on : ℕ → Descriptor → Option Route → Shape → Option Cause
loss_on now p None root = Some TooLong
loss_on now p (Some r) root = loss_at_end now p root r

abbrev pub own_loss : ℕ → Descriptor → Device → Shape → Option Cause
own_loss now p d root = loss_on now p (device_route p d.mtu root) root

abbrev pub put : {M : Type 0} → Tally M → ℕ → Descriptor → TreeState M → TreeState M
put t now p s = let w = put_work now p s.device (shape s.root) in with_work t (Arrived p ∷ w.rises) w.node s

-- what a put loses: the packet itself where it is refused, and what an fq_codel drops
abbrev pub noted_by_put : {M : Type 0} → ℕ → Descriptor → TreeState M → List Note
noted_by_put now p s = (put_work now p s.device (shape s.root)).rises

abbrev pub asked : {M : Type 0} → ℕ → TreeState M → Asked
asked now s = ask now (shape s.root)

-- the packet that a peek shows and a take returns, and what both lose and mark for it
abbrev pub given : {M : Type 0} → ℕ → TreeState M → Option Descriptor
given now s = (asked now s).shown

abbrev pub noted_by_take : {M : Type 0} → ℕ → TreeState M → List Note
noted_by_take now s = (asked now s).rises

abbrev pub peek_packet : {M : Type 0} → Tally M → ℕ → TreeState M → TreeState M
peek_packet t now s = with_work t (noted_by_take now s) (asked now s).peeked s

abbrev pub take_packet : {M : Type 0} → Tally M → ℕ → TreeState M → TreeState M
take_packet t now s =
    let w = take_from now (shape s.root) in
    with_work t (w.rises ++ map Sent (option_to_list (given now s))) w.node s

-- the edit that a command asks for, or its refusal
abbrev pub edit_of : Device → ℕ → Command → Shape → Result Edit Refusal
edit_of d now (QdiscAdd place handle kind) root = qdisc_add d now place handle kind root
edit_of d now (QdiscChange place handle kind) root = qdisc_change d now place handle kind root
edit_of d now (QdiscDel place handle) root = qdisc_del d place handle root
edit_of d now (ClassAdd parent class quantum) root = class_add d parent class quantum root
edit_of d now (ClassChange parent class quantum) root = class_change parent class quantum root
edit_of d now (ClassDel parent class) root = class_del parent class root
edit_of d now (FilterAdd parent major filter) root = filter_add parent major filter root
edit_of d now (FilterDel parent prio) root = filter_del parent prio root

-- the tree of shapes after an edit: what is too deep, or too large, is refused last
abbrev pub nothing : Tally (Unit {0})
nothing = record { none = tt; more = λ u n. tt; counts_of = λ u. no_counts }

abbrev pub checked : Shape → Edit → Result Edit Refusal
checked root edit = done_unless (size_checks (edited nothing [] edit root)) edit

abbrev pub plan : Device → ℕ → Command → Shape → Result Edit Refusal
plan d now command root = elim (edit_of d now command root) [
  | Ok edit ↦ checked root edit
  | Err refusal ↦ Err refusal
]

abbrev pub with_edit : {M : Type 0} → Tally M → Edit → TreeState M → TreeState M
with_edit t edit s =
    let notes = lost_by edit (shape s.root) in
    record s { top = noted t s.top notes; root = edited t notes edit s.root }

-- the counters of the node in a place
abbrev pub stats : {M : Type 0} → Tally M → Place → TreeState M → Option Row
stats t place.Top s = Some (row_of (t.counts_of s.top) (beneath s.root))
stats t place.Root s = Some (row t s.root)
stats t (place.Class class) s = option_map (row t) (option_and_then (λ path. node_at path s.root) (class_path class s.root))
