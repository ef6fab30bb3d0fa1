-- What asking makes of a node that holds no packet, apart from its discipline and its children: what it holds, and what it
-- notes for itself.
use Rattle.std.proofs.Common.{◌≡◌, ℕ, ◌∙◌, List, [], ◌∷◌, ◌++◌, refl, sym, ap, Option, Some, None}
use Rattle.std.specs.Prelude.{Bool, true, false, slice_get, if◌then◌else◌}
use Rattle.std.specs.Option.{option_map_or}
use Rattle.std.proofs.lemmas.List.{append-nil}
use Rattle.q_packet.specs.Descriptor.{Descriptor}
use Rattle.q_codel.specs.Losses.{SinkState}
use Rattle.q_bucket.specs.Level.{TokenBucket, allows}
use Rattle.q_drr.specs.Schedule.{Schedule}
use Rattle.q_drr.specs.Take.{choice_of}
use Rattle.q_fqcodel.specs.Take.{selected, sent_from, head_sent}
use Rattle.q_model.specs.declared.filter.Filter.{Filter}
use Rattle.q_model.specs.declared.row.Row.{Row}
use Rattle.q_model.specs.Ask.{Asked, dequeued, waits, spends, ask_child, ask_discipline, ask_own, ask, head_of, holding, service_of, place_met, gives_nothing, class_gives, class_serves}
use Rattle.q_model.specs.Node as spec
use Rattle.q_model.specs.Node.{Own, Node, shape, side_by_side, each, each_memory}
use Rattle.q_model.specs.Quanta.{flow_notes}
use Rattle.q_model.specs.Tally.{Note, Spent, noted, totals}
use Rattle.q_model.specs.Work.{booked}
use Rattle.q_invariants.proofs.ask.Answer.{IsSilent, silent-nil}
use Rattle.q_invariants.proofs.ask.AskTbf.{spent-note}
use Rattle.q_invariants.proofs.ask.DrrService.{notes-silent}
use Rattle.q_invariants.proofs.flow.FlowNotes.{flow-silent}
use Rattle.q_invariants.proofs.sums.Weights.{IsQuiet}
use Rattle.q_tree.specs.departure.AskSteps.{IsAskedIn, answers, answer_of, own_of, held_in, with_shown}
use Rattle.q_tree.specs.Kept.{Kept, kept}
use Rattle.q_tree.specs.Seen.{seen, discipline_seen, children_seen, places_seen}
use Rattle.q_tree.specs.declared.node.Discipline.{Discipline}
use Rattle.q_tree.specs.declared.node.Node.TheInside.{Inside}
use Rattle.q_tree.specs.departure.Shown.{Shown}
use Rattle.q_tree.proofs.counters.AskRows.{counted-shown}
use Rattle.q_tree.proofs.counters.Rows.{counts_in_row}
use Rattle.q_tree.proofs.departure.Forms.{noted-kept}
use Rattle.q_tree.specs.departure.Holding.{held_with, packet_held, since_held}
use Rattle.q_packet.specs.declared.stamped.Stamped.{Stamped}
use Rattle.q_model.specs.Since.{since_of}
use Rattle.q_tree.proofs.departure.HeldLemmas.{packet-with, since-with, since-twice, empty-held}

pub record IsPeeked (handle : Option ℕ) (filters : List Filter) (a : Asked) : Type 0 where
  pub own : a.peeked.own ≡ record {
    handle = handle;
    discipline = a.peeked.own.discipline;
    held = held_in a.peeked.own.discipline a.shown;
    since =
        since_of (held_in a.peeked.own.discipline a.shown) a.peeked.own.since;
    filters = filters;
  }
  pub mine : List Note
  pub silent : IsSilent mine
  pub noted : a.peeked.memory ≡ a.rises ++ mine

module _ (now : ℕ) (handle : Option ℕ) (filters : List Filter) (below : List Asked) where
  tbf-peeked : (b : TokenBucket) (limit : ℕ) → IsPeeked handle filters (ask_discipline now (own_of handle filters (spec.Tbf b limit)) below (spec.Tbf b limit))
  tbf-peeked b limit = child (slice_get below 0)
    where
      allowed : (a : Asked) (p : Descriptor) (may : Bool)
          → IsPeeked handle filters (if may then spends (own_of handle filters (spec.Tbf b limit)) below b limit now a p else waits
          (own_of handle filters (spec.Tbf b limit)) below a)
      allowed a p true = record { own = refl; mine = Spent p.len ∷ []; silent = spent-note p.len; noted = refl }
      allowed a p false = record { own = refl; mine = []; silent = silent-nil; noted = refl }

      packet : (a : Asked) (o : Option Descriptor)
          → IsPeeked handle filters (option_map_or
          (λ (p : Descriptor). if allows b now p.len then spends (own_of handle filters (spec.Tbf b limit)) below b limit now a p else waits
          (own_of handle filters (spec.Tbf b limit)) below a) o (waits (own_of handle filters (spec.Tbf b limit)) below a))
      packet a None = record { own = refl; mine = []; silent = silent-nil; noted = refl }
      packet a (Some p) = allowed a p (allows b now p.len)

      child : (o : Option Asked)
          → IsPeeked handle filters (option_map_or (ask_child now (own_of handle filters (spec.Tbf b limit)) below b limit) o
          (dequeued (own_of handle filters (spec.Tbf b limit)) below
          (record { after = own_of handle filters (spec.Tbf b limit); children = []; rises = []; mine = []; packet = None; since = 0 })))
      child None = record { own = refl; mine = []; silent = silent-nil; noted = refl }
      child (Some a) = packet a a.shown

  drr-peeked : (s : Schedule) → IsPeeked handle filters (ask_discipline now (own_of handle filters (spec.Drr s)) below (spec.Drr s))
  drr-peeked s = by (place_met s below)
    where
      nothing : IsPeeked handle filters (gives_nothing (own_of handle filters (spec.Drr s)) below (service_of s below))
      nothing = record { own = refl; mine = (service_of s below).grants; silent = notes-silent (choice_of (head_of s below) s) s.active; noted = refl }

      serves : (i : ℕ) (a : Asked) (o : Option Descriptor)
          → IsPeeked handle filters (option_map_or (class_gives (own_of handle filters (spec.Drr s)) below (service_of s below) i a) o
          (gives_nothing (own_of handle filters (spec.Drr s)) below (service_of s below)))
      serves i a None = nothing
      serves i a (Some p) = record { own = refl; mine = (service_of s below).grants; silent = notes-silent (choice_of (head_of s below) s) s.active; noted = refl }

      child : (i : ℕ) (o : Option Asked)
          → IsPeeked handle filters (option_map_or (class_serves (own_of handle filters (spec.Drr s)) below (service_of s below) i) o
          (gives_nothing (own_of handle filters (spec.Drr s)) below (service_of s below)))
      child i None = nothing
      child i (Some a) = serves i a a.shown

      by : (o : Option ℕ)
          → IsPeeked handle filters (option_map_or
          (λ i. option_map_or (class_serves (own_of handle filters (spec.Drr s)) below (service_of s below) i) (slice_get below i)
          (gives_nothing (own_of handle filters (spec.Drr s)) below (service_of s below))) o
          (gives_nothing (own_of handle filters (spec.Drr s)) below (service_of s below)))
      by None = nothing
      by (Some i) = child i (slice_get below i)

  pub peeked-own : (d : spec.Discipline) → IsPeeked handle filters (ask_discipline now (own_of handle filters d) below d)
  peeked-own (spec.Fifo limit queue) = record { own = refl; mine = []; silent = silent-nil; noted = refl }
  peeked-own (spec.Prio priomap) =
      let a = ask_discipline now (own_of handle filters (spec.Prio priomap)) below (spec.Prio priomap) in record
      { own = refl; mine = []; silent = silent-nil; noted = sym (append-nil a.rises) }
  peeked-own (spec.Tbf b limit) = tbf-peeked b limit
  peeked-own (spec.Drr s) = drr-peeked s
  peeked-own (spec.FqCodel s) =
      let own : Own = own_of handle filters (spec.FqCodel s) in
      let a : Asked = ask_discipline now own below (spec.FqCodel s) in
      let at : ℕ = option_map_or (λ (p : Stamped). p.at) (head_sent now (selected s)) 0 in
      record {
        own = ap (λ (t : ℕ). record a.peeked.own { since = t }) (sym (since-twice a.shown at));
        mine = flow_notes s (selected s)
            (sent_from now (selected s));
        silent = flow-silent s (selected s) (sent_from now (selected s));
        noted = refl;
      }

-- a node of the code that is asked
ask-is : (now : ℕ) (a : Inside) → ask now (shape (seen a)) ≡ ask_own now (seen a).own (answers now (children_seen a.discipline))
ask-is now a = ap (ask_own now (seen a).own) (below (children_seen a.discipline))
  where
    below : (ns : List (Node Kept)) → each (ask_own now) (each_memory {N = Unit {0}} (λ m. tt) (side_by_side ns)) ≡ answers now ns
    below [] = refl
    below (n ∷ ns) = ap (λ xs. ask now (shape n) ∷ xs) (below ns)

-- one that holds a packet
pub ask-holding : (now : ℕ) (a : Inside) (p : Descriptor) → packet_held a.held ≡ Some p → ask now (shape (seen a)) ≡ holding (seen a).own (answers now (children_seen a.discipline)) p
ask-holding now a p e =
    ask-is now a ∙ ap (λ (o : Option Descriptor). option_map_or (holding (seen a).own (answers now (children_seen a.discipline))) o
    (ask_discipline now (seen a).own (answers now (children_seen a.discipline)) (discipline_seen a.discipline))) e

-- one that holds none
pub ask-none : (now : ℕ) (a : Inside) → packet_held a.held ≡ None → ask now (shape (seen a)) ≡ answer_of now a.handle a.filters a.discipline
ask-none now a e =
    ask-is now a ∙ ap (λ (o : Option Stamped). ask_own now
    (record { handle = a.handle; discipline = discipline_seen a.discipline; held = packet_held o; since = since_held o; filters = a.filters })
    (answers now (children_seen a.discipline))) (empty-held a.held e)

pub peeked-is : {sink sink2 : SinkState} (now : ℕ) (a : Inside) (d : Discipline) (r : Row) (s : Shown) (held : Option Stamped) → packet_held a.held ≡ None
    → IsAskedIn (answer_of now a.handle a.filters a.discipline) a.discipline d s sink sink2
    → IsQuiet (answer_of now a.handle a.filters a.discipline).rises → r ≡ with_shown s a.row
    → held ≡ held_with (held_in (discipline_seen d) s.packet) (answer_of now a.handle a.filters a.discipline).peeked.own.since
    → seen (record a { held = held; row = r; discipline = d }) ≡ booked kept (seen a) (ask now (shape (seen a))).peeked
peeked-is now a d r s held none q quiet row holds =
    let x : Asked = answer_of now a.handle a.filters a.discipline in
    let form = peeked-own now a.handle a.filters (answers now (children_seen a.discipline)) (discipline_seen a.discipline) in
    let at : ℕ = x.peeked.own.since in
    let here : Option Descriptor = held_in (discipline_seen d) s.packet in
    let same_in : here ≡ held_in x.peeked.own.discipline x.shown = ap (λ o. held_in (discipline_seen d) o) q.children.shown.packet ∙ ap (λ k. held_in k x.shown) q.discipline in
    let same_held : packet_held held ≡ held_in x.peeked.own.discipline x.shown = ap packet_held holds ∙ packet-with here at ∙ same_in in
    let same_since : since_held held ≡ since_of (held_in x.peeked.own.discipline x.shown) at = ap since_held holds ∙ since-with here at ∙ ap (λ o. since_of o at) same_in in
    let counts : counts_in_row r ≡ noted totals (counts_in_row a.row) (x.rises ++ form.mine) =
    ap counts_in_row row ∙ counted-shown x.rises form.mine s a.row quiet form.silent q.children.shown.dropped q.children.shown.marked in
    let memory : record { counts = counts_in_row r; places = places_seen d } ≡ noted kept (seen a).memory x.peeked.memory =
    (λ i. record { counts = counts i; places = q.places i }) ∙ sym (noted-kept (seen a).memory (x.rises ++ form.mine)) ∙ ap (noted kept (seen a).memory) (sym form.noted) in
    let own : record { handle = a.handle; discipline = discipline_seen d; held = packet_held held; since = since_held held; filters = a.filters } ≡ x.peeked.own =
    (λ i. record { handle = a.handle; discipline = q.discipline i; held = same_held i; since = same_since i; filters = a.filters }) ∙ sym form.own in
    (λ i. record { own = own i; memory = memory i; below = q.children.nodes i }) ∙ ap (λ (y : Asked). booked kept (seen a) y.peeked) (sym (ask-none now a none))
