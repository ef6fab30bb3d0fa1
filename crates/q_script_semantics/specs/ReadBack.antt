-- What show prints, as the command that makes it: the texts of its parts, in the order in which a command has them.
-- A shown line is no command itself: there the kind is before the handle and the place, a class has no parent's name and
-- a filter no `flower`. Nor is a limit in packets a number, or `ns` a unit of time. The texts and the commands are this
-- project's, in the manner of tc(8).
use Rattle.std.specs.Prelude.{◌≡◌, ℕ, ◌≤◌, List, [], ◌∷◌, ◌++◌, codes, decimal, Option, Some, None, IfSome, Ok, ⊤}
use Rattle.std.specs.List.{join_with_byte}
use Rattle.q_line.specs.Laws.{IsName}
use Rattle.q_model.specs.Numbers.{IsBurst, IsFilterPrio, IsHandle, IsMinor, IsQuantum, IsRate, most_u32}
use Rattle.q_model.specs.Options.{IsPrefix, IsPrio, Prefix}
use Rattle.q_model.specs.declared.class_id.ClassId.{ClassId}
use Rattle.q_model.specs.declared.command.Command.{Command}
use Rattle.q_model.specs.declared.command.Command.TheVariants as command
use Rattle.q_model.specs.declared.filter_view.FilterView.{FilterView}
use Rattle.q_model.specs.declared.kind.Kind.{Kind}
use Rattle.q_model.specs.declared.kind.Kind.TheVariants as kind
use Rattle.q_model.specs.declared.node_view.NodeView.{NodeView}
use Rattle.q_model.specs.declared.place.Place.{Place}
use Rattle.q_model.specs.declared.place.Place.TheVariants as place
use Rattle.q_model.specs.declared.row.Row.{Row}
use Rattle.q_model.specs.declared.qdisc_view.QdiscView.{QdiscView}
use Rattle.q_model.specs.declared.qdisc_view.QdiscView.TheVariants as qdisc
use Rattle.q_model.specs.declared.tbf_limit.TbfLimit.TheVariants.{Bytes}
use Rattle.q_words.specs.Addresses.{prefix_of}
use Rattle.q_line.specs.Grammar.{line_of}
use Rattle.q_line.specs.Ranges.{IsAgreed}
use Rattle.q_line.specs.declared.line.Line.TheVariants.{Tc}
use Rattle.q_show.specs.ShowText.{class_text, handle_text, hex, into_text, keys_text, kind_text, options_text, place_text, prefix_text, protocol_text, setting}

-- what a `tc` line adds, with a blank between each two parts
abbrev pub adding : List ℕ → List ℕ → List (List ℕ) → List ℕ
adding object name parts = join_with_byte 32 (codes "tc" ∷ object ∷ codes "add" ∷ codes "dev" ∷ name ∷ parts)

abbrev pub qdisc_command : List ℕ → NodeView → List ℕ
qdisc_command name n = adding (codes "qdisc") name (place_text n.place ∷ codes "handle" ∷ (handle_text n.handle ++ codes ":") ∷ (kind_text n.qdisc ++ options_text n.qdisc) ∷ [])

-- the kind that the command names; None where a shown option is not read: a limit in packets, and times in `ns`
abbrev pub kind_shown : QdiscView → Option Kind
kind_shown (qdisc.Pfifo limit) = None
kind_shown (qdisc.Bfifo limit) = Some (kind.Bfifo (Some limit))
kind_shown (qdisc.Prio bands priomap) = Some (kind.Prio (record { bands = bands; priomap = priomap }))
kind_shown (qdisc.Tbf rate burst limit) = Some (kind.Tbf rate burst (Bytes limit))
kind_shown qdisc.Drr = Some kind.Drr
kind_shown (qdisc.FqCodel s) = None

-- a class of a drr with this quantum; what it may send, only show says
abbrev pub class_command : List ℕ → ClassId → ℕ → List ℕ
class_command name c quantum =
    adding (codes "class") name (codes "parent" ∷ (hex c.major ++ codes ":") ∷ codes "classid" ∷ class_text c ∷ (codes "drr" ++ setting (codes "quantum") quantum []) ∷ [])

abbrev pub filter_command : List ℕ → FilterView → List ℕ
filter_command name f =
    adding (codes "filter") name
    (codes "parent" ∷ (hex f.parent ++ codes ":") ∷ codes "prio" ∷ decimal f.filter.prio ∷ codes "protocol" ∷ protocol_text f.filter.protocol
    ∷ (codes "flower" ++ keys_text f.filter.keys ++ into_text f) ∷ [])

abbrev pub filter_added : FilterView → Command
filter_added f = command.FilterAdd f.parent f.parent f.filter

-- a shown class of a drr is read back: the command with its texts makes a class of its name, with its quantum
abbrev pub ClassesAreReadBack : Type 0
ClassesAreReadBack = (name : List ℕ) (c : ClassId) (quantum : ℕ) → IsName name → IsHandle c.major → IsMinor c.minor → IsQuantum quantum
    → line_of (class_command name c quantum) ≡ Ok (Tc (command.ClassAdd c.major c (Some quantum)))

-- where a command can put a qdisc
abbrev pub IsPlace : Place → Type 0
IsPlace place.Top = ⊥
IsPlace place.Root = ⊤
IsPlace (place.Class class) = IsHandle class.major × IsMinor class.minor

-- each option that show prints is read, and is in the range of a command
abbrev pub IsReadable : QdiscView → Type 0
IsReadable (qdisc.Pfifo limit) = ⊥
IsReadable (qdisc.Bfifo limit) = limit ≤ most_u32
IsReadable (qdisc.Prio bands priomap) = IsPrio (record { bands = bands; priomap = priomap })
IsReadable (qdisc.Tbf rate burst limit) = IsRate rate × IsBurst burst × (limit ≤ most_u32)
IsReadable qdisc.Drr = ⊤
IsReadable (qdisc.FqCodel s) = ⊥

-- a shown bfifo, prio, tbf or drr is read back: the command with its texts makes it, in its place and with its handle
abbrev pub QdiscsAreReadBack : Type 0
QdiscsAreReadBack = (name : List ℕ) (handle : ℕ) (place : Place) (view : QdiscView) (row : Row) → IsName name → IsHandle handle → IsPlace place → IsReadable view
    → IfSome (kind_shown view) (λ kind. line_of (qdisc_command name (record { handle = Some handle; place = place; qdisc = view; row = row })) ≡ Ok (Tc (command.QdiscAdd place (Some handle) kind)))

-- a shown prefix of a filter is read as itself
abbrev pub PrefixesAreReadBack : Type 0
PrefixesAreReadBack = (p : Prefix) → IsPrefix p → prefix_of (prefix_text p) ≡ Ok p

-- the numbers of a filter are in the ranges of a command, and its addresses agree with its protocol and with each other
pub record IsFilter (f : FilterView) : Type 0 where
  pub parent : IsHandle f.parent
  pub prio : IsFilterPrio f.filter.prio
  pub minor : IsMinor f.filter.minor
  pub ip_proto : IfSome f.filter.keys.ip_proto (λ n. n ≤ 255)
  pub src_ip : IfSome f.filter.keys.src_ip IsPrefix
  pub dst_ip : IfSome f.filter.keys.dst_ip IsPrefix
  pub src_port : IfSome f.filter.keys.src_port (λ n. n ≤ 65535)
  pub dst_port : IfSome f.filter.keys.dst_port (λ n. n ≤ 65535)
  pub agreed : IsAgreed f.filter

-- a shown filter is read back, with `flower` before its keys
abbrev pub FiltersAreReadBack : Type 0
FiltersAreReadBack = (name : List ℕ) (f : FilterView) → IsName name → IsFilter f → line_of (filter_command name f) ≡ Ok (Tc (filter_added f))
