-- The form of a table of lines, each with the answer that the grammar gives it, and short names for what lines say.
use Rattle.std.proofs.Common.{◌≡◌, ℕ, List, map, None}
use Rattle.std.specs.Prelude.{Result, Ok}
use Rattle.q_packet.specs.Key.{zero_key}
use Rattle.q_packet.specs.declared.ecn.Ecn.TheVariants.{NotEct}
use Rattle.q_model.specs.Options.{FqOptions}
use Rattle.q_model.specs.declared.class_id.ClassId.{ClassId}
use Rattle.q_model.specs.declared.command.Command.TheVariants.{QdiscAdd, FilterAdd}
use Rattle.q_model.specs.declared.filter.Filter.{Filter}
use Rattle.q_model.specs.declared.filter_keys.FilterKeys.{FilterKeys}
use Rattle.q_model.specs.declared.kind.Kind.{Kind}
use Rattle.q_model.specs.declared.kind.Kind.TheVariants as kind
use Rattle.q_model.specs.declared.place.Place.TheVariants.{Root}
use Rattle.q_model.specs.declared.protocol.Protocol.TheVariants.{All}
use Rattle.q_words.specs.declared.line_fault.LineFault.{LineFault}
use Rattle.q_line.specs.Grammar.{line_of}
use Rattle.q_line.specs.declared.arrival.Arrival.{Arrival}
use Rattle.q_line.specs.declared.line.Line.{Line}
use Rattle.q_line.specs.declared.line.Line.TheVariants.{Tc}

-- the bytes of a line, and what they say, or the fault
abbrev pub Row : Type 0
Row = List ℕ × Result Line LineFault

-- the grammar gives each line the answer beside it
abbrev pub AreRead : List Row → Type 0
AreRead rows = map (λ (row : Row). line_of row.0) rows ≡ map (λ (row : Row). row.1) rows

-- a qdisc of this kind is put at the root, without a handle
abbrev pub at_root : Kind → Result Line LineFault
at_root kind = Ok (Tc (QdiscAdd Root None kind))

abbrev pub prio : ℕ → List ℕ → Kind
prio bands priomap = kind.Prio (record { bands = bands; priomap = priomap })

abbrev pub no_fq_codel_options : FqOptions
no_fq_codel_options = record { limit = None; flows = None; quantum = None; target = None; interval = None; ecn = None; drop_batch = None }

abbrev pub class_id : ℕ → ℕ → ClassId
class_id major minor = record { major = major; minor = minor }

-- a filter of a parent, to a class with this major number
abbrev pub filter : ℕ → ℕ → Filter → Result Line LineFault
filter parent major f = Ok (Tc (FilterAdd parent major f))

abbrev pub no_keys : FilterKeys
no_keys = record { ip_proto = None; src_ip = None; dst_ip = None; src_port = None; dst_port = None }

abbrev pub one_filter : Filter
one_filter = record { prio = 1; protocol = All; keys = no_keys; minor = 1 }

-- a packet of one byte, of which nothing else is given
abbrev pub one_byte : Arrival
one_byte = record { len = 1; key = zero_key; prio = 0; ecn = NotEct; hash = None }
