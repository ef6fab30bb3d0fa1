-- What a node notes of packets, and how it remembers that: whole, in order, or by numbers of packets and bytes alone.
-- The numbers are those of `tc -s qdisc show` (tc(8)); a loss on arrival is refused there, and a later one dropped.
use Rattle.std.specs.Prelude.{ℕ, ◌+◌, List, [], ◌∷◌, ◌++◌, if◌then◌else◌}
use Rattle.std.specs.List.{fold}
use Rattle.q_packet.specs.Descriptor.{Descriptor}
use Rattle.q_packet.specs.Cause.{is_refusal}
use Rattle.q_packet.specs.declared.cause.Cause.{Cause}
use Rattle.q_model.specs.declared.totals.Totals.{Totals}

-- Arrived: a packet reached the node. Sent: the node handed it to the one above. Lost and Marked: at the node or below it.
-- Granted: a class of a drr got so many quanta. Spent: the bucket of a tbf paid so many bytes. FlowGranted: a flow of an
-- fq_codel got so many quanta. FlowGave: it handed out so many bytes.
pub data Note : Type 0 where
  Arrived : Descriptor → Note
  Sent : Descriptor → Note
  Lost : Descriptor → Cause → Note
  Marked : Descriptor → Note
  Granted : ℕ → ℕ → Note
  Spent : ℕ → Note
  FlowGranted : ℕ → ℕ → Note
  FlowGave : ℕ → ℕ → Note

-- what was counted of packets
pub record Counts : Type 0 where
  pub arrived : Totals
  pub sent : Totals
  pub refused : Totals
  pub dropped : Totals
  pub marked : Totals

abbrev pub no_totals : Totals
no_totals = record { packets = 0; bytes = 0 }

abbrev pub no_counts : Counts
no_counts = record { arrived = no_totals; sent = no_totals; refused = no_totals; dropped = no_totals; marked = no_totals }

abbrev pub with_packet : Totals → Descriptor → Totals
with_packet t p = record { packets = t.packets + 1; bytes = t.bytes + p.len }

-- a note more; grants and spent bytes are not counted, since tc shows no number of them
abbrev pub counted : Counts → Note → Counts
counted c (Arrived p) = record c { arrived = with_packet c.arrived p }
counted c (Sent p) = record c { sent = with_packet c.sent p }
counted c (Lost p cause) =
    if is_refusal cause then record c { refused = with_packet c.refused p } else record c { dropped = with_packet c.dropped p }
counted c (Marked p) = record c { marked = with_packet c.marked p }
counted c (Granted class times) = c
counted c (Spent bytes) = c
counted c (FlowGranted flow times) = c
counted c (FlowGave flow bytes) = c

-- what notes come to
abbrev pub counts_in : List Note → Counts
counts_in notes = fold counted no_counts notes

-- a way to remember notes: what stands for none, for one more, and what the notes come to
pub record Tally (M : Type 0) : Type 0 where
  pub none : M
  pub more : M → Note → M
  pub counts_of : M → Counts

-- every note, the first one first
abbrev pub history : Tally (List Note)
history = record { none = []; more = λ notes n. notes ++ n ∷ []; counts_of = counts_in }

-- numbers of packets and bytes alone
abbrev pub totals : Tally Counts
totals = record { none = no_counts; more = counted; counts_of = λ c. c }

-- notes more, in order
abbrev pub noted : {M : Type 0} → Tally M → M → List Note → M
noted t m notes = fold t.more m notes
