-- Packets weighed: any weight that a packet's ECN codepoint does not change. A weight of 1 counts packets, the length adds up
-- their bytes, and a weight that asks for one packet tells how often it is there. The rule is this project's own.
use Rattle.std.specs.Prelude.{ℕ, List, sum_by, if◌then◌else◌}
use Rattle.q_packet.specs.Cause.{is_refusal}
use Rattle.q_packet.specs.Descriptor.{Descriptor}
use Rattle.q_packet.specs.declared.ecn.Ecn.TheVariants.{NotEct}
use Rattle.q_model.specs.Tally.{Note, Arrived, Sent, Lost, Marked, Granted, Spent, FlowGranted, FlowGave}

-- a packet without its codepoint
abbrev pub plain : Descriptor → Descriptor
plain p = record p { ecn = NotEct }

abbrev pub weight : (Descriptor → ℕ) → Descriptor → ℕ
weight w p = w (plain p)

-- unfoldable, so that proofs speak of weights by the lemmas below
unfoldable pub weigh : (Descriptor → ℕ) → List Descriptor → ℕ
weigh w packets = sum_by (weight w) packets

-- what a note weighs as an arrival, as a packet sent, lost, dropped or marked
abbrev pub arrival : (Descriptor → ℕ) → Note → ℕ
arrival w (Arrived p) = w (plain p)
arrival w (Sent p) = 0
arrival w (Lost p cause) = 0
arrival w (Marked p) = 0
arrival w (Granted class times) = 0
arrival w (Spent bytes) = 0
arrival w (FlowGranted flow times) = 0
arrival w (FlowGave flow bytes) = 0

abbrev pub sending : (Descriptor → ℕ) → Note → ℕ
sending w (Arrived p) = 0
sending w (Sent p) = w (plain p)
sending w (Lost p cause) = 0
sending w (Marked p) = 0
sending w (Granted class times) = 0
sending w (Spent bytes) = 0
sending w (FlowGranted flow times) = 0
sending w (FlowGave flow bytes) = 0

abbrev pub loss : (Descriptor → ℕ) → Note → ℕ
loss w (Arrived p) = 0
loss w (Sent p) = 0
loss w (Lost p cause) = w (plain p)
loss w (Marked p) = 0
loss w (Granted class times) = 0
loss w (Spent bytes) = 0
loss w (FlowGranted flow times) = 0
loss w (FlowGave flow bytes) = 0

abbrev pub dropping : (Descriptor → ℕ) → Note → ℕ
dropping w (Arrived p) = 0
dropping w (Sent p) = 0
dropping w (Lost p cause) = if is_refusal cause then 0 else w (plain p)
dropping w (Marked p) = 0
dropping w (Granted class times) = 0
dropping w (Spent bytes) = 0
dropping w (FlowGranted flow times) = 0
dropping w (FlowGave flow bytes) = 0

abbrev pub mark : (Descriptor → ℕ) → Note → ℕ
mark w (Arrived p) = 0
mark w (Sent p) = 0
mark w (Lost p cause) = 0
mark w (Marked p) = w (plain p)
mark w (Granted class times) = 0
mark w (Spent bytes) = 0
mark w (FlowGranted flow times) = 0
mark w (FlowGave flow bytes) = 0

-- the weights of notes
unfoldable pub arrived : (Descriptor → ℕ) → List Note → ℕ
arrived w notes = sum_by (arrival w) notes

unfoldable pub sent : (Descriptor → ℕ) → List Note → ℕ
sent w notes = sum_by (sending w) notes

unfoldable pub lost : (Descriptor → ℕ) → List Note → ℕ
lost w notes = sum_by (loss w) notes

unfoldable pub dropped : (Descriptor → ℕ) → List Note → ℕ
dropped w notes = sum_by (dropping w) notes

unfoldable pub marked : (Descriptor → ℕ) → List Note → ℕ
marked w notes = sum_by (mark w) notes
