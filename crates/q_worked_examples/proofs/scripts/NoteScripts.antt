-- What the root of a tree notes over a list of events, where it keeps whole histories: grants, spends, marks, gifts of flows.
-- The laws of sharing count these notes; none of them is shown in a report.
use Rattle.std.proofs.Common.{◌≡◌, ℕ, List, [], ◌∷◌, ◌++◌, refl}
use Rattle.std.specs.Prelude.{Some, None, replicate}
use Rattle.q_packet.specs.Descriptor.{Descriptor}
use Rattle.q_packet.specs.declared.ecn.Ecn.TheVariants.{Ect0, Ce}
use Rattle.q_packet.specs.declared.cause.Cause.TheVariants.{CoDel, FatFlow}
use Rattle.q_model.specs.declared.event.Event.{Event}
use Rattle.q_model.specs.declared.kind.Kind.TheVariants.{Drr, Tbf, FqCodel}
use Rattle.q_model.specs.declared.tbf_limit.TbfLimit.TheVariants as limit
use Rattle.q_model.specs.Tally.{Note, Arrived, Sent, Lost, Marked, Granted, Spent, FlowGranted, FlowGave, history}
use Rattle.q_model.specs.Replay.{replay}
use Rattle.q_worked_examples.proofs.scripts.Script.{settings, packet, hashed, from_port, arrives, polls, add_root, add_in, add_class, filter_port, prio, no_options}
use Rattle.q_worked_examples.proofs.SharedRules.{shared_rules}

noted : List Event → List Note
noted events = (replay history settings events).device.tree.root.memory

-- the first class needs a grant and the second none: one grant is noted, and none for the class that sends
granted : noted (
    add_root (Some 1) Drr ∷ add_class 1 1 (Some 500) ∷ add_class 1 2 (Some 500) ∷
    filter_port 1 1 1 1 ∷ filter_port 1 1 2 2 ∷
    arrives 0 (from_port 1 1 1000) ∷ arrives 0 (from_port 2 2 400) ∷ polls 0 2) ≡
    Arrived (from_port 1 1 1000) ∷ Arrived (from_port 2 2 400) ∷
    Granted 1 1 ∷ Sent (from_port 2 2 400) ∷ Sent (from_port 1 1 1000) ∷ []
unfolding noted shared_rules
granted = refl

-- The first class is granted a quantum, and then the second one is met, whose bucket is empty: the drr gives nothing, and
-- the grant is noted all the same.
granted_for_nothing : noted (
    add_root (Some 1) Drr ∷ add_class 1 1 (Some 500) ∷ add_class 1 2 (Some 1000) ∷
    add_in 1 2 None (Tbf 8000 1000 (limit.Bytes 5000)) ∷ filter_port 1 1 1 1 ∷ filter_port 1 1 2 2 ∷
    arrives 0 (from_port 2 1 1000) ∷ polls 0 1 ++ arrives 0 (from_port 1 2 1000) ∷ arrives 0 (from_port 2 3 400) ∷ polls 0 1) ≡
    Arrived (from_port 2 1 1000) ∷ Sent (from_port 2 1 1000) ∷
    Arrived (from_port 1 2 1000) ∷ Arrived (from_port 2 3 400) ∷ Granted 1 1 ∷ []
unfolding noted shared_rules
granted_for_nothing = refl

-- a bucket spends when the packet goes, and nothing while it waits
spent : noted (
    add_root (Some 1) (Tbf 8000 1000 (limit.Bytes 5000)) ∷
    arrives 0 (packet 1 1000) ∷ arrives 0 (packet 2 400) ∷ polls 0 3 ++ polls 400000000 1) ≡
    Arrived (packet 1 1000) ∷ Arrived (packet 2 400) ∷
    Spent 1000 ∷ Sent (packet 1 1000) ∷ Spent 400 ∷ Sent (packet 2 400) ∷ []
unfolding noted shared_rules
spent = refl

-- Flow 0 sends more than its credits: as a new flow it is passed over with one quantum, and as an old one it gets another
-- before it sends again.
flows : noted (
    add_root (Some 1) (FqCodel (record no_options { flows = Some 2; quantum = Some 100 })) ∷
    arrives 0 (hashed 0 1 250) ∷ arrives 0 (hashed 1 2 50) ∷ arrives 0 (hashed 0 3 50) ∷ polls 0 3) ≡
    Arrived (hashed 0 1 250) ∷ Arrived (hashed 1 2 50) ∷ Arrived (hashed 0 3 50) ∷
    FlowGave 0 250 ∷ Sent (hashed 0 1 250) ∷
    FlowGranted 0 1 ∷ FlowGave 1 50 ∷ Sent (hashed 1 2 50) ∷
    FlowGranted 0 1 ∷ FlowGave 0 50 ∷ Sent (hashed 0 3 50) ∷ []
unfolding noted shared_rules
flows = refl

capable : ℕ → Descriptor
capable n = record (packet n 1000) { ecn = Ect0 }

-- a prio notes what is marked and lost beneath it, with the codepoint that the mark leaves
marked : noted (
    add_root (Some 1) (prio 2 (replicate 16 0)) ∷
    add_in 1 1 None (FqCodel (record no_options { flows = Some 1; target = Some 0; interval = Some 1000 })) ∷
    arrives 0 (capable 1) ∷ arrives 0 (capable 2) ∷ arrives 0 (capable 3) ∷ arrives 0 (capable 4) ∷
    polls 10 1 ++ polls 1010 1) ≡
    Arrived (capable 1) ∷ Arrived (capable 2) ∷ Arrived (capable 3) ∷ Arrived (capable 4) ∷ Sent (capable 1) ∷
    Marked (record (capable 2) { ecn = Ce }) ∷ Sent (record (capable 2) { ecn = Ce }) ∷ []
unfolding noted capable shared_rules
marked = refl

-- What a take drops is noted before what it marks: at the last poll, packet 4 goes and packet 5 is marked in place of a drop.
dropped_then_marked : noted (
    add_root (Some 1) (prio 2 (replicate 16 0)) ∷
    add_in 1 1 None (FqCodel (record no_options { flows = Some 1; target = Some 0; interval = Some 1000 })) ∷
    arrives 0 (packet 1 1000) ∷ arrives 0 (packet 2 1000) ∷ arrives 0 (packet 3 1000) ∷ arrives 0 (packet 4 1000) ∷
    arrives 0 (capable 5) ∷ arrives 0 (packet 6 1000) ∷ arrives 0 (packet 7 1000) ∷
    polls 10 1 ++ polls 1010 1 ++ polls 3000 1) ≡
    Arrived (packet 1 1000) ∷ Arrived (packet 2 1000) ∷ Arrived (packet 3 1000) ∷ Arrived (packet 4 1000) ∷
    Arrived (capable 5) ∷ Arrived (packet 6 1000) ∷ Arrived (packet 7 1000) ∷ Sent (packet 1 1000) ∷
    Lost (packet 2 1000) CoDel ∷ Sent (packet 3 1000) ∷
    Lost (packet 4 1000) CoDel ∷ Marked (record (capable 5) { ecn = Ce }) ∷ Sent (record (capable 5) { ecn = Ce }) ∷ []
unfolding noted capable shared_rules
dropped_then_marked = refl

lost_beneath : noted (
    add_root (Some 1) (prio 2 (replicate 16 0)) ∷
    add_in 1 1 None (FqCodel (record no_options { flows = Some 2; limit = Some 1 })) ∷
    arrives 0 (hashed 0 1 200) ∷ arrives 0 (hashed 1 2 100) ∷ []) ≡
    Arrived (hashed 0 1 200) ∷ Arrived (hashed 1 2 100) ∷ Lost (hashed 0 1 200) FatFlow ∷ []
unfolding noted shared_rules
lost_beneath = refl
