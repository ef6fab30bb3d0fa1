-- The most packets that a tree can hold, computed for small set-ups: how many buffers they need.
use Rattle.std.proofs.Common.{◌≡◌, ℕ, List, [], ◌∷◌, ◌++◌, refl}
use Rattle.std.specs.Prelude.{Some, None}
use Rattle.q_model.specs.declared.command.Command.TheVariants.{QdiscChange}
use Rattle.q_model.specs.declared.event.Event.{Event}
use Rattle.q_model.specs.declared.kind.Kind.TheVariants.{Pfifo, Bfifo, Tbf, Drr, FqCodel}
use Rattle.q_model.specs.declared.place.Place.TheVariants.{Root}
use Rattle.q_model.specs.declared.tbf_limit.TbfLimit.TheVariants.{Bytes}
use Rattle.q_tree.specs.answers.MostPackets.{most_packets}
use Rattle.q_worked_examples.proofs.scripts.Script.{run, packet, from_port, arrives, polls, tc, add_root, add_in, add_class, filter_port, no_options}
use Rattle.q_worked_examples.proofs.SharedRules.{shared_rules}

most_after : List Event → ℕ
most_after events = most_packets (run events).device.tree.root

-- the implicit root is a pfifo of txqueuelen packets
implicit_root : most_after [] ≡ 1000
unfolding most_after shared_rules
implicit_root = refl

-- a packet has one byte at least
limit_in_bytes : most_after (add_root None (Bfifo (Some 3000)) ∷ []) ≡ 3000
unfolding most_after shared_rules
limit_in_bytes = refl

-- an fq_codel below a tbf or a drr is asked for a packet that is then held
held_beside_the_limit : most_after (add_root None (FqCodel (record no_options { limit = Some 10 })) ∷ []) ≡ 11
unfolding most_after shared_rules
held_beside_the_limit = refl

-- One packet held by the tbf and one by the drr, a class with the default queue, and one with an fq_codel and its held packet. What
-- arrives and leaves changes nothing.
shaped : List Event
shaped =
    add_root (Some 1) (Tbf 8000 1514 (Bytes 3000)) ∷ add_in 1 1 (Some 2) Drr ∷ add_class 2 1 None ∷ add_class 2 2 None
    ∷ add_in 2 2 (Some 3) (FqCodel (record no_options { limit = Some 10 })) ∷ filter_port 2 1 7 1 ∷ filter_port 2 2 9 2 ∷ []

shaped_holds : most_after shaped ≡ 1013
unfolding most_after shaped shared_rules
shaped_holds = refl

shaped_holds_no_more : most_after (shaped ++ arrives 0 (from_port 7 1 1000) ∷ arrives 0 (from_port 9 2 1000) ∷ polls 0 2) ≡ 1013
unfolding most_after shaped shared_rules
shaped_holds_no_more = refl

-- where a limit was set below what is queued, that is queued still
cut : List Event
cut =
    add_root (Some 1) (Pfifo (Some 3)) ∷ arrives 0 (packet 1 100) ∷ arrives 0 (packet 2 100) ∷ arrives 0 (packet 3 100)
    ∷ tc (QdiscChange (Some Root) None (Pfifo (Some 1))) ∷ []

cut_holds : most_after cut ≡ 3
unfolding most_after cut shared_rules
cut_holds = refl

cut_drains : most_after (cut ++ polls 0 2) ≡ 1
unfolding most_after cut shared_rules
cut_drains = refl
