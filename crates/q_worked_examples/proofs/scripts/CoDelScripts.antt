-- A worked script of CoDel within fq_codel: a clock that goes backwards. CoDelReports has drops, marks, and both.
-- The times are those of a target of 5 ms and an interval of 100 ms, all divided by 10^5.
use Rattle.std.proofs.Common.{◌≡◌, ℕ, List, [], ◌∷◌, ◌++◌, refl}
use Rattle.std.specs.Prelude.{Some, None, map}
use Rattle.q_packet.specs.Descriptor.{Descriptor}
use Rattle.q_packet.specs.declared.cause.Cause.TheVariants.{CoDel}
use Rattle.q_model.specs.declared.kind.Kind.TheVariants.{FqCodel}
use Rattle.q_model.specs.Options.{FqOptions}
use Rattle.q_model.specs.declared.event.Event.{Event}
use Rattle.q_model.specs.declared.reply.Reply.{Reply}
use Rattle.q_worked_examples.proofs.scripts.Script.{run, seen, packet, arrives, polls, add_root, no_options, ok, kept, sent, loss}
use Rattle.q_worked_examples.proofs.SharedRules.{shared_rules}

abbrev quick : FqOptions
quick = record no_options { flows = Some 2; target = Some 50; interval = Some 1000 }

abbrev ten : List ℕ
ten = 1 ∷ 2 ∷ 3 ∷ 4 ∷ 5 ∷ 6 ∷ 7 ∷ 8 ∷ 9 ∷ 10 ∷ []

abbrev plain : ℕ → Descriptor
plain n = packet n 1000

-- what the command and ten arrivals are answered
abbrev begun : List Reply
begun = ok ∷ map (λ n. kept) ten

-- polls at moments before the latest count at that one
backwards : List Event
backwards =
    add_root None (FqCodel quick) ∷ map (λ n. arrives 0 (plain n)) ten
    ++ polls 100 1 ++ polls 1100 1 ++ polls 0 6

backwards_runs : seen [] (run backwards) ≡ record {
  replies = begun ++ sent (plain 1) ∷ sent (plain 3) ∷ map (λ n. sent (plain n)) (4 ∷ 5 ∷ 6 ∷ 7 ∷ 8 ∷ 9 ∷ []);
  losses = loss (plain 2) CoDel ∷ [];
  rows = [];
}
unfolding backwards shared_rules
backwards_runs = refl
