-- What is counted of classes and flows over a part of a replay, for worked scripts: grants, bytes, deficits and credits.
-- Both counts are those of whole histories; a stretch has the difference of what they are at its ends.
use Rattle.std.proofs.Common.{◌≡◌, ℕ, ℤ, pos, List, [], ◌∷◌, ◌++◌, refl}
use Rattle.std.specs.Prelude.{Bool, true, false, Option, Some, None, map, option_map}
use Rattle.q_drr.specs.Schedule.{quantum_of, deficit_of}
use Rattle.q_fqcodel.specs.Laws.{credits_of}
use Rattle.q_fqcodel.specs.Order.{stands_first}
use Rattle.q_model.specs.declared.command.Command.TheVariants.{ClassChange}
use Rattle.q_model.specs.declared.event.Event.{Event}
use Rattle.q_model.specs.declared.kind.Kind.TheVariants.{FqCodel, Drr}
use Rattle.q_model.specs.Replay.{Replay, replay_from, nothing_yet}
use Rattle.q_model.specs.Stretches.{bytes_sent, grants_to, flow_grants_to, bytes_given, ClassAt, class_in, FqAt, fq_in}
use Rattle.q_model.specs.Tally.{Note, history}
use Rattle.q_worked_examples.proofs.scripts.Script.{settings, from_port, hashed, arrives, polls, tc, class, add_root, add_class, filter_port, no_options}
use Rattle.q_worked_examples.proofs.SharedRules.{shared_rules}

pub record ClassCount : Type 0 where
  pub quantum : ℕ
  pub grants : ℕ
  pub bytes : ℕ
  pub deficit : ℕ

-- what is seen after each part of a list of events
seen_over : {A : Type 0} → (Replay (List Note) → A) → Replay (List Note) → List (List Event) → List A
seen_over see r [] = []
seen_over see r (part ∷ parts) = let after = replay_from history r part in see after ∷ seen_over see after parts

over : {A : Type 0} → (Replay (List Note) → A) → List (List Event) → List A
over see parts = seen_over see (nothing_yet history settings) parts

counted : ℕ → Replay (List Note) → Option ClassCount
counted minor r =
    option_map (λ (c : ClassAt). record {
      quantum = quantum_of minor c.schedule.classes;
      grants = grants_to minor c.noted;
      bytes = bytes_sent c.child.memory;
      deficit = deficit_of minor c.schedule.active;
    }) (class_in 1 minor r.device)

both_counted : Replay (List Note) → List (Option ClassCount)
both_counted r = counted 1 r ∷ counted 2 r ∷ []

-- two classes with quanta of 1000 and 500, and ten packets of 500 bytes for each
filled : List Event
filled =
    add_root (Some 1) Drr ∷ add_class 1 1 (Some 1000) ∷ add_class 1 2 (Some 500)
    ∷ filter_port 1 1 1 1 ∷ filter_port 1 2 2 2
    ∷ map (λ n. arrives 0 (from_port 1 n 500)) (1 ∷ 2 ∷ 3 ∷ 4 ∷ 5 ∷ 6 ∷ 7 ∷ 8 ∷ 9 ∷ 10 ∷ [])
    ++ map (λ n. arrives 0 (from_port 2 n 500)) (11 ∷ 12 ∷ 13 ∷ 14 ∷ 15 ∷ 16 ∷ 17 ∷ 18 ∷ 19 ∷ 20 ∷ [])

-- Over six polls the first class has 2 grants and sends 2000 bytes, and the second 1 grant and 1000 bytes.
-- Another quantum ends the stretch: the class is then there with that.
shared_out : over both_counted (filled ∷ polls 0 6 ∷ (tc (ClassChange None (class 1 1) (Some 100)) ∷ []) ∷ []) ≡
    (Some (record { quantum = 1000; grants = 0; bytes = 0; deficit = 1000 }) ∷ Some (record { quantum = 500; grants = 0; bytes = 0; deficit = 500 }) ∷ [])
    ∷ (Some (record { quantum = 1000; grants = 2; bytes = 2000; deficit = 1000 }) ∷ Some (record { quantum = 500; grants = 1; bytes = 1000; deficit = 0 }) ∷ [])
    ∷ (Some (record { quantum = 100; grants = 2; bytes = 2000; deficit = 1000 }) ∷ Some (record { quantum = 500; grants = 1; bytes = 1000; deficit = 0 }) ∷ [])
    ∷ []
unfolding seen_over over counted both_counted filled shared_rules
shared_out = refl

-- a class that is emptied with 600 of its quantum left begins with a whole one
wakes : List Event
wakes = add_root (Some 1) Drr ∷ add_class 1 1 (Some 1000) ∷ filter_port 1 1 1 1 ∷ arrives 0 (from_port 1 1 400) ∷ polls 0 1

emptied_and_woken : over (counted 1) (wakes ∷ (arrives 0 (from_port 1 2 400) ∷ []) ∷ []) ≡
    Some (record { quantum = 1000; grants = 0; bytes = 400; deficit = 0 }) ∷ Some (record { quantum = 1000; grants = 0; bytes = 400; deficit = 1000 }) ∷ []
unfolding seen_over over counted wakes shared_rules
emptied_and_woken = refl

pub record FlowCount : Type 0 where
  pub grants : ℕ
  pub bytes : ℕ
  pub credits : Option ℤ

flow_counted : ℕ → Replay (List Note) → Option FlowCount
flow_counted flow r =
    option_map (λ (f : FqAt). record {
      grants = flow_grants_to flow f.noted;
      bytes = bytes_given flow f.noted;
      credits = credits_of flow (f.state.new_flows ++ f.state.old_flows);
    }) (fq_in 1 r.device)

-- A flow with 1514 credits gives two packets of 1000 bytes, and has one grant as it passes to the old list: 1028 credits are
-- left, and 1514 + 1514 - 1028 are the 2000 bytes that it gave.
three_and_one : List Event
three_and_one =
    add_root (Some 1) (FqCodel (record no_options { flows = Some 4 }))
    ∷ arrives 0 (hashed 0 1 1000) ∷ arrives 0 (hashed 0 2 1000) ∷ arrives 0 (hashed 0 3 1000) ∷ arrives 0 (hashed 1 4 100) ∷ []

granted_once : over (flow_counted 0) (three_and_one ∷ polls 0 3 ∷ []) ≡
    Some (record { grants = 0; bytes = 0; credits = Some (pos 1514) }) ∷ Some (record { grants = 1; bytes = 2000; credits = Some (pos 1028) }) ∷ []
unfolding seen_over over flow_counted three_and_one shared_rules
granted_once = refl

-- two flows of one fq_codel: how often each was granted, and whether flow 0 stands first
pub record PairCount : Type 0 where
  pub first : ℕ
  pub second : ℕ
  pub in_order : Bool

pair_counted : Replay (List Note) → Option PairCount
pair_counted r =
    option_map (λ (f : FqAt). record {
      first = flow_grants_to 0 f.noted;
      second = flow_grants_to 1 f.noted;
      in_order = stands_first 0 1 (f.state.new_flows ++ f.state.old_flows);
    }) (fq_in 1 r.device)

-- five packets of 600 bytes for each flow, with a quantum of 1000: each sends two and has then no credits
two_flows : List Event
two_flows =
    add_root (Some 1) (FqCodel (record no_options { flows = Some 4; quantum = Some 1000 }))
    ∷ map (λ n. arrives 0 (hashed 0 n 600)) (1 ∷ 2 ∷ 3 ∷ 4 ∷ 5 ∷ []) ++ map (λ n. arrives 0 (hashed 1 n 600)) (6 ∷ 7 ∷ 8 ∷ 9 ∷ 10 ∷ [])

-- The first is granted as it passes to the old list, behind the other. Once the other has passed too, both were granted once,
-- and stand as they did. In the old list they go on so.
pair_by_pair : over pair_counted (two_flows ∷ polls 0 3 ∷ polls 0 2 ∷ polls 0 2 ∷ []) ≡
    Some (record { first = 0; second = 0; in_order = true })
    ∷ Some (record { first = 1; second = 0; in_order = false })
    ∷ Some (record { first = 1; second = 1; in_order = true })
    ∷ Some (record { first = 2; second = 1; in_order = false })
    ∷ []
unfolding seen_over over pair_counted two_flows shared_rules
pair_by_pair = refl
