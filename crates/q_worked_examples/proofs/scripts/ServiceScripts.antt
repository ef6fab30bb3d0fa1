-- What the laws of service say of flows, computed for plays that tell: one that joins waits for those before it, and one that is empty keeps
-- its place and its debt in the old list. RFC 8290, section 4.2.
use Rattle.std.proofs.Common.{◌≡◌, ℕ, List, [], ◌∷◌, ◌++◌, refl}
use Rattle.std.specs.Prelude.{Option, Some, option_map}
use Rattle.q_model.specs.declared.event.Event.{Event}
use Rattle.q_model.specs.declared.kind.Kind.TheVariants.{FqCodel}
use Rattle.q_model.specs.Replay.{replay}
use Rattle.q_model.specs.Stretches.{bytes_given, flow_grants_to, FqAt, fq_in}
use Rattle.q_model.specs.Tally.{history}
use Rattle.q_worked_examples.proofs.scripts.Script.{settings, hashed, arrives, polls, add_root, no_options}
use Rattle.q_worked_examples.proofs.SharedRules.{shared_rules}

-- the grants to flow 0, which stays backlogged, and the bytes that flow 1 gave
pub record Beside : Type 0 where
  pub grants : ℕ
  pub bytes : ℕ

beside : List Event → Option Beside
beside events = option_map (λ (f : FqAt). record { grants = flow_grants_to 0 f.noted; bytes = bytes_given 1 f.noted }) (fq_in 1 (replay history settings events).device)

fair : ℕ → Event
fair quantum = add_root (Some 1) (FqCodel (record no_options { flows = Some 2; quantum = Some quantum }))

-- flow 1 joins behind flow 0, and gives nothing before that one: `new_flow_first`
joins : List Event
joins = fair 10 ∷ arrives 0 (hashed 0 1 5) ∷ arrives 0 (hashed 1 2 5) ∷ []

waits_for_the_first : beside (joins ++ polls 0 1) ≡ Some (record { grants = 0; bytes = 0 })
unfolding beside fair joins shared_rules
waits_for_the_first = refl

goes_next : beside (joins ++ polls 0 2) ≡ Some (record { grants = 0; bytes = 5 })
unfolding beside fair joins shared_rules
goes_next = refl

-- Flow 1 leaves a byte of credit and is visited empty: it is old then, and waits behind flow 0, which is not granted meanwhile. Were it in
-- no list, its next packets would go before that one each time, without end: `flow_against_any`, `no_flow_starves`.
leaves_a_byte : List Event
leaves_a_byte =
    fair 10 ∷ arrives 0 (hashed 0 1 10) ∷ arrives 0 (hashed 0 2 1) ∷ arrives 0 (hashed 0 3 1) ∷ arrives 0 (hashed 0 4 1) ∷ arrives 0 (hashed 0 5 1)
    ∷ polls 0 2 ++ arrives 0 (hashed 1 6 9) ∷ polls 0 2

stands_behind : beside (leaves_a_byte ++ arrives 0 (hashed 1 7 9) ∷ polls 0 2) ≡ Some (record { grants = 1; bytes = 9 })
unfolding beside fair leaves_a_byte shared_rules
stands_behind = refl

-- Flow 1 gives a packet that its quantum does not pay for, and is empty. It stays listed until quanta have paid its debt; did it leave
-- with that, it would join with a quantum after one grant to flow 0: `flow_against_any`.
leaves_a_debt : List Event
leaves_a_debt =
    fair 1 ∷ arrives 0 (hashed 0 1 1) ∷ arrives 0 (hashed 0 2 1) ∷ arrives 0 (hashed 0 3 1) ∷ arrives 0 (hashed 0 4 1) ∷ arrives 0 (hashed 0 5 1)
    ∷ arrives 0 (hashed 1 6 10) ∷ polls 0 4

pays_first : beside (leaves_a_debt ++ arrives 0 (hashed 1 7 10) ∷ polls 0 1) ≡ Some (record { grants = 3; bytes = 10 })
unfolding beside fair leaves_a_debt shared_rules
pays_first = refl
