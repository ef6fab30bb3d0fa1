-- A take in its midst, once rounds were given at once: it goes on as if they had been given turn by turn.
use Rattle.std.proofs.Common.{◌≡◌, ℕ, ◌+◌, ◌*◌, ◌≤◌, List, [], ◌∷◌, ◌++◌, map, length, take, drop, Option, refl, sym, ap, ◌∙◌, arith}
use Rattle.std.proofs.lemmas.List.{length-map}
use Rattle.q_drr.specs.Schedule.{Entry, Schedule, quantum_of, after_grants, IsLawful}
use Rattle.q_drr.specs.Take.{granted}
use Rattle.q_drr.specs.Rounds.{AllNeed, rounds_given}
use Rattle.q_drr.proofs.RoundLemmas.{quanta_of, prepared_rounds, until_rounds}
use Rattle.q_drr.proofs.ServingLemmas.{IsServing, names}

same_names : (quantum : ℕ → ℕ) (k : ℕ) (es : List Entry) → map (λ (e : Entry). e.class) (granted quantum k es) ≡ map (λ (e : Entry). e.class) es
same_names quantum k [] = refl
same_names quantum k (e ∷ es) = ap (λ ns. e.class ∷ ns) (same_names quantum k es)

pub serving_rounds : (heads : ℕ → Option ℕ) (first s : Schedule) (turns k : ℕ) → IsServing heads first s turns → IsLawful s → AllNeed heads k s.classes s.active → length first.active ≤ turns
    → IsServing heads first (rounds_given k s) (turns + k * length s.active)
serving_rounds heads first s turns k h law needed late =
    let long : length (rounds_given k s).active ≡ length s.active = length-map s.active (λ (e : Entry). after_grants (quantum_of e.class s.classes) k e) in
    record {
      classes = h.classes;
      longest = h.longest;
      long = long ∙ h.long;
      ready = prepared_rounds heads k s (quanta_of s law) needed ∙ h.ready;
      until = omega (arith, h.until, until_rounds heads k s (quanta_of s law) needed);
      order = λ within.
          let none : turns + k * length s.active ≡ turns = omega (arith, within, late) in
          same_names (λ (n : ℕ). quantum_of n s.classes) k s.active ∙ h.order (omega (arith, within, none))
          ∙ ap (λ m. drop m (names first) ++ take m (names first)) (sym none);
    }
