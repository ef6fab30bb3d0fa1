-- The turns of driving, one by one.
use Rattle.std.proofs.Common.{◌≡◌, ◌∙◌, ℕ, zero, suc, ◌+◌, ◌*◌, ◌-◌, ◌^◌, ◌<◌, ◌≤◌, List, [], ◌∷◌, refl, sym, ap, subst, arith, ⊎_elim, Result, Ok, Err, IfOk, OnErr}
use Rattle.std.specs.Prelude.{min}
use Rattle.std.proofs.Math.Nat.{mul-zero, le-mul_of_pos_right}
use Rattle.std.proofs.lemmas.Bool.{cases_lt}
use Rattle.std.specs.declared.alloc.AllocError.{AllocError}
use Rattle.q_ports.specs.DriveTurns.{most, AreTurns, HasTurned, ShowsTurns, TurnsBelow}
use Rattle.q_ports.specs.Rows.{BoardSeen}
use Rattle.q_ports.specs.Turned.{DrainSeen, TurnedSome}
use Rattle.q_ports.specs.declared.turn.Turn.{Turn}

pub no-turns : (start step : ℕ) (d : DrainSeen) → TurnsBelow start step 0 d d
no-turns start step d = record { drains = []; turns = refl }

pub no-turns-at-all : (start step : ℕ) (d : DrainSeen) → HasTurned start step d d
no-turns-at-all start step d = record { count = 0; turned = no-turns start step d }

-- the numbers of turns may stand below a higher one
below-more : (start step count more : ℕ) (first last : DrainSeen) (drains : List (ℕ × DrainSeen)) → count ≤ more
    → AreTurns start step count first drains last → AreTurns start step more first drains last
below-more start step count more first last [] le h = h
below-more start step count more first last (d ∷ drains) le h = (omega (arith, le, h.0), h.1, h.2)

-- Counting stops at 2^64 - 1, but no turn from there on has another moment: a step is a nanosecond at least, which makes the latest
-- moment of it, or there is none.
same-moment : (start step count : ℕ) → min (start + min count (2 ^ 64 - 1) * step) (2 ^ 62) ≡ min (start + count * step) (2 ^ 62)
same-moment start zero count = ap (λ (n : ℕ). min (start + n) (2 ^ 62)) (mul-zero (min count (2 ^ 64 - 1)) ∙ sym (mul-zero count))
same-moment start (suc step) count =
    let capped = le-mul_of_pos_right {m = suc step} (min count (2 ^ 64 - 1)) (omega arith) in
    let whole = le-mul_of_pos_right {m = suc step} count (omega arith) in
    ⊎_elim
    (λ (few : count < 2 ^ 64). ap (λ (n : ℕ). min (start + n * suc step) (2 ^ 62)) (omega (arith, few)))
    (λ (many : 2 ^ 64 ≤ count). omega (arith, capped, whole, many))
    (cases_lt count (2 ^ 64))

-- a turn more, which may have been refused
pub turn-more : (start step count now : ℕ) (first before after : DrainSeen) (r : Result Turn AllocError)
    → now ≡ min (start + min count (2 ^ 64 - 1) * step) (2 ^ 62) → TurnsBelow start step count first before
    → IfOk r (λ (t : Turn). TurnedSome now most before after t) → OnErr r (after ≡ before) → TurnsBelow start step (count + 1) first after
turn-more start step count now first before after (Ok t) at h turned same = record {
  drains = (count, before) ∷ h.drains;
  turns = (omega arith, record { turn = t; turned = subst (λ (m : ℕ). TurnedSome m most before after t) (at ∙ same-moment start step count) turned }, h.turns);
}
turn-more start step count now first before after (Err e) at h turned same =
    subst (λ (d : DrainSeen). TurnsBelow start step (count + 1) first d) (sym same)
    (record { drains = h.drains; turns = below-more start step count (count + 1) first before h.drains (omega arith) h.turns })

pub shows-turns : (start step : ℕ) (before last : DrainSeen) (board : BoardSeen) → HasTurned start step before last → board ≡ last.board → ShowsTurns start step before board
shows-turns start step before last board h e = record { last = last; turned = h; shown = e }
