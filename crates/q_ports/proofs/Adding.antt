-- The exchange that adds a row keeps the rule of the book.
use Rattle.std.proofs.Common.{◌≡◌, ℕ, ◌+◌, ◌<◌, ◌==◌, Bool, true, false, List, [], ◌∷◌, ◌++◌, length, refl, ap, sym, subst, arith, inl, length-append, None}
use Rattle.std.proofs.lemmas.List.{append-nil}
use Rattle.std.proofs.lemmas.Bool.Decides.{nat_tests}
use mathlib.Core.List.{IsPrefix}
use prog.Atomic.{either}
use Rattle.logbook.specs.Pages.{Cell, cell, keeps, no_nib, step, Moves, Goes}
use Rattle.q_model.specs.declared.row.Row.{Row}
use Rattle.q_ports.specs.Rows.{opening, IsLegal, MayFollow}
use Rattle.q_ports.specs.Rules.{IsKept, Adds}
use Rattle.q_ports.proofs.Prefixes.{prefix_whole}
use Rattle.q_ports.proofs.Rising.{rising-push}

abbrev pub shown : List Row → List Row
shown log = []

abbrev pub moved : List Row → List Row → ℕ → Type 0
moved xs ys n = Unit {0}

adds_goes : (log v : List Row) (e : Row) (old more : ℕ) → length v ≡ old → more ≡ old + 1 → MayFollow v e → IsLegal log → IsPrefix v log
    → (b : Bool) → (length log == old) ≡ b
    → Goes IsKept shown moved 0 (v, (no_nib, None)) (λ n. either (n == old) more n) (Adds (step 0 old more e) (v, (no_nib, None))) ((length log, true) ∷ (0, true) ∷ []) log
adds_goes log v e old more len next may legal pre true is =
    let here : length log ≡ old = grind (arith, nat_tests) in
    let same : v ≡ log = prefix_whole v log pre (omega arith) in
    let follows : MayFollow log e = subst (λ (xs : List Row). MayFollow xs e) same may in
    let legal' : IsLegal (log ++ e ∷ []) = rising-push opening log e legal follows.0 follows.1 in
    let n : either (length log == old) more (length log) ≡ length (log ++ e ∷ []) = rw is (omega (arith, length-append log (e ∷ []))) in (
      keeps,
      e ∷ [],
      None,
      tt,
      record { words = ap (λ (k : ℕ). (k, true) ∷ (0, true) ∷ []) n; legal = legal' },
      inl (refl, refl),
      rw is (ap (λ w. w ++ e ∷ []) (sym same), legal'),
    )
adds_goes log v e old more len next may legal pre false is =
    let all : log ++ [] ≡ log = append-nil log in
    let legal' : IsLegal (log ++ []) = subst IsLegal (sym all) legal in
    let n : either (length log == old) more (length log) ≡ length (log ++ []) = rw is (ap length (sym all)) in (
      keeps,
      [],
      None,
      tt,
      record { words = ap (λ (k : ℕ). (k, true) ∷ (0, true) ∷ []) n; legal = legal' },
      inl (refl, refl),
      rw is legal',
    )

-- whatever the book is, the exchange adds the row to all that was seen, or finds that the history is longer
pub adds_moves : (v : List Row) (e : Row) (old more : ℕ) → length v ≡ old → more ≡ old + 1 → MayFollow v e
    → Moves IsKept shown moved 0 (v, (no_nib, None)) (λ n. either (n == old) more n) (Adds (step 0 old more e) (v, (no_nib, None)))
adds_moves v e old more len next may cs log kept pre away =
    let P : List Cell → Type 0 =
    λ c. (0 < length c) × ((cell c 0).1 ≡ true) × Goes IsKept shown moved 0 (v, (no_nib, None)) (λ n. either (n == old) more n)
    (Adds (step 0 old more e) (v, (no_nib, None))) c log in
    subst P (sym kept.words) (omega arith, refl, adds_goes log v e old more len next may kept.legal pre (length log == old) refl)
