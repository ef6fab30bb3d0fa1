-- What a recorder has after one event more.
use Rattle.std.proofs.Common.{◌≡◌, ◌≤◌, ℕ, List, [], ◌∷◌, ◌++◌, length, true, false, refl, ap, arith}
use Rattle.std.proofs.lemmas.Bool.{cond_above}
use Rattle.std.proofs.lemmas.List.{length-append}
use Rattle.std.specs.Prelude.{Bool, nat_lt, if◌then◌else◌}
use Rattle.q_device.specs.device.DeviceSeen.{with_recorded}

module _ {A : Type 0} (most : ℕ) (e : A) (es : List A) where
  abbrev with_room : Bool → List A
  with_room b = if b then es ++ e ∷ [] else es

  pub kept : true ≡ nat_lt (length es) most → es ++ e ∷ [] ≡ with_recorded most e es
  kept room = ap with_room room

  pub not-kept : false ≡ nat_lt (length es) most → es ≡ with_recorded most e es
  not-kept full = ap with_room full

  -- none is taken away
  pub grows : length es ≤ length (with_recorded most e es)
  grows = by (nat_lt (length es) most) where
    by : (b : Bool) → length es ≤ length (with_room b)
    by true = omega (arith, length-append es (e ∷ []))
    by false = omega arith

  -- where the recorder is full it stays as it is
  pub full : most ≤ length es → es ≡ with_recorded most e es
  full is = cond_above (length es) most (es ++ e ∷ []) es es is refl
