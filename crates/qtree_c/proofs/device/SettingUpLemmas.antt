-- What is answered on a report of a set-up.
use Rattle.std.proofs.Common.{◌≡◌, ◌≢◌, ◌<◌, ◌∙◌, ℕ, List, [], ◌∷◌, length, refl, sym, ap, subst, arith}
use Rattle.std.specs.Prelude.{Bool, true, false, is_some, Option, Some, None, ◌⊎◌}
use Rattle.std.proofs.lemmas.Bool.{false≢true}
use mathlib.Core.Logic.{inl, inr}
use Rattle.q_model.specs.declared.refusal.Refusal.{Refusal}
use Rattle.q_device.specs.device.DeviceSeen.{DeviceSeen}
use Rattle.q_setup.specs.declared.report.Report.{Report}
use Rattle.q_setup.specs.SetUp.{IsSetUp}
use Rattle.q_setup.specs.Tried.{Tried}

module _ (r : Report) (code : ℕ) (done : r.is_set_up ≡ true → code ≡ 0) (memory : r.is_set_up ≢ true → is_some r.refusal ≡ true → code ≡ 90)
    (undone : r.is_set_up ≢ true → r.refusal ≡ None → code ≡ 44) where
  abbrev Answers : Type 0
  Answers = ((r.is_set_up ≡ true) × (code ≡ 0)) ⊎ (((r.is_set_up ≡ false) × (r.refusal ≡ None) × (code ≡ 44)) ⊎ ((r.is_set_up ≡ false) × (code ≡ 90)))

  answers : Answers
  answers = by r.is_set_up refl r.refusal refl where
    by : (set_up : Bool) → r.is_set_up ≡ set_up → (refusal : Option Refusal) → r.refusal ≡ refusal → Answers
    by true e refusal f = inl (e, done e)
    by false e None f = inr (inl (e, f, undone (λ h. false≢true (sym e ∙ h)) f))
    by false e (Some refusal) f = inr (inr (e, memory (λ h. false≢true (sym e ∙ h)) (ap is_some f)))

  pub other_answers : code ≢ 0 → code ≢ 44 → code ≡ 90
  other_answers ne nf = by answers where
    by : Answers → code ≡ 90
    by (inl a) = absurd (ne a.1)
    by (inr (inl a)) = absurd (nf a.2)
    by (inr (inr a)) = a.1

  pub set_up_by : (t : Tried) (d : DeviceSeen) → (r.is_set_up ≡ true → IsSetUp t r.refusal d) → code ≡ 0 → IsSetUp t None d
  set_up_by t d h zero_is = by answers where
    by : Answers → IsSetUp t None d
    by (inl a) = let is = h a.0 in subst (λ (o : Option Refusal). IsSetUp t o d) is.accepted is
    by (inr (inl a)) = let is = a.2 in absurd (omega (arith, is, zero_is))
    by (inr (inr a)) = let is = a.1 in absurd (omega (arith, is, zero_is))

  -- where all lines are done, 0 is answered unless an allocation failed
  module _ {A : Type 0} (lines : List A) (finished : lines ≡ [] → r.refusal ≡ None → r.is_set_up ≡ true) where
    pub done_unless : lines ≡ [] → code ≢ 90 → code ≡ 0
    done_unless none ne = by answers where
      by : Answers → code ≡ 0
      by (inl a) = a.1
      by (inr (inl a)) = absurd (false≢true (sym a.0 ∙ finished none a.1))
      by (inr (inr a)) = absurd (ne a.1)

    pub some_undone : code ≡ 44 → 0 < length lines
    some_undone is = by answers lines refl where
      by : Answers → (xs : List A) → lines ≡ xs → 0 < length xs
      by (inl a) xs e = let other = a.1 in absurd (omega (arith, is, other))
      by (inr (inl a)) [] e = absurd (false≢true (sym a.0 ∙ finished e a.1))
      by (inr (inl a)) (x ∷ xs) e = omega arith
      by (inr (inr a)) xs e = let other = a.1 in absurd (omega (arith, is, other))
