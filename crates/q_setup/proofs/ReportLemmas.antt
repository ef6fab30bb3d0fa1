-- What a report says.
use Rattle.std.proofs.Common.{◌≡◌, ◌∙◌, List, [], ◌∷◌, Result, Ok, Err, arith, length, refl, sym}
use Rattle.std.specs.Prelude.{IfOk, Option, Some, None, ◌==◌, is_none, not, true}
use Rattle.std.proofs.lemmas.Bool.{eqb-true, false≢true}
use Rattle.q_model.specs.declared.refusal.Refusal.{Refusal}
use Rattle.q_device.specs.device.DeviceSeen.{DeviceSeen}
use Rattle.q_setup.specs.declared.report.Report.{Report}
use Rattle.q_setup.specs.Alike.{AreAlike, entries}
use Rattle.q_setup.specs.SetUp.{IsSetUp}
use Rattle.q_setup.specs.Tried.{Tried}

pub none_in : {A : Type 0} (xs : List A) → (length xs == 0) ≡ true → xs ≡ []
none_in [] e = refl
none_in (x ∷ xs) e = let none = eqb-true (length (x ∷ xs)) 0 e in absurd (omega (arith, none))

none_where : (refusal : Option Refusal) → is_none refusal ≡ true → refusal ≡ None
none_where None e = refl
none_where (Some refusal) e = absurd (false≢true e)

-- every line is done, and the trees are alike where no command was refused
pub set_up_where : {E : Type 0} (result : Result Report E) (t : Tried) (d : DeviceSeen) → t.undone ≡ [] → IfOk result (λ r. r.is_set_up ≡ is_none r.refusal)
    → IfOk result (λ r. r.refusal ≡ None → AreAlike (not t.names_chosen) (entries t.device.tree) (entries d.device.tree))
    → IfOk result (λ r. r.is_set_up ≡ true → IsSetUp t r.refusal d)
set_up_where (Err e) t d all told alike = told
set_up_where (Ok r) t d all told alike = λ yes.
    let none = none_where r.refusal (sym told ∙ yes) in
    record { done = all; accepted = none; tree = alike none }
