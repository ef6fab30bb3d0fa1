use Rattle.std.proofs.Common.{◌≡◌, List, [], ◌∷◌, ◌++◌, length, not, ◌==◌, true, false, refl, sym, ap, ◌∙◌, arith}
use Rattle.std.proofs.lemmas.Bool.{ne_eqb}
use Rattle.std.specs.Prelude.{slice_get}
use Rattle.q_fqcodel.specs.Entry.{Entry}
use Rattle.q_fqcodel.specs.FqState.{FqView}
use Rattle.q_fqcodel.specs.Take.{front}
use Rattle.q_fqcodel.proofs.fq_codel.FqCodel.first.Goals as goal

-- the first of two lists is the first of the one before, where that has one, or of the one behind
before_is : (xs ys : List Entry) → not (length xs == 0) ≡ true → slice_get xs 0 ≡ slice_get (xs ++ ys) 0
before_is [] ys h = absurd cc
before_is (x ∷ xs) ys h = refl

behind_is : (xs ys : List Entry) → not (length xs == 0) ≡ false → slice_get ys 0 ≡ slice_get (xs ++ ys) 0
behind_is [] ys h = refl
behind_is (x ∷ xs) ys h = let wrong : true ≡ false = sym (ap not (ne_eqb (length (x ∷ xs)) 0 (omega arith))) ∙ h in absurd cc

pub returns-then-has_new : goal.returns-then-has_new
unfolding front
returns-then-has_new c =
    c.first_new.ensures
    ∙ before_is c.self.inside.lists.new_flows c.self.inside.lists.old_flows (ap (λ (v : FqView). not (length v.state.new_flows == 0)) c.self.view_is ∙ sym c.has_new.ensures ∙ c.if-has_new.true)
    ∙ ap (λ (v : FqView). slice_get (v.state.new_flows ++ v.state.old_flows) 0) c.self.view_is

pub returns : goal.returns
unfolding front
returns c =
    c.first_old.ensures
    ∙ behind_is c.self.inside.lists.new_flows c.self.inside.lists.old_flows (ap (λ (v : FqView). not (length v.state.new_flows == 0)) c.self.view_is ∙ sym c.has_new.ensures ∙ c.if-has_new.false)
    ∙ ap (λ (v : FqView). slice_get (v.state.new_flows ++ v.state.old_flows) 0) c.self.view_is
