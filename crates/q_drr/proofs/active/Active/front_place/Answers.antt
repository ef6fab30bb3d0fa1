use Rattle.std.proofs.Common.{◌≡◌, Some, None, is_some, refl, ap, ◌∙◌}
use Rattle.std.specs.Prelude.{Option, option_map}
use Rattle.q_drr.specs.States.{name_in}
use Rattle.q_drr.proofs.SoundLemmas.{lawful, front_placed, front_shown}
use Rattle.q_drr.proofs.active.Active.front_place.Goals as goal

pub returns-clause-place : goal.returns-clause-place
returns-clause-place c = let s = c.self.inside in front_placed s.max_len s.turns s.table s.ring c.self.invariant c.args.self.now c.front.result c.self.view_is c.front.ensures

is_some_map : {A B : Type 0} (f : A → B) (o : Option A) → is_some o ≡ is_some (option_map f o)
is_some_map f None = refl
is_some_map f (Some x) = refl

pub returns-clause-found : goal.returns-clause-found
returns-clause-found c =
    let s = c.self.inside in
    is_some_map (λ place. name_in s.table place) c.front.result
    ∙ ap is_some (ap (option_map (name_in s.table)) c.front.ensures ∙ front_shown s.max_len s.turns s.table s.ring c.self.invariant c.args.self.now c.self.view_is)

pub returns-clause-lawful : goal.returns-clause-lawful
returns-clause-lawful c = let s = c.self.inside in lawful s.max_len s.turns s.table s.ring c.self.invariant c.args.self.now c.self.view_is
