use Rattle.std.proofs.Common.{rules, arith, refl}
use Rattle.std.proofs.lemmas.Bool.{false≢true}
use Rattle.qtree_c.proofs.frames.arrive.Goals as goal

pub returns-in-Err-clause-arrival : goal.returns-in-Err-clause-arrival
returns-in-Err-clause-arrival c = record {
  arrived = λ few. absurd (omega (arith, few));
  fate = λ few. absurd (omega (arith, few));
  nothing = λ _. c.in-Err.ensures.stays.stays;
  in_range = λ _. search rules;
  out_of_range = λ _ e. absurd (omega (arith, e));
  memory = λ _ _. refl;
  succeeds = λ _ room. absurd (false≢true (c.in-Err.ensures.succeeds (search rules)));
  places = c.arrive.ensures.places;
  keeps = λ _. c.in-Err.ensures.stays.room;
}
