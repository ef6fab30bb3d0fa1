use Rattle.std.proofs.Common.{◌<◌, length, sym, ap, ◌∙◌, subst, arith, add-one}
use Rattle.q_drr.specs.Schedule.{Entry}
use Rattle.q_drr.specs.Rounds.{front_given, IsFrontWithin}
use Rattle.q_drr.proofs.RoundLemmas.{rounds_part, rounds_more, part_within}
use Rattle.q_drr.proofs.active.Active.grant_rounds.Goals.{In-loop-passed}
use Rattle.q_drr.proofs.active.Active.grant_rounds.Goals as goal

some_entry : Entry
some_entry = record { class = 0; deficit = 0; granted = 0 }

less : (c : In-loop-passed) → c.loop-passed._passed < length c.args.self.now.active
less c = omega (arith, c.loop-passed-test.true, c.loop-passed.invariant.end)

pub grant_front-requires-clause-within : goal.grant_front-requires-clause-within
grant_front-requires-clause-within c =
    subst (IsFrontWithin c.args.rounds) (sym c.loop-passed.invariant.part)
    (part_within c.args.rounds c.loop-passed._passed c.args.self.now some_entry (less (goal.at.grant_front-requires-clause-within c).In-loop-passed) c.requires.within)

pub loop-passed-preserved : goal.loop-passed-preserved
loop-passed-preserved c = record {
  part = c.grant_front.ensures ∙ ap (front_given c.args.rounds) c.loop-passed.invariant.part
      ∙ rounds_more c.args.rounds c.loop-passed._passed c.args.self.now some_entry (less (goal.at.loop-passed-preserved c).In-loop-passed)
      ∙ ap (λ p. rounds_part c.args.rounds p c.args.self.now) (sym (add-one c.loop-passed._passed));
  end = c.loop-passed.invariant.end;
}
