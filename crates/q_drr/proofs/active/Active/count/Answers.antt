use Rattle.std.proofs.Common.{length, sym, ap, ◌∙◌, arith}
use Rattle.std.proofs.lemmas.List.{length-map}
use Rattle.q_drr.specs.States.{class_in}
use Rattle.q_drr.proofs.SoundLemmas.{few, lawful}
use Rattle.q_drr.proofs.active.Active.count.Goals as goal

pub returns-clause-value : goal.returns-clause-value
returns-clause-value c = c.count.ensures ∙ sym (length-map c.self.inside.table class_in) ∙ ap (λ v. length v.classes) c.self.view_is

pub returns-clause-bound : goal.returns-clause-bound
returns-clause-bound c = let s = c.self.inside in omega (arith, c.count.ensures, few s.max_len s.turns s.table s.ring c.self.invariant)

pub returns-clause-lawful : goal.returns-clause-lawful
returns-clause-lawful c = let s = c.self.inside in lawful s.max_len s.turns s.table s.ring c.self.invariant c.args.self.now c.self.view_is
