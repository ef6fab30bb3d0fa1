use Rattle.std.proofs.Common.{ℕ, ◌∙◌, subst, sym}
use Rattle.qtree_c.specs.answers.Readiness.{IsReady}
use Rattle.qtree_c.proofs.answers.Readying.{moment-found}
use Rattle.qtree_c.proofs.answers.readiness.ready_at.Goals as goal

pub returns-in-Some-clause-ready : goal.returns-in-Some-clause-ready
returns-in-Some-clause-ready c =
    subst (λ (k : ℕ). IsReady 0 c.args.moment.now k c.args.device.now c.args.device.now) (sym c.ns.ensures.value)
    (moment-found c.args.moment.now c.in-Some.at c.args.device.now (sym c.ready_at.ensures.value ∙ c.in-Some.is) c.in-Some.ensures.early)
