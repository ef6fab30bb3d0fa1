use Rattle.std.proofs.Common.{sym, subst}
use Rattle.q_model.specs.Ranges.{IsCommand}
use Rattle.q_tree.specs.commands.Commanding.{WantsMemory}
use Rattle.q_tree.specs.commands.Planning.{IsLossless, IsPlanBy, planned_by}
use Rattle.q_tree.proofs.commands.planner.Planner.planned.Goals as goal

pub grafted-requires-clause-ranges : goal.grafted-requires-clause-ranges
grafted-requires-clause-ranges c = subst IsCommand c.in-QdiscAdd.is c.ranges-2.ensures

pub changed-requires-clause-ranges : goal.changed-requires-clause-ranges
changed-requires-clause-ranges c = subst IsCommand c.in-QdiscChange.is c.ranges-2.ensures

pub pruned-requires : goal.pruned-requires
pruned-requires c = record { ranges = subst IsCommand c.in-QdiscDel.is c.ranges-2.ensures }

pub class_added-requires : goal.class_added-requires
class_added-requires c = record { ranges = subst IsCommand c.in-ClassAdd.is c.ranges-2.ensures }

pub class_changed-requires : goal.class_changed-requires
class_changed-requires c = record { ranges = subst IsCommand c.in-ClassChange.is c.ranges-2.ensures }

pub class_removed-requires-clause-ranges : goal.class_removed-requires-clause-ranges
class_removed-requires-clause-ranges c = subst IsCommand c.in-ClassDel.is c.ranges-2.ensures

pub filter_added-requires : goal.filter_added-requires
filter_added-requires c = record { ranges = subst IsCommand c.in-FilterAdd.is c.ranges-2.ensures }

pub filters_removed-requires : goal.filters_removed-requires
filters_removed-requires c = record { ranges = subst IsCommand c.in-FilterDel.is c.ranges-2.ensures }

pub returns-in-QdiscAdd : goal.returns-in-QdiscAdd
returns-in-QdiscAdd c =
    let p = c.args.self.now in
    record {
      plan = subst (λ k. IsPlanBy p (WantsMemory k (planned_by p k)) k c.grafted.result) (sym c.in-QdiscAdd.is) c.grafted.ensures.plan;
      lossless = λ lossless. absurd (subst IsLossless c.in-QdiscAdd.is lossless);
    }

pub returns-in-QdiscChange : goal.returns-in-QdiscChange
returns-in-QdiscChange c =
    let p = c.args.self.now in
    record {
      plan = subst (λ k. IsPlanBy p (WantsMemory k (planned_by p k)) k c.changed.result) (sym c.in-QdiscChange.is) c.changed.ensures.plan;
      lossless = λ lossless. absurd (subst IsLossless c.in-QdiscChange.is lossless);
    }

pub returns-in-QdiscDel : goal.returns-in-QdiscDel
returns-in-QdiscDel c =
    let p = c.args.self.now in
    record {
      plan = subst (λ k. IsPlanBy p (WantsMemory k (planned_by p k)) k c.pruned.result) (sym c.in-QdiscDel.is) c.pruned.ensures.plan;
      lossless = λ lossless. absurd (subst IsLossless c.in-QdiscDel.is lossless);
    }

pub returns-in-ClassAdd : goal.returns-in-ClassAdd
returns-in-ClassAdd c =
    let p = c.args.self.now in
    record {
      plan = subst (λ k. IsPlanBy p (WantsMemory k (planned_by p k)) k c.class_added.result) (sym c.in-ClassAdd.is) c.class_added.ensures.plan;
      lossless = λ lossless. c.class_added.ensures.quiet;
    }

pub returns-in-ClassChange : goal.returns-in-ClassChange
returns-in-ClassChange c =
    let p = c.args.self.now in
    record {
      plan = subst (λ k. IsPlanBy p (WantsMemory k (planned_by p k)) k c.class_changed.result) (sym c.in-ClassChange.is) c.class_changed.ensures.plan;
      lossless = λ lossless. c.class_changed.ensures.quiet;
    }

pub returns-in-ClassDel : goal.returns-in-ClassDel
returns-in-ClassDel c =
    let p = c.args.self.now in
    record {
      plan = subst (λ k. IsPlanBy p (WantsMemory k (planned_by p k)) k c.class_removed.result) (sym c.in-ClassDel.is) c.class_removed.ensures.plan;
      lossless = λ lossless. absurd (subst IsLossless c.in-ClassDel.is lossless);
    }

pub returns-in-FilterAdd : goal.returns-in-FilterAdd
returns-in-FilterAdd c =
    let p = c.args.self.now in
    record {
      plan = subst (λ k. IsPlanBy p (WantsMemory k (planned_by p k)) k c.filter_added.result) (sym c.in-FilterAdd.is) c.filter_added.ensures.plan;
      lossless = λ lossless. c.filter_added.ensures.quiet;
    }

pub returns-in-FilterDel : goal.returns-in-FilterDel
returns-in-FilterDel c =
    let p = c.args.self.now in
    record {
      plan = subst (λ k. IsPlanBy p (WantsMemory k (planned_by p k)) k c.filters_removed.result) (sym c.in-FilterDel.is) c.filters_removed.ensures.plan;
      lossless = λ lossless. c.filters_removed.ensures.quiet;
    }
