use Rattle.std.proofs.Common.{Some, refl}
use Rattle.q_model.specs.Make.{Device}
use Rattle.q_tree.proofs.commands.MakingLemmas.{made-is, made-kept}
use Rattle.q_tree.specs.commands.Planning.{device_of}
use Rattle.q_tree.proofs.commands.planner.Planner.made.Goals as goal

pub invariant_of-result : goal.invariant_of-result
invariant_of-result c =
    let d : Device = device_of c.args.self.now in
    made-kept d c.args.self.now.moment (Some c.args.handle) c.args.kind.now
    (record {
      handle = Some c.args.handle;
      held = c.nothing.result;
      filters = c.none.result;
      row = c.none-2.result;
      discipline =
          c.in_ok-discipline.discipline;
    }) c.in_ok-discipline.ensures.new refl c.nothing.ensures c.none.ensures c.none-2.ensures
    c.args.self.now.positive c.args.self.now.small c.ranges-2.ensures

pub returns-clause-new : goal.returns-clause-new
returns-clause-new c =
    let d : Device = device_of c.args.self.now in
    made-is d c.args.self.now.moment (Some c.args.handle) c.args.kind.now
    (record {
      handle = Some c.args.handle;
      held = c.nothing.result;
      filters = c.none.result;
      row = c.none-2.result;
      discipline =
          c.in_ok-discipline.discipline;
    }) c.in_ok-discipline.ensures.new refl c.nothing.ensures c.none.ensures c.none-2.ensures
