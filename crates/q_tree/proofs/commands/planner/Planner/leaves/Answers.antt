use Rattle.std.proofs.Common.{◌≡◌, ◌+◌, sym, subst, replicate, arith}
use Rattle.q_model.specs.Make.{implicit_pfifo}
use Rattle.q_tree.specs.commands.Making.{AreNew}
use Rattle.q_tree.proofs.commands.MakingLemmas.{more-new}
use Rattle.q_tree.specs.commands.Planning.{device_of}
use Rattle.q_tree.proofs.commands.planner.Planner.leaves.Goals as goal

pub loop-init : goal.loop-init
loop-init c = c.in_ok-nodes.ensures.items

pub loop-preserved : goal.loop-preserved
loop-preserved c =
    let leaf = implicit_pfifo (device_of c.args.self.now) in
    subst (λ xs. AreNew xs (replicate (c.loop.counter + 1) leaf)) (sym c.in_ok-push.ensures.items)
    (more-new c.loop.nodes.items c.implicit_pfifo.result leaf c.loop.counter c.loop.invariant c.implicit_pfifo.ensures)

pub returns-clause-new : goal.returns-clause-new
returns-clause-new c =
    let leaf = implicit_pfifo (device_of c.args.self.now) in
    let last : c.loop.counter ≡ c.args.count = omega (arith, c.loop-test.false, c.loop.auto.counter-end) in
    subst (λ k. AreNew c.loop.nodes.items (replicate k leaf)) last c.loop.invariant
