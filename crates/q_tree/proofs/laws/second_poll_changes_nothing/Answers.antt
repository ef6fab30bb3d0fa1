use Rattle.std.proofs.Common.{◌≤◌, ◌^◌, ap, subst, ◌∙◌, arith}
use Rattle.q_model.specs.Node.{shape}
use Rattle.q_model.specs.Step.{DeviceState}
use Rattle.q_model.specs.TreeState.{given}
use Rattle.q_invariants.specs.Kept.{IsLawfulRoot}
use Rattle.q_invariants.proofs.tree.Forests.{lawful-with_memory}
use Rattle.q_tree.specs.Kept.{Kept}
use Rattle.q_tree.specs.TreeSeen.{tree_seen}
use Rattle.q_tree.proofs.laws.PolledTwice.{IsPolledTwice, polled-twice}
use Rattle.q_tree.proofs.TreeLemmas.{lawful-root, least-mtu}
use Rattle.q_tree.proofs.laws.second_poll_changes_nothing.Goals.{After-ns}
use Rattle.q_tree.proofs.laws.second_poll_changes_nothing.Goals as goal

twice : (c : After-ns) → IsPolledTwice c.args.now c.args.tree.now.tree
twice c =
    let later : c.tree.inside.clock ≤ c.args.now = omega (arith, ap (λ (d : DeviceState Kept). d.clock) c.tree.view_is, c.requires.order) in
    let low : c.args.now ≤ 2 ^ 62 = omega (arith, c.ns.ensures.in_range, c.ns.ensures.value) in
    let lawful : IsLawfulRoot c.tree.inside.mtu c.args.now (shape c.tree.inside.root) =
    lawful-with_memory c.tree.inside.mtu c.args.now (λ m. tt) c.tree.inside.root
    (lawful-root c.tree.inside c.tree.invariant.device c.args.now later low) in
    subst (λ (d : DeviceState Kept). IsPolledTwice c.args.now d.tree) c.tree.view_is
    (polled-twice c.args.now (tree_seen c.tree.inside).tree (least-mtu c.tree.inside c.tree.invariant.device) low lawful
    (ap (λ (d : DeviceState Kept). given c.args.now d.tree) c.tree.view_is ∙ c.requires.nothing))

pub returns-clause-packet : goal.returns-clause-packet
returns-clause-packet c = (twice (goal.at.returns-clause-packet c).After-ns).packet

pub returns-clause-quiet : goal.returns-clause-quiet
returns-clause-quiet c = (twice (goal.at.returns-clause-quiet c).After-ns).quiet

pub returns-clause-same : goal.returns-clause-same
returns-clause-same c = (twice (goal.at.returns-clause-same c).After-ns).same
