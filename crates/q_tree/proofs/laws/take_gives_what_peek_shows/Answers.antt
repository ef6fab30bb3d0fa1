use Rattle.std.proofs.Common.{◌≡◌, ◌≤◌, ◌^◌, ap, subst, arith}
use Rattle.q_model.specs.Node.{shape}
use Rattle.q_model.specs.Step.{DeviceState}
use Rattle.q_model.specs.TreeState.{given, peek_packet, take_packet}
use Rattle.q_invariants.specs.Kept.{IsLawfulRoot}
use Rattle.q_invariants.proofs.again.SecondPeeks.{given-again}
use Rattle.q_invariants.proofs.again.TakeAfterPeek.{take-after_peek}
use Rattle.q_invariants.proofs.tree.Forests.{lawful-with_memory}
use Rattle.q_tree.specs.Kept.{Kept, kept}
use Rattle.q_tree.specs.TreeSeen.{tree_seen}
use Rattle.q_tree.proofs.TreeLemmas.{lawful-root, least-mtu}
use Rattle.q_tree.proofs.laws.take_gives_what_peek_shows.Goals as goal

pub returns-clause-packet : goal.returns-clause-packet
returns-clause-packet c =
    let later : c.tree.inside.clock ≤ c.args.now = omega (arith, ap (λ (d : DeviceState Kept). d.clock) c.tree.view_is, c.requires) in
    let low : c.args.now ≤ 2 ^ 62 = omega (arith, c.ns.ensures.in_range, c.ns.ensures.value) in
    let lawful : IsLawfulRoot c.tree.inside.mtu c.args.now (shape c.tree.inside.root) =
    lawful-with_memory c.tree.inside.mtu c.args.now (λ m. tt) c.tree.inside.root
    (lawful-root c.tree.inside c.tree.invariant.device c.args.now later low) in
    subst (λ (d : DeviceState Kept). given c.args.now (peek_packet kept c.args.now d.tree) ≡ given c.args.now d.tree) c.tree.view_is
    (given-again kept c.args.now (tree_seen c.tree.inside).tree (least-mtu c.tree.inside c.tree.invariant.device) low lawful)

pub returns-clause-after : goal.returns-clause-after
returns-clause-after c =
    let later : c.tree.inside.clock ≤ c.args.now = omega (arith, ap (λ (d : DeviceState Kept). d.clock) c.tree.view_is, c.requires) in
    let low : c.args.now ≤ 2 ^ 62 = omega (arith, c.ns.ensures.in_range, c.ns.ensures.value) in
    let lawful : IsLawfulRoot c.tree.inside.mtu c.args.now (shape c.tree.inside.root) =
    lawful-with_memory c.tree.inside.mtu c.args.now (λ m. tt) c.tree.inside.root
    (lawful-root c.tree.inside c.tree.invariant.device c.args.now later low) in
    subst (λ (d : DeviceState Kept). take_packet kept c.args.now (peek_packet kept c.args.now d.tree) ≡ take_packet kept c.args.now d.tree)
    c.tree.view_is (take-after_peek kept c.args.now (tree_seen c.tree.inside).tree (least-mtu c.tree.inside c.tree.invariant.device) low lawful)
