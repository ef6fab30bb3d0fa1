use Rattle.std.proofs.Common.{◌≤◌, ◌^◌, ap, subst, arith}
use Rattle.q_packet.specs.Descriptor.{Descriptor}
use Rattle.q_model.specs.Step.{DeviceState}
use Rattle.q_model.specs.TreeState.{peek_packet, put, take_packet}
use Rattle.q_tree.specs.answers.MostPackets.{most_packets}
use Rattle.q_tree.specs.Kept.{Kept, kept}
use Rattle.q_tree.specs.TreeSeen.{tree_seen}
use Rattle.q_tree.proofs.answers.MostPacketsTrees.{peek-least, put-least, take-least}
use Rattle.q_tree.proofs.TreeLemmas.{lawful-root, least-mtu}
use Rattle.q_tree.proofs.laws.no_more_is_held.Goals as goal

pub returns-clause-put : goal.returns-clause-put
returns-clause-put c =
    let later : c.tree.inside.clock ≤ c.args.now = omega (arith, ap (λ (d : DeviceState Kept). d.clock) c.tree.view_is, c.requires) in
    let low : c.args.now ≤ 2 ^ 62 = omega (arith, c.ns.ensures.in_range, c.ns.ensures.value) in
    subst (λ (d : DeviceState Kept). (p : Descriptor) → 1 ≤ p.len → most_packets (put kept c.args.now p d.tree).root ≤ most_packets d.tree.root) c.tree.view_is
    (put-least kept c.args.now (tree_seen c.tree.inside).tree (least-mtu c.tree.inside c.tree.invariant.device) low (lawful-root c.tree.inside c.tree.invariant.device c.args.now later low))

pub returns-clause-peek : goal.returns-clause-peek
returns-clause-peek c =
    let later : c.tree.inside.clock ≤ c.args.now = omega (arith, ap (λ (d : DeviceState Kept). d.clock) c.tree.view_is, c.requires) in
    let low : c.args.now ≤ 2 ^ 62 = omega (arith, c.ns.ensures.in_range, c.ns.ensures.value) in
    subst (λ (d : DeviceState Kept). most_packets (peek_packet kept c.args.now d.tree).root ≤ most_packets d.tree.root) c.tree.view_is
    (peek-least kept c.args.now (tree_seen c.tree.inside).tree (least-mtu c.tree.inside c.tree.invariant.device) low (lawful-root c.tree.inside c.tree.invariant.device c.args.now later low))

pub returns-clause-take : goal.returns-clause-take
returns-clause-take c =
    let later : c.tree.inside.clock ≤ c.args.now = omega (arith, ap (λ (d : DeviceState Kept). d.clock) c.tree.view_is, c.requires) in
    let low : c.args.now ≤ 2 ^ 62 = omega (arith, c.ns.ensures.in_range, c.ns.ensures.value) in
    subst (λ (d : DeviceState Kept). most_packets (take_packet kept c.args.now d.tree).root ≤ most_packets d.tree.root) c.tree.view_is
    (take-least kept c.args.now (tree_seen c.tree.inside).tree (least-mtu c.tree.inside c.tree.invariant.device) low (lawful-root c.tree.inside c.tree.invariant.device c.args.now later low))
