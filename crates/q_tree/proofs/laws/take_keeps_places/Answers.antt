use Rattle.std.proofs.Common.{◌≡◌, ◌≤◌, ◌^◌, ℕ, List, ap, subst, arith}
use Rattle.q_model.specs.Step.{DeviceState}
use Rattle.q_model.specs.TreeState.{peek_packet, take_packet}
use Rattle.q_tree.specs.arrival.Places.{places_at}
use Rattle.q_tree.specs.Kept.{Kept, kept}
use Rattle.q_tree.specs.TreeSeen.{tree_seen}
use Rattle.q_tree.proofs.laws.TakePlaces.{peek-places, take-places}
use Rattle.q_tree.proofs.TreeLemmas.{lawful-root, least-mtu}
use Rattle.q_tree.proofs.laws.take_keeps_places.Goals as goal

pub returns-clause-peek : goal.returns-clause-peek
returns-clause-peek c =
    let later : c.tree.inside.clock ≤ c.args.now = omega (arith, ap (λ (d : DeviceState Kept). d.clock) c.tree.view_is, c.requires) in
    let low : c.args.now ≤ 2 ^ 62 = omega (arith, c.ns.ensures.in_range, c.ns.ensures.value) in
    subst (λ (d : DeviceState Kept). (way : List ℕ) → places_at way (peek_packet kept c.args.now d.tree).root ≡ places_at way d.tree.root) c.tree.view_is
    (peek-places c.tree.inside.mtu c.args.now (least-mtu c.tree.inside c.tree.invariant.device) low (tree_seen c.tree.inside).tree
    (lawful-root c.tree.inside c.tree.invariant.device c.args.now later low))

pub returns-clause-take : goal.returns-clause-take
returns-clause-take c =
    let later : c.tree.inside.clock ≤ c.args.now = omega (arith, ap (λ (d : DeviceState Kept). d.clock) c.tree.view_is, c.requires) in
    let low : c.args.now ≤ 2 ^ 62 = omega (arith, c.ns.ensures.in_range, c.ns.ensures.value) in
    subst (λ (d : DeviceState Kept). (way : List ℕ) → places_at way (take_packet kept c.args.now d.tree).root ≡ places_at way d.tree.root) c.tree.view_is
    (take-places c.tree.inside.mtu c.args.now (least-mtu c.tree.inside c.tree.invariant.device) low (tree_seen c.tree.inside).tree
    (lawful-root c.tree.inside c.tree.invariant.device c.args.now later low))
