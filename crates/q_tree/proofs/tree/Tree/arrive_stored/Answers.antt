use Rattle.std.proofs.Common.{Ok, ◌≤◌, ◌^◌, ◌∙◌, sym, ap, subst, arith}
use Rattle.q_packet.specs.Stored.{descriptor}
use Rattle.q_model.specs.Step.{DeviceState}
use Rattle.q_model.specs.Tally.{totals}
use Rattle.q_model.specs.TreeState.{put}
use Rattle.q_tree.specs.arrival.Arrivals.{CanCount}
use Rattle.q_tree.specs.arrival.ArriveSteps.{nothing_lost}
use Rattle.q_tree.specs.arrival.Places.{places_at}
use Rattle.q_tree.specs.Kept.{Kept, kept}
use Rattle.q_tree.specs.route.RouteSeen.{route_seen}
use Rattle.q_tree.specs.TreeSeen.{CanArrive, tree_numbers}
use Rattle.q_tree.proofs.arrival.TreeArrivals.{at-root, can-come, tree-after, tree-exact, tree-indexed, tree-places}
use Rattle.q_tree.proofs.tree.Tree.arrive_stored.Goals as goal
use Rattle.q_tree.proofs.TreeLemmas.{top-row}

pub keep_stored-requires-clause-ready : goal.keep_stored-requires-clause-ready
keep_stored-requires-clause-ready g c =
    let later : c.self.inside.clock ≤ c.args.now = omega (arith, ap (λ (d : DeviceState Kept). d.clock) c.self.view_is, c.requires.order) in
    let low : c.args.now ≤ 2 ^ 62 = omega (arith, c.ns.ensures.in_range, c.ns.ensures.value) in
    let byte : 1 ≤ c.args.packet.now.len = c.requires.in_range.len in
    let room : CanCount c.self.inside.top.arrived (descriptor c.args.packet.now) =
    subst (λ (d : DeviceState Kept). CanCount d.tree.top.counts.arrived (descriptor c.args.packet.now)) (sym c.self.view_is) c.requires.counted in
    let short : c.args.packet.now.len ≤ c.self.inside.mtu = omega (arith, c.if-packet-self.true) in
    can-come c.self.inside c.self.invariant c.args.now (descriptor c.args.packet.now) later low byte room short

pub book_kept-requires-clause-balanced : goal.book_kept-requires-clause-balanced
book_kept-requires-clause-balanced g c = (top-row c.self.inside c.self.invariant.device).balanced

pub invariant_of-self : goal.invariant_of-self
invariant_of-self g c =
    let later : c.self.inside.clock ≤ c.args.now = omega (arith, ap (λ (d : DeviceState Kept). d.clock) c.self.view_is, c.requires.order) in
    let low : c.args.now ≤ 2 ^ 62 = omega (arith, c.ns.ensures.in_range, c.ns.ensures.value) in
    let byte : 1 ≤ c.args.packet.now.len = c.requires.in_range.len in
    let room : CanCount c.self.inside.top.arrived (descriptor c.args.packet.now) =
    subst (λ (d : DeviceState Kept). CanCount d.tree.top.counts.arrived (descriptor c.args.packet.now)) (sym c.self.view_is) c.requires.counted in
    let short : c.args.packet.now.len ≤ c.self.inside.mtu = omega (arith, c.if-packet-self.true) in
    let come = at-root c.args.now (descriptor c.args.packet.now) c.self.inside.mtu c.self.inside.root c.keep_stored.new.self (Ok nothing_lost) short c.keep_stored.ensures.after in
    tree-indexed c.self.inside c.self.invariant c.args.now (descriptor c.args.packet.now) later low byte room nothing_lost c.keep_stored.new.self come c.book_kept.new.row c.book_kept.ensures

pub returns-then-can_keep-clause-after : goal.returns-then-can_keep-clause-after
returns-then-can_keep-clause-after g c =
    let later : c.self.inside.clock ≤ c.args.now = omega (arith, ap (λ (d : DeviceState Kept). d.clock) c.self.view_is, c.requires.order) in
    let low : c.args.now ≤ 2 ^ 62 = omega (arith, c.ns.ensures.in_range, c.ns.ensures.value) in
    let byte : 1 ≤ c.args.packet.now.len = c.requires.in_range.len in
    let room : CanCount c.self.inside.top.arrived (descriptor c.args.packet.now) =
    subst (λ (d : DeviceState Kept). CanCount d.tree.top.counts.arrived (descriptor c.args.packet.now)) (sym c.self.view_is) c.requires.counted in
    let short : c.args.packet.now.len ≤ c.self.inside.mtu = omega (arith, c.if-packet-self.true) in
    let come = at-root c.args.now (descriptor c.args.packet.now) c.self.inside.mtu c.self.inside.root c.keep_stored.new.self (Ok nothing_lost) short c.keep_stored.ensures.after in
    tree-after c.self.inside c.self.invariant c.args.now (descriptor c.args.packet.now) later low byte room nothing_lost c.keep_stored.new.self come
    c.book_kept.new.row c.book_kept.ensures ∙ ap
    (λ (d : DeviceState Kept). record { clock = c.args.now; tree = put totals c.args.now (descriptor c.args.packet.now) (tree_numbers d.tree) })
    c.self.view_is

pub returns-then-can_keep-clause-exact : goal.returns-then-can_keep-clause-exact
returns-then-can_keep-clause-exact g c = λ can.
    let later : c.self.inside.clock ≤ c.args.now = omega (arith, ap (λ (d : DeviceState Kept). d.clock) c.self.view_is, c.requires.order) in
    let low : c.args.now ≤ 2 ^ 62 = omega (arith, c.ns.ensures.in_range, c.ns.ensures.value) in
    let byte : 1 ≤ c.args.packet.now.len = c.requires.in_range.len in
    let room : CanCount c.self.inside.top.arrived (descriptor c.args.packet.now) =
    subst (λ (d : DeviceState Kept). CanCount d.tree.top.counts.arrived (descriptor c.args.packet.now)) (sym c.self.view_is) c.requires.counted in
    let short : c.args.packet.now.len ≤ c.self.inside.mtu = omega (arith, c.if-packet-self.true) in
    let come = at-root c.args.now (descriptor c.args.packet.now) c.self.inside.mtu c.self.inside.root c.keep_stored.new.self (Ok nothing_lost) short c.keep_stored.ensures.after in
    tree-exact c.self.inside c.self.invariant c.args.now (descriptor c.args.packet.now) later low byte room nothing_lost c.keep_stored.new.self come c.book_kept.new.row c.book_kept.ensures
    (subst (λ (d : DeviceState Kept). CanArrive (route_seen (descriptor c.args.packet.now) d.tree.device.mtu d.tree.root) d) (sym c.self.view_is) can)
    ∙ ap (λ (d : DeviceState Kept). record { clock = c.args.now; tree = put kept c.args.now (descriptor c.args.packet.now) d.tree }) c.self.view_is

pub returns-then-can_keep-clause-places : goal.returns-then-can_keep-clause-places
returns-then-can_keep-clause-places g c =
    let later : c.self.inside.clock ≤ c.args.now = omega (arith, ap (λ (d : DeviceState Kept). d.clock) c.self.view_is, c.requires.order) in
    let low : c.args.now ≤ 2 ^ 62 = omega (arith, c.ns.ensures.in_range, c.ns.ensures.value) in
    let byte : 1 ≤ c.args.packet.now.len = c.requires.in_range.len in
    let room : CanCount c.self.inside.top.arrived (descriptor c.args.packet.now) =
    subst (λ (d : DeviceState Kept). CanCount d.tree.top.counts.arrived (descriptor c.args.packet.now)) (sym c.self.view_is) c.requires.counted in
    let short : c.args.packet.now.len ≤ c.self.inside.mtu = omega (arith, c.if-packet-self.true) in
    let come = at-root c.args.now (descriptor c.args.packet.now) c.self.inside.mtu c.self.inside.root c.keep_stored.new.self (Ok nothing_lost) short c.keep_stored.ensures.after in
    λ path. subst (λ (d : DeviceState Kept). places_at path d.tree.root ≤ places_at path c.keep_stored.new.self) c.self.view_is
    (tree-places c.self.inside c.self.invariant c.args.now (descriptor c.args.packet.now) later low byte room nothing_lost c.keep_stored.new.self
    come path)
