use Rattle.std.proofs.Common.{◌≤◌, ◌^◌, ◌∙◌, length, sym, ap, subst, arith}
use Rattle.std.proofs.lemmas.Bool.{false≢true}
use Rattle.q_packet.specs.Descriptor.{Descriptor}
use Rattle.q_model.specs.Beneath.{beneath}
use Rattle.q_model.specs.Node.{shape}
use Rattle.q_model.specs.Route.{device_route}
use Rattle.q_model.specs.Step.{DeviceState, fate_of}
use Rattle.q_model.specs.Tally.{totals}
use Rattle.q_model.specs.TreeState.{noted_by_put, own_loss, put}
use Rattle.q_tree.specs.arrival.Arrivals.{CanCount}
use Rattle.q_tree.specs.arrival.Places.{places_at}
use Rattle.q_tree.specs.departure.AskSteps.{IsToldOf}
use Rattle.q_tree.specs.Kept.{Kept, kept}
use Rattle.q_tree.specs.route.RouteSeen.{route_seen}
use Rattle.q_tree.specs.TreeSeen.{CanArrive, numbers, tree_numbers, tree_seen}
use Rattle.q_tree.proofs.arrival.Arriving.{on-err}
use Rattle.q_tree.proofs.arrival.TreeArrivals.{can-come, place-there, placed-indexed, placed-keeps, placed-numbers, told-tree, tree-after, tree-exact, tree-indexed, tree-loss, tree-lost, tree-places}
use Rattle.q_tree.proofs.arrival.TreePuts.{same-routes}
use Rattle.q_tree.proofs.tree.Tree.arrive_down.Goals as goal
use Rattle.q_tree.proofs.TreeLemmas.{top-row}

pub enqueue_below-requires-clause-ready : goal.enqueue_below-requires-clause-ready
enqueue_below-requires-clause-ready g c =
    let later : c.self.inside.clock ≤ c.args.now = omega (arith, ap (λ (d : DeviceState Kept). d.clock) c.self.view_is, c.requires.order) in
    let low : c.args.now ≤ 2 ^ 62 = omega (arith, c.ns.ensures.in_range, c.ns.ensures.value) in
    let byte : 1 ≤ c.args.packet.now.len = omega (arith, c.packet.invariant.len, ap (λ (p : Descriptor). p.len) c.packet.view_is) in
    let room : CanCount c.self.inside.top.arrived c.args.packet.now = subst (λ (d : DeviceState Kept). CanCount d.tree.top.counts.arrived c.args.packet.now) (sym c.self.view_is) c.requires.counted in
    can-come c.self.inside c.self.invariant c.args.now c.args.packet.now later low byte room

pub enqueue_below-requires-clause-sink : goal.enqueue_below-requires-clause-sink
enqueue_below-requires-clause-sink g c = omega (arith, c.requires.sink, ap (λ (d : DeviceState Kept). length (beneath d.tree.root)) c.self.view_is)

pub book_arrival-requires-clause-balanced : goal.book_arrival-requires-clause-balanced
book_arrival-requires-clause-balanced g c = (top-row c.self.inside c.self.invariant.device).balanced

pub book_arrival-requires-clause-room : goal.book_arrival-requires-clause-room
book_arrival-requires-clause-room g c =
    let later : c.self.inside.clock ≤ c.args.now = omega (arith, ap (λ (d : DeviceState Kept). d.clock) c.self.view_is, c.requires.order) in
    let low : c.args.now ≤ 2 ^ 62 = omega (arith, c.ns.ensures.in_range, c.ns.ensures.value) in
    let byte : 1 ≤ c.args.packet.now.len = omega (arith, c.packet.invariant.len, ap (λ (p : Descriptor). p.len) c.packet.view_is) in
    let room : CanCount c.self.inside.top.arrived c.args.packet.now = subst (λ (d : DeviceState Kept). CanCount d.tree.top.counts.arrived c.args.packet.now) (sym c.self.view_is) c.requires.counted in
    room

pub book_arrival-requires-clause-lost : goal.book_arrival-requires-clause-lost
book_arrival-requires-clause-lost g c =
    let later : c.self.inside.clock ≤ c.args.now = omega (arith, ap (λ (d : DeviceState Kept). d.clock) c.self.view_is, c.requires.order) in
    let low : c.args.now ≤ 2 ^ 62 = omega (arith, c.ns.ensures.in_range, c.ns.ensures.value) in
    let byte : 1 ≤ c.args.packet.now.len = omega (arith, c.packet.invariant.len, ap (λ (p : Descriptor). p.len) c.packet.view_is) in
    let room : CanCount c.self.inside.top.arrived c.args.packet.now = subst (λ (d : DeviceState Kept). CanCount d.tree.top.counts.arrived c.args.packet.now) (sym c.self.view_is) c.requires.counted in
    tree-lost c.self.inside c.self.invariant c.args.now c.args.packet.now later low byte room c.in_ok-outcome.outcome c.enqueue_below.new.root c.in_ok-outcome.ensures.arrives.after

pub invariant_of-self : goal.invariant_of-self
invariant_of-self g c = placed-indexed c.self.inside c.self.invariant c.enqueue_below.new.root c.in_err-outcome.ensures.arrives.same

pub invariant_of-self-2 : goal.invariant_of-self-2
invariant_of-self-2 g c =
    let later : c.self.inside.clock ≤ c.args.now = omega (arith, ap (λ (d : DeviceState Kept). d.clock) c.self.view_is, c.requires.order) in
    let low : c.args.now ≤ 2 ^ 62 = omega (arith, c.ns.ensures.in_range, c.ns.ensures.value) in
    let byte : 1 ≤ c.args.packet.now.len = omega (arith, c.packet.invariant.len, ap (λ (p : Descriptor). p.len) c.packet.view_is) in
    let room : CanCount c.self.inside.top.arrived c.args.packet.now = subst (λ (d : DeviceState Kept). CanCount d.tree.top.counts.arrived c.args.packet.now) (sym c.self.view_is) c.requires.counted in
    tree-indexed c.self.inside c.self.invariant c.args.now c.args.packet.now later low byte room c.in_ok-outcome.outcome c.enqueue_below.new.root
    c.in_ok-outcome.ensures.arrives.after c.book_arrival.new.row c.book_arrival.ensures

pub returns-clause-fate : goal.returns-clause-fate
returns-clause-fate g c =
    let later : c.self.inside.clock ≤ c.args.now = omega (arith, ap (λ (d : DeviceState Kept). d.clock) c.self.view_is, c.requires.order) in
    let low : c.args.now ≤ 2 ^ 62 = omega (arith, c.ns.ensures.in_range, c.ns.ensures.value) in
    let byte : 1 ≤ c.args.packet.now.len = omega (arith, c.packet.invariant.len, ap (λ (p : Descriptor). p.len) c.packet.view_is) in
    let room : CanCount c.self.inside.top.arrived c.args.packet.now = subst (λ (d : DeviceState Kept). CanCount d.tree.top.counts.arrived c.args.packet.now) (sym c.self.view_is) c.requires.counted in
    c.fate.ensures ∙ ap fate_of (tree-loss c.self.inside c.self.invariant c.args.now c.args.packet.now later low byte room c.in_ok-outcome.outcome
    c.enqueue_below.new.root c.in_ok-outcome.ensures.arrives.after) ∙ ap
    (λ (d : DeviceState Kept). fate_of (own_loss c.args.now c.args.packet.now d.tree.device (shape d.tree.root))) c.self.view_is

pub returns-clause-after : goal.returns-clause-after
returns-clause-after g c =
    let later : c.self.inside.clock ≤ c.args.now = omega (arith, ap (λ (d : DeviceState Kept). d.clock) c.self.view_is, c.requires.order) in
    let low : c.args.now ≤ 2 ^ 62 = omega (arith, c.ns.ensures.in_range, c.ns.ensures.value) in
    let byte : 1 ≤ c.args.packet.now.len = omega (arith, c.packet.invariant.len, ap (λ (p : Descriptor). p.len) c.packet.view_is) in
    let room : CanCount c.self.inside.top.arrived c.args.packet.now = subst (λ (d : DeviceState Kept). CanCount d.tree.top.counts.arrived c.args.packet.now) (sym c.self.view_is) c.requires.counted in
    tree-after c.self.inside c.self.invariant c.args.now c.args.packet.now later low byte room c.in_ok-outcome.outcome c.enqueue_below.new.root
    c.in_ok-outcome.ensures.arrives.after c.book_arrival.new.row c.book_arrival.ensures
    ∙ ap (λ (d : DeviceState Kept). record { clock = c.args.now; tree = put totals c.args.now c.args.packet.now (tree_numbers d.tree) })
    c.self.view_is

pub returns-clause-exact : goal.returns-clause-exact
returns-clause-exact g c = λ can.
    let later : c.self.inside.clock ≤ c.args.now = omega (arith, ap (λ (d : DeviceState Kept). d.clock) c.self.view_is, c.requires.order) in
    let low : c.args.now ≤ 2 ^ 62 = omega (arith, c.ns.ensures.in_range, c.ns.ensures.value) in
    let byte : 1 ≤ c.args.packet.now.len = omega (arith, c.packet.invariant.len, ap (λ (p : Descriptor). p.len) c.packet.view_is) in
    let room : CanCount c.self.inside.top.arrived c.args.packet.now = subst (λ (d : DeviceState Kept). CanCount d.tree.top.counts.arrived c.args.packet.now) (sym c.self.view_is) c.requires.counted in
    tree-exact c.self.inside c.self.invariant c.args.now c.args.packet.now later low byte room c.in_ok-outcome.outcome c.enqueue_below.new.root
    c.in_ok-outcome.ensures.arrives.after c.book_arrival.new.row c.book_arrival.ensures
    (subst (λ (d : DeviceState Kept). CanArrive (route_seen c.args.packet.now d.tree.device.mtu d.tree.root) d) (sym c.self.view_is) can)
    ∙ ap (λ (d : DeviceState Kept). record { clock = c.args.now; tree = put kept c.args.now c.args.packet.now d.tree }) c.self.view_is

pub returns-clause-told : goal.returns-clause-told
returns-clause-told g c =
    let later : c.self.inside.clock ≤ c.args.now = omega (arith, ap (λ (d : DeviceState Kept). d.clock) c.self.view_is, c.requires.order) in
    let low : c.args.now ≤ 2 ^ 62 = omega (arith, c.ns.ensures.in_range, c.ns.ensures.value) in
    let byte : 1 ≤ c.args.packet.now.len = omega (arith, c.packet.invariant.len, ap (λ (p : Descriptor). p.len) c.packet.view_is) in
    let room : CanCount c.self.inside.top.arrived c.args.packet.now = subst (λ (d : DeviceState Kept). CanCount d.tree.top.counts.arrived c.args.packet.now) (sym c.self.view_is) c.requires.counted in
    subst (λ (d : DeviceState Kept). IsToldOf (noted_by_put c.args.now c.args.packet.now d.tree) (g.S.Sink.state c.args.sink.now) (g.S.Sink.state c.enqueue_below.new.sink)) c.self.view_is
    (told-tree c.self.inside c.self.invariant c.args.now c.args.packet.now later low byte room (g.S.Sink.state c.args.sink.now) (g.S.Sink.state c.enqueue_below.new.sink) c.in_ok-outcome.ensures.told)

pub returns-clause-places : goal.returns-clause-places
returns-clause-places g c =
    let later : c.self.inside.clock ≤ c.args.now = omega (arith, ap (λ (d : DeviceState Kept). d.clock) c.self.view_is, c.requires.order) in
    let low : c.args.now ≤ 2 ^ 62 = omega (arith, c.ns.ensures.in_range, c.ns.ensures.value) in
    let byte : 1 ≤ c.args.packet.now.len = omega (arith, c.packet.invariant.len, ap (λ (p : Descriptor). p.len) c.packet.view_is) in
    let room : CanCount c.self.inside.top.arrived c.args.packet.now = subst (λ (d : DeviceState Kept). CanCount d.tree.top.counts.arrived c.args.packet.now) (sym c.self.view_is) c.requires.counted in
    λ path. subst (λ (d : DeviceState Kept). places_at path d.tree.root ≤ places_at path c.enqueue_below.new.root) c.self.view_is
    (tree-places c.self.inside c.self.invariant c.args.now c.args.packet.now later low byte room c.in_ok-outcome.outcome c.enqueue_below.new.root
    c.in_ok-outcome.ensures.arrives.after path)

pub returns-in_err-outcome-clause-same : goal.returns-in_err-outcome-clause-same
returns-in_err-outcome-clause-same g c =
    on-err c.from_residual.result (placed-numbers c.self.inside c.self.invariant c.enqueue_below.new.root c.in_err-outcome.ensures.arrives.same ∙ ap numbers
    c.self.view_is)

pub returns-in_err-outcome-clause-routes : goal.returns-in_err-outcome-clause-routes
returns-in_err-outcome-clause-routes g c =
    on-err c.from_residual.result (λ p. same-routes p c.enqueue_below.new.root c.self.inside.root c.self.inside.mtu
    c.in_err-outcome.ensures.arrives.same.same ∙ ap (λ (d : DeviceState Kept). device_route p d.tree.device.mtu d.tree.root) c.self.view_is)

pub returns-in_err-outcome-clause-keeps : goal.returns-in_err-outcome-clause-keeps
returns-in_err-outcome-clause-keeps g c =
    on-err c.from_residual.result (λ other can. placed-keeps c.self.inside c.self.invariant c.enqueue_below.new.root c.in_err-outcome.ensures.arrives.same
    other (subst (CanArrive other) (sym c.self.view_is) can))

pub returns-in_err-outcome-clause-places : goal.returns-in_err-outcome-clause-places
returns-in_err-outcome-clause-places g c =
    λ path. subst (λ (d : DeviceState Kept). places_at path d.tree.root ≤ places_at path c.enqueue_below.new.root) c.self.view_is
    (c.in_err-outcome.ensures.arrives.same.grows path)

pub returns-in_err-outcome-clause-succeeds : goal.returns-in_err-outcome-clause-succeeds
returns-in_err-outcome-clause-succeeds g c =
    λ can. absurd (false≢true (c.in_err-outcome.ensures.arrives.succeeds
    (place-there c.args.packet.now (tree_seen c.self.inside)
    (subst (λ (d : DeviceState Kept). CanArrive (route_seen c.args.packet.now d.tree.device.mtu d.tree.root) d) (sym c.self.view_is) can))))
