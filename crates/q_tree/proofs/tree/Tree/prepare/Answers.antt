use Rattle.std.proofs.Common.{◌∙◌, List, ℕ, refl, sym, ap, subst}
use Rattle.std.specs.Prelude.{IsSome, Some, None, if◌then◌else◌}
use Rattle.q_model.specs.Find.{node_at}
use Rattle.q_model.specs.Route.{device_route}
use Rattle.q_model.specs.Step.{DeviceState}
use Rattle.q_tree.specs.Kept.{Kept}
use Rattle.q_tree.specs.route.RouteSeen.{RouteSeen}
use Rattle.q_tree.specs.TreeSeen.{CanArrive, IsRouteIn, tree_seen}
use Rattle.q_tree.proofs.arrival.TreePuts.{arrives-still, route-leads, prepared-kept, same-routes}
use Rattle.q_tree.proofs.commands.TreeIndex.{placed-form, still-indexed}
use Rattle.q_tree.proofs.tree.Tree.prepare.Goals as goal

pub prepare-requires : goal.prepare-requires
prepare-requires c =
    let way =
    route-leads c.args.route.now c.route.inside.way (tree_seen c.self.inside)
    (ap (λ (r : RouteSeen). r.route) (sym c.route.view_is) ∙ ap (λ b. if b then None else Some c.route.inside.way) c.if-route.false)
    (subst (λ (d : DeviceState Kept). IsRouteIn c.args.route.now d) (sym c.self.view_is) c.requires) in
    subst (λ (path : List ℕ). IsSome (node_at path c.self.inside.root)) (sym c.places.ensures) way

pub invariant_of-self : goal.invariant_of-self
invariant_of-self c =
    still-indexed c.self.inside (record c.self.inside { root = c.prepare.new.self }) c.self.invariant (prepared-kept c.self.inside c.self.invariant.device c.prepare.new.self c.prepare.ensures.same)
    refl (placed-form c.self.inside.root c.prepare.new.self c.prepare.ensures.same)

pub returns-clause-routes : goal.returns-clause-routes
returns-clause-routes c = λ p.
    same-routes p c.prepare.new.self c.self.inside.root c.self.inside.mtu c.prepare.ensures.same
    ∙ ap (λ (d : DeviceState Kept). device_route p d.tree.device.mtu d.tree.root) c.self.view_is

pub returns-clause-keeps : goal.returns-clause-keeps
returns-clause-keeps c = λ other can.
    let a = c.self.inside in
    arrives-still other (tree_seen a) (tree_seen (record a { root = c.prepare.new.self }))
    (λ i. record { clock = a.clock; tree = record { device = (tree_seen a).tree.device; top = (tree_seen a).tree.top.counts; root = c.prepare.ensures.same i } }) c.prepare.ensures.places
    (subst (CanArrive other) (sym c.self.view_is) can)
