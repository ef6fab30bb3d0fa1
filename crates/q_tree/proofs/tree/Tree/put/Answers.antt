use Rattle.std.proofs.Common.{◌∙◌, sym, ap, subst, arith}
use Rattle.std.proofs.lemmas.Bool.{false≢true}
use Rattle.q_packet.specs.Descriptor.{Descriptor}
use Rattle.q_model.specs.TreeState.{put}
use Rattle.q_tree.specs.Kept.{kept}
use Rattle.q_tree.specs.route.RouteSeen.{RouteSeen, route_seen}
use Rattle.q_tree.specs.TreeSeen.{CanArrive}
use Rattle.q_tree.proofs.tree.Tree.put.Goals as goal

pub arrive_counted-requires-clause-counted : goal.arrive_counted-requires-clause-counted
arrive_counted-requires-clause-counted g c = record {
  packets = c.requires.ready.packets;
  bytes = omega (arith, c.requires.ready.bytes, ap (λ (r : RouteSeen). r.len) c.requires.route, ap (λ (d : Descriptor). d.len) c.of.ensures);
}

pub returns-in-Ok-clause-after : goal.returns-in-Ok-clause-after
returns-in-Ok-clause-after g c =
    let can = subst (λ (d : Descriptor). CanArrive (route_seen d c.args.self.now.tree.device.mtu c.args.self.now.tree.root) c.args.self.now) (sym c.of.ensures)
    (subst (λ (r : RouteSeen). CanArrive r c.args.self.now) c.requires.route c.requires.ready) in
    c.in-Ok.ensures.exact can ∙ ap (λ (d : Descriptor). record { clock = c.args.now; tree = put kept c.args.now d c.args.self.now.tree }) c.of.ensures

pub unreachable-requires : goal.unreachable-requires
unreachable-requires g c =
    let can = subst (λ (d : Descriptor). CanArrive (route_seen d c.args.self.now.tree.device.mtu c.args.self.now.tree.root) c.args.self.now) (sym c.of.ensures)
    (subst (λ (r : RouteSeen). CanArrive r c.args.self.now) c.requires.route c.requires.ready) in
    false≢true (c.in-Err.ensures.succeeds can)
