use Rattle.std.proofs.Common.{ap, subst, arith}
use Rattle.q_packet.specs.Descriptor.{Descriptor}
use Rattle.q_model.specs.declared.totals.Totals.{Totals}
use Rattle.q_model.specs.Step.{DeviceState}
use Rattle.q_tree.specs.arrival.Arrivals.{CanCount}
use Rattle.q_tree.specs.Kept.{Kept}
use Rattle.q_tree.proofs.tree.Tree.arrive.Goals as goal

pub arrive_counted-requires-clause-counted : goal.arrive_counted-requires-clause-counted
arrive_counted-requires-clause-counted g c = subst (λ (d : DeviceState Kept). CanCount d.tree.top.counts.arrived c.args.packet.now) c.self.view_is (record {
  packets = omega (arith, c.if-arrived.false, ap (λ (x : Totals). x.packets) c.arrived-arrived.ensures, c.self.ranges, c.fit.ensures.packets, c.fit.ensures.bytes);
  bytes = omega (arith, c.if-arrived-from.false, ap (λ (x : Totals). x.bytes) c.arrived-arrived.ensures, c.from.ensures, c.from.type_inv, ap (λ (p : Descriptor). p.len) c.packet.view_is);
})
