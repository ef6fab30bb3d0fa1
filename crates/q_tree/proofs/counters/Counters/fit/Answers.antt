use Rattle.std.proofs.Common.{ap, arith}
use Rattle.q_model.specs.declared.row.Row.{Row}
use Rattle.q_tree.proofs.counters.Counters.fit.Goals as goal

pub returns : goal.returns
returns c = record {
  packets = omega (arith, c.fits.ensures, ap (λ (r : Row). r.arrived.packets) c.self.view_is);
  bytes = omega (arith, c.fits-2.ensures, ap (λ (r : Row). r.arrived.bytes) c.self.view_is);
}
