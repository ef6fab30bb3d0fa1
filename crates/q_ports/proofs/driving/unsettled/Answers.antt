use Rattle.std.proofs.Common.{map}
use Rattle.q_ports.specs.Placed.{placed_by}
use Rattle.q_ports.proofs.SettleLemmas.{received-begins}
use Rattle.q_ports.proofs.driving.unsettled.Goals as goal

pub returns-clause-beginnings : goal.returns-clause-beginnings
returns-clause-beginnings g c = received-begins c.look_all.new.self (map placed_by c.args.ports.items) c.look_all.ensures.all
