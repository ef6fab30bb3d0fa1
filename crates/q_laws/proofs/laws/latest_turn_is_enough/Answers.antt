use Rattle.q_laws.proofs.line.LatestArrives.{answered-in-turn}
use Rattle.q_laws.proofs.turn.LatestTurnFills.{latest-turn-stands-as-it-fills}
use Rattle.q_laws.proofs.turn.LatestTurnKept.{latest-turn-is-enough, latest-turn-is-in-time}
use Rattle.q_device.specs.Sharing.{device_after}
use Rattle.q_laws.proofs.laws.latest_turn_is_enough.Goals as goal

pub returns : goal.returns
returns c = record {
  answered = λ events class len turn found. answered-in-turn class len c.args.settings.mtu (device_after c.args.settings events) turn found;
  enough = latest-turn-is-enough c.args.settings c.ranges-2.ensures;
  in_time = latest-turn-is-in-time c.args.settings c.ranges-2.ensures;
  stands_as_it_fills = latest-turn-stands-as-it-fills c.args.settings c.ranges-2.ensures;
}
