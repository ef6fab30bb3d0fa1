use Rattle.std.proofs.Common.{rules, ◌≡◌, ◌<◌, sym, subst}
use Rattle.q_device.specs.device.DeviceSeen.{DeviceSeen}
use Rattle.q_device.specs.DeviceLaws.{TellsItsLosses}
use Rattle.q_drive.specs.Drained.{polls_left}
use Rattle.q_drive.proofs.DrainLemmas.{fewer, polled_is}
use Rattle.q_drive.proofs.draining.poll_when_ready.Goals as goal

pub returns-clause-polled : goal.returns-clause-polled
returns-clause-polled c = polled_is c.args.at c.args.device.now c.poll.new.self c.poll.ensures.event c.poll.ensures.memory

pub returns-clause-fewer : goal.returns-clause-fewer
returns-clause-fewer c =
    let d = c.args.device.now in
    let is = polled_is c.args.at d c.poll.new.self c.poll.ensures.event c.poll.ensures.memory in
    subst (λ (x : DeviceSeen). TellsItsLosses x → x.device.tree.top.arrived ≡ d.device.tree.top.arrived → polls_left x < polls_left d) (sym is)
    (λ told same. fewer d c.args.at c.requires (search rules) c.device_tells_its_losses.ensures told c.ready_passes_empty_polls.ensures same)
    c.device_tells_its_losses-2.ensures c.poll.ensures.arrived
