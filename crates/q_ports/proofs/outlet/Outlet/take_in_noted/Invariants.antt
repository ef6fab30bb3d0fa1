use Rattle.std.proofs.Common.{◌≡◌}
use Rattle.q_device.specs.log.LastNoted.{all_noted}
use Rattle.q_model.specs.Step.{counts_at}
use Rattle.q_ports.specs.NotedIn.{arrivals_between}
use Rattle.q_ports.specs.TakenIn.{TakesIn}
use Rattle.q_ports.proofs.outlet.Outlet.take_in_noted.Given as goal

abbrev pub invariant-loop-taken : goal.invariant-loop-taken
invariant-loop-taken l = record {
  takes : TakesIn l.now l.initial.self l.self l.initial.device l.device l.taken;
  first : l.taken ≡ 0 → l.device ≡ l.initial.device;
  noted : l.last ≡ all_noted (arrivals_between l.now l.initial.device l.initial.self l.self) l.initial.last;
  clock : counts_at l.now l.device.device ≡ counts_at l.now l.initial.device.device;
}
