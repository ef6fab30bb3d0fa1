use Rattle.std.proofs.Common.{List, length, refl, ap, subst, arith}
use Rattle.q_packet.specs.Descriptor.{Descriptor}
use Rattle.q_model.specs.Settings.{IsInRange}
use Rattle.q_device.specs.device.DeviceSeen.{DeviceSeen}
use Rattle.q_device.specs.DeviceLaws.{HasItsMemory, IsReplayed}
use Rattle.q_device.proofs.device.Device.kept.Goals as goal
use Rattle.q_device.proofs.device.EventLemmas.{waits-numbers}

pub returns-clause-replayed : goal.returns-clause-replayed
returns-clause-replayed c = let k = c.self.invariant in subst IsReplayed c.self.view_is (record { happened = k.happened; events = k.events; replayed = k.replayed })

pub returns-clause-memory : goal.returns-clause-memory
returns-clause-memory c =
    let a = c.self.inside in
    let k = c.self.invariant in
    subst HasItsMemory c.self.view_is (record {
      tree = refl;
      clock = omega arith;
      losses = omega (arith, k.room, ap (λ (ps : List Descriptor). length ps) (waits-numbers a.tree));
      events =
          k.recorder;
    })

pub returns-clause-settings : goal.returns-clause-settings
returns-clause-settings c = subst (λ (d : DeviceSeen). IsInRange d.settings) c.self.view_is c.self.invariant.settings
