use Rattle.std.proofs.Common.{◌∙◌, Bool, sym, subst}
use Rattle.q_drive.specs.Drained.{IsDrainedIf}
use Rattle.q_drive.proofs.driving.drive_booked.Goals as goal

pub returns : goal.returns
returns g c =
    let ended = c.ended.ensures in
    record {
      all = rw (ended.settled, ended.given_up) c.in_ok-driven.ensures.all;
      bytes = rw (ended.settled) c.in_ok-driven.ensures.bytes;
      paced = rw (ended.settled, ended.given_up) c.in_ok-driven.ensures.paced;
      arrived = ended.arrived ∙ sym ended.settled;
      left = c.into_inner-booked.result;
      left_arrived = ended.left ∙ sym ended.settled;
      left_replayed = ended.left_replayed;
      drained = subst (λ (asked : Bool). IsDrainedIf asked c.into_inner-booked.result c.ended.result.device c.ended.result.drained) c.until_idle.ensures ended.drained;
      lawful = ended.lawful;
      replayed = ended.replayed;
      recorded = ended.recorded;
    }
