-- A moment before which no poll gives a packet.
use Rattle.std.proofs.Common.{◌≡◌, ℕ, ◌<◌, ◌≤◌, Some, None, ap, refl, sym}
use Rattle.std.specs.Prelude.{unwrap_or}
use Rattle.q_device.specs.device.DeviceSeen.{DeviceSeen}
use Rattle.q_model.specs.TreeState.{given}
use Rattle.q_tree.specs.answers.ReadyAt.{ready_at}
use Rattle.qtree_c.specs.answers.Readiness.{IsReady}
use Rattle.qtree_c.specs.device.Calls.{found_number}

pub moment-found : (before at : ℕ) (d : DeviceSeen) → ready_at d.device.clock d.device.tree.root ≡ Some at
    → ((t : ℕ) → d.device.clock ≤ t → t < at → given t d.device.tree ≡ None) → IsReady 0 before at d d
moment-found before at d is early = record {
  same = refl;
  answer = sym (ap (λ found. found_number found) is);
  moment = sym (ap (λ found. unwrap_or found before) is);
  early = λ _. early;
  never = λ ne. absurd (ne refl);
}
