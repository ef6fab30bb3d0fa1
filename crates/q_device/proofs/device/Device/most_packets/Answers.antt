use Rattle.std.proofs.Common.{◌∙◌, ◌≤◌, ◌^◌, List, length, sym, ap, subst}
use Rattle.std.specs.Prelude.{◌-◌, min}
use Rattle.q_packet.specs.Descriptor.{Descriptor}
use Rattle.q_model.specs.Beneath.{beneath}
use Rattle.q_tree.specs.answers.MostPackets.{most_packets}
use Rattle.q_device.specs.device.DeviceSeen.{DeviceSeen}
use Rattle.q_device.proofs.device.Device.most_packets.Goals as goal
use Rattle.q_device.proofs.waiting.ReadyNumbers.{beneath-numbers, most-numbers}

pub returns-clause-value : goal.returns-clause-value
returns-clause-value c =
    c.most_packets.ensures.value ∙ ap (λ n. min n (2 ^ 64 - 1)) (sym (most-numbers c.self.inside.tree.tree) ∙ ap (λ (d : DeviceSeen). most_packets d.device.tree.root) c.self.view_is)

pub returns-clause-bound : goal.returns-clause-bound
returns-clause-bound c =
    subst (λ (d : DeviceSeen). length (beneath d.device.tree.root) ≤ c.most_packets.result) c.self.view_is
    (subst (λ (ps : List Descriptor). length ps ≤ c.most_packets.result) (sym (beneath-numbers c.self.inside.tree.tree)) c.most_packets.ensures.bound)
