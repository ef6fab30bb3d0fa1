use Rattle.std.proofs.Common.{refl, ap, ◌∙◌}
use Rattle.q_model.specs.Oldest.{oldest_at}
use Rattle.q_model.specs.Tally.{totals}
use Rattle.q_tree.specs.Kept.{Kept, kept}
use Rattle.q_device.specs.device.DeviceSeen.{DeviceSeen}
use Rattle.q_device.proofs.device.Device.oldest.Goals as goal
use Rattle.q_device.proofs.promises.OldestStands.{oldest-stands}

pub returns : goal.returns
returns c =
    c.oldest.ensures
    ∙ oldest-stands kept totals (λ (k : Kept). k.counts) (λ k. refl) c.args.place c.self.inside.tree.tree
    ∙ ap (λ (d : DeviceSeen). oldest_at c.args.place d.device.tree) c.self.view_is
