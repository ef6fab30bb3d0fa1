use Rattle.std.proofs.Common.{refl, ap, ◌∙◌}
use Rattle.q_model.specs.Tally.{totals}
use Rattle.q_model.specs.TreeState.{stats}
use Rattle.q_tree.specs.Kept.{Kept, kept}
use Rattle.q_device.specs.device.DeviceSeen.{DeviceSeen}
use Rattle.q_device.proofs.device.Device.stats.Goals as goal
use Rattle.q_device.proofs.device.StatsStands.{stats-stands}

pub returns : goal.returns
returns c =
    c.stats.ensures
    ∙ stats-stands kept totals (λ (k : Kept). k.counts) (λ k. refl) c.args.place c.self.inside.tree.tree
    ∙ ap (λ (d : DeviceSeen). stats totals c.args.place d.device.tree) c.self.view_is
