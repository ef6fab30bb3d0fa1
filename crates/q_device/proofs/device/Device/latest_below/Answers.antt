use Rattle.std.proofs.Common.{◌∙◌, ℕ, ◌+◌, refl, sym, ap, option_and_then, Option}
use Rattle.q_model.specs.declared.row.Row.{Row}
use Rattle.q_model.specs.Tally.{totals}
use Rattle.q_tree.specs.answers.Lanes.{level_of}
use Rattle.q_tree.specs.Kept.{Kept, kept}
use Rattle.q_device.specs.device.DeviceSeen.{DeviceSeen}
use Rattle.q_device.specs.promises.Latest.{latest_below, latest_on}
use Rattle.q_device.proofs.device.Device.latest_below.Goals as goal
use Rattle.q_device.proofs.device.StatsStands.{stats-stands}

pub returns-in_default : goal.returns-in_default
returns-in_default c =
    let now : ℕ = c.self.inside.tree.clock in
    let level : Option ℕ = level_of now c.self.inside.tree.tree.root.own.discipline in
    ap (option_and_then (λ (row : Row). latest_on c.self.inside.settings.mtu now (row.queued.bytes + c.args.len) level c.args.link))
    (sym c.in_default.is ∙ c.stats.ensures ∙ stats-stands kept totals (λ (k : Kept). k.counts) (λ k. refl) c.args.place.now c.self.inside.tree.tree)
    ∙ ap (λ (d : DeviceSeen). latest_below totals c.args.place.now c.args.len d.settings.mtu d.device c.args.link) c.self.view_is

pub returns : goal.returns
returns c =
    let now : ℕ = c.self.inside.tree.clock in
    let level : Option ℕ = level_of now c.self.inside.tree.tree.root.own.discipline in
    c.latest_in.ensures
    ∙ ap (λ (l : Option ℕ). latest_on c.self.inside.settings.mtu c.clock-now.result
    (c.in-Some.row.queued.bytes + c.args.len) l c.args.link) c.level-level.ensures
    ∙ ap (λ n. latest_on c.self.inside.settings.mtu n (c.in-Some.row.queued.bytes + c.args.len) level c.args.link) c.clock-now.ensures
    ∙ ap (option_and_then (λ (row : Row). latest_on c.self.inside.settings.mtu now (row.queued.bytes + c.args.len) level c.args.link))
    (sym c.in-Some.is ∙ c.stats.ensures ∙ stats-stands kept totals (λ (k : Kept). k.counts) (λ k. refl) c.args.place.now c.self.inside.tree.tree)
    ∙ ap (λ (d : DeviceSeen). latest_below totals c.args.place.now c.args.len d.settings.mtu d.device c.args.link) c.self.view_is
