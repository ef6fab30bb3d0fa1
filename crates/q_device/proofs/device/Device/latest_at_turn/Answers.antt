use Rattle.std.proofs.Common.{◌∙◌, ℕ, sym, ap, option_and_then, Option}
use Rattle.q_model.specs.declared.place.Place.{Place}
use Rattle.q_tree.specs.answers.Lanes.{level_of}
use Rattle.q_device.specs.device.DeviceSeen.{DeviceSeen}
use Rattle.q_device.specs.promises.Latest.{latest_at_turn, latest_in_turn, latest_on}
use Rattle.q_device.proofs.device.Device.latest_at_turn.Goals as goal
use Rattle.q_device.proofs.promises.TurnNowStands.{before-stands}

pub returns-in_err-bytes : goal.returns-in_err-bytes
returns-in_err-bytes c =
    let now : ℕ = c.self.inside.tree.clock in
    let level : Option ℕ = level_of now c.self.inside.tree.tree.root.own.discipline in
    c.from_residual.ensures
    ∙ ap (option_and_then (λ b. latest_on c.self.inside.settings.mtu now b level c.args.turn.now.link))
    (sym c.in_err-bytes.was ∙ c.bytes_before.ensures ∙ sym (before-stands c.in-Class.class c.args.len c.self.inside.tree.tree.root))
    ∙ ap (λ (d : DeviceSeen). latest_in_turn c.in-Class.class c.args.len d.settings.mtu d.device c.args.turn.now.link) c.self.view_is
    ∙ ap (λ (p : Place). latest_at_turn p c.args.len c.args.self.now.settings.mtu c.args.self.now.device c.args.turn.now) (sym c.in-Class.is)

pub returns : goal.returns
returns c =
    let now : ℕ = c.self.inside.tree.clock in
    let level : Option ℕ = level_of now c.self.inside.tree.tree.root.own.discipline in
    c.latest_on.ensures
    ∙ ap (λ (l : Option ℕ). latest_on c.self.inside.settings.mtu c.clock-now.result c.in_ok-bytes.bytes l c.args.turn.now.link) c.level-level.ensures
    ∙ ap (λ n. latest_on c.self.inside.settings.mtu n c.in_ok-bytes.bytes level c.args.turn.now.link) c.clock-now.ensures
    ∙ ap (option_and_then (λ b. latest_on c.self.inside.settings.mtu now b level c.args.turn.now.link))
    (sym c.in_ok-bytes.was ∙ c.bytes_before.ensures ∙ sym (before-stands c.in-Class.class c.args.len c.self.inside.tree.tree.root))
    ∙ ap (λ (d : DeviceSeen). latest_in_turn c.in-Class.class c.args.len d.settings.mtu d.device c.args.turn.now.link) c.self.view_is
    ∙ ap (λ (p : Place). latest_at_turn p c.args.len c.args.self.now.settings.mtu c.args.self.now.device c.args.turn.now) (sym c.in-Class.is)
