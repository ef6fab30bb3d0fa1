use Rattle.std.proofs.Common.{◌∙◌, ℕ, sym, ap, option_map}
use Rattle.q_model.specs.declared.place.Place.{Place}
use Rattle.q_model.specs.declared.place.Place.TheVariants as place
use Rattle.q_model.specs.Node.{Node}
use Rattle.q_tree.specs.Kept.{Kept}
use Rattle.q_tree.specs.declared.answers.ways.Way as code
use Rattle.q_tree.specs.answers.Ways.{way_to}
use Rattle.q_device.specs.device.DeviceSeen.{DeviceSeen}
use Rattle.q_device.specs.promises.Promise.{promise_of, promise_seen}
use Rattle.q_device.proofs.device.Device.service.Goals as goal
use Rattle.q_device.proofs.promises.PromiseStands.{counted, no-way, promise-stands, some-way}

pub returns-in_err-way_to-clause-value : goal.returns-in_err-way_to-clause-value
returns-in_err-way_to-clause-value c =
    let root : Node Kept = c.self.inside.tree.tree.root in
    let mtu : ℕ = c.self.inside.settings.mtu in
    ap (option_map promise_seen) c.from_residual.ensures
    ∙ no-way mtu (way_to c.in-Class.class root) (sym (ap (option_map (λ (w : code.Way). w.link)) c.in_err-way_to.was) ∙ c.way_to.ensures.link)
    ∙ sym (promise-stands (place.Class c.in-Class.class) mtu root)
    ∙ ap (λ (p : Place). promise_of p mtu (counted root)) (sym c.in-Class.is)
    ∙ ap (λ (d : DeviceSeen). promise_of c.args.place d.settings.mtu d.device.tree.root) c.self.view_is

pub returns-clause-value : goal.returns-clause-value
returns-clause-value c =
    let root : Node Kept = c.self.inside.tree.tree.root in
    let mtu : ℕ = c.self.inside.settings.mtu in
    let way : code.Way = c.in_ok-way_to.field-0 in
    c.promised.ensures.value
    ∙ some-way mtu (way_to c.in-Class.class root) way.link way.shares.items (sym (ap (option_map (λ (w : code.Way). w.link)) c.in_ok-way_to.was) ∙ c.way_to.ensures.link)
    (sym (ap (option_map (λ (w : code.Way). w.shares.items)) c.in_ok-way_to.was) ∙ c.way_to.ensures.shares)
    ∙ sym (promise-stands (place.Class c.in-Class.class) mtu root)
    ∙ ap (λ (p : Place). promise_of p mtu (counted root)) (sym c.in-Class.is)
    ∙ ap (λ (d : DeviceSeen). promise_of c.args.place d.settings.mtu d.device.tree.root) c.self.view_is
