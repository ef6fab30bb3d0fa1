use Rattle.std.proofs.Common.{◌≡◌, ◌∙◌, sym, ap, List}
use Rattle.q_model.specs.declared.totals.Totals.{Totals}
use Rattle.q_device.specs.device.DeviceSeen.{DeviceSeen}
use Rattle.q_device.specs.Events.{device_row}
use Rattle.q_ports.specs.Held.{Held, whole}
use Rattle.q_ports.specs.Rings.{RingSeen, seat_for}
use Rattle.q_ports.proofs.SettleLemmas.{seat-share, settled-share}
use Rattle.q_ports.proofs.intake.Intake.settle.Goals as goal

pub returns-clause-share : goal.returns-clause-share
returns-clause-share g c =
    let is : c.self.inside.seat ≡ seat_for c.args.self = c.self.invariant.0 ∙ ap (λ (xs : List RingSeen). seat_for xs) c.self.view_is in
    let row : c.totals.result ≡ device_row c.args.booked.now = c.totals.ensures.row ∙ ap (λ (d : DeviceSeen). device_row d) c.audit.ensures.same in
    settled-share c.self.inside.seat c.args.self c.totals.result c.args.booked.now is row
    (c.audit.ensures.packets (ap (λ (h : Held). h.parts) is ∙ sym c.requires.0))
    (c.audit.ensures.bytes (ap (λ (h : Held). h.parts) is ∙ sym c.requires.1))

pub invariant_of-result : goal.invariant_of-result
invariant_of-result g c =
    let is : c.self.inside.seat ≡ seat_for c.args.self = c.self.invariant.0 ∙ ap (λ (xs : List RingSeen). seat_for xs) c.self.view_is in
    let row : c.totals.result ≡ device_row c.args.booked.now = c.totals.ensures.row ∙ ap (λ (d : DeviceSeen). device_row d) c.audit.ensures.same in
    let share =
    settled-share c.self.inside.seat c.args.self c.totals.result c.args.booked.now is row
    (c.audit.ensures.packets (ap (λ (h : Held). h.parts) is ∙ sym c.requires.0))
    (c.audit.ensures.bytes (ap (λ (h : Held). h.parts) is ∙ sym c.requires.1)) in
    c.audit.ensures.seat ∙ (is ∙ (seat-share c.args.self ∙ ap (λ (t : Totals). whole t) (sym share)))
