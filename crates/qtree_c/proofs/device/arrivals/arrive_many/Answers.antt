use Rattle.std.proofs.Common.{◌∙◌, None, Some, Option, ap, subst}
use Rattle.std.specs.Prelude.{take}
use Rattle.q_device.specs.device.Answers.{fate_number}
use Rattle.q_device.specs.device.Bursts as bursts
use Rattle.q_device.specs.declared.bursts.Stopped.{Stopped}
use Rattle.q_device.specs.declared.bursts.Stopped.TheVariants.{Memory, OutOfRange}
use Rattle.qtree_c.proofs.device.Arriving.{all-arrived, bad-next, no_room-next}
use Rattle.qtree_c.proofs.events.NotingLemmas.{noted-arrivals}
use Rattle.qtree_c.proofs.device.arrivals.arrive_many.Goals as goal

pub returns-in_default-clause-arrivals : goal.returns-in_default-clause-arrivals
returns-in_default-clause-arrivals c =
    let done = c.arrive_many-done.result.0 in
    all-arrived c.args.now c.args.packets.now done c.args.codes.now c.arrive_many-done.new.fates c.args.opened.now.device c.arrive_many-done.new.self
    (subst (λ (o : Option Stopped). bursts.IsArrivals fate_number c.args.now c.args.packets.now o done c.args.codes.now c.arrive_many-done.new.fates
    c.args.opened.now.device c.arrive_many-done.new.self) c.in_default.is
    c.arrive_many-done.ensures)

pub returns-in_default-clause-noted : goal.returns-in_default-clause-noted
returns-in_default-clause-noted c =
    noted-arrivals c.args.now (take c.arrive_many-done.result.0 c.args.packets.now) c.args.opened.now.device c.arrive_many-done.new.self c.args.opened.now.last c.note_arrivals.new.last
    c.arrive_many-done.ensures.arrived c.note_arrivals.ensures

pub returns-in-OutOfRange-clause-arrivals : goal.returns-in-OutOfRange-clause-arrivals
returns-in-OutOfRange-clause-arrivals c =
    let done = c.arrive_many-done.result.0 in
    bad-next c.args.now c.args.packets.now done c.args.codes.now c.arrive_many-done.new.fates c.args.opened.now.device c.arrive_many-done.new.self
    (subst (λ (o : Option Stopped). bursts.IsArrivals fate_number c.args.now c.args.packets.now o done c.args.codes.now c.arrive_many-done.new.fates
    c.args.opened.now.device c.arrive_many-done.new.self)
    (c.in-Some.is ∙ ap Some c.in-OutOfRange.is) c.arrive_many-done.ensures)
    c.out_of_range.ensures.packet c.out_of_range.result c.out_of_range.ensures.code

pub returns-in-OutOfRange-clause-noted : goal.returns-in-OutOfRange-clause-noted
returns-in-OutOfRange-clause-noted c =
    noted-arrivals c.args.now (take c.arrive_many-done.result.0 c.args.packets.now) c.args.opened.now.device c.arrive_many-done.new.self c.args.opened.now.last c.note_arrivals.new.last
    c.arrive_many-done.ensures.arrived c.note_arrivals.ensures

pub returns-in-Memory-clause-arrivals : goal.returns-in-Memory-clause-arrivals
returns-in-Memory-clause-arrivals c =
    let done = c.arrive_many-done.result.0 in
    no_room-next c.args.now c.args.packets.now done c.args.codes.now c.arrive_many-done.new.fates c.args.opened.now.device c.arrive_many-done.new.self
    (subst (λ (o : Option Stopped). bursts.IsArrivals fate_number c.args.now c.args.packets.now o done c.args.codes.now c.arrive_many-done.new.fates
    c.args.opened.now.device c.arrive_many-done.new.self)
    (c.in-Some.is ∙ ap Some c.in-Memory.is) c.arrive_many-done.ensures)

pub returns-in-Memory-clause-noted : goal.returns-in-Memory-clause-noted
returns-in-Memory-clause-noted c =
    noted-arrivals c.args.now (take c.arrive_many-done.result.0 c.args.packets.now) c.args.opened.now.device c.arrive_many-done.new.self c.args.opened.now.last c.note_arrivals.new.last
    c.arrive_many-done.ensures.arrived c.note_arrivals.ensures
