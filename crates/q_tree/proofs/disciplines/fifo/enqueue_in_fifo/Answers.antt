use Rattle.std.proofs.Common.{◌≡◌, ◌∙◌, ap, refl, sym, arith, rules, length, subst}
use Rattle.std.specs.Prelude.{if◌then◌else◌, true}
use Rattle.q_packet.specs.Cause.{is_refusal}
use Rattle.q_packet.specs.declared.cause.Cause.{Cause}
use Rattle.q_packet.specs.declared.cause.Cause.TheVariants.{OverLimit}
use Rattle.q_codel.specs.FifoState.{FifoState, takes}
use Rattle.q_model.specs.Route.{ends, refused}
use Rattle.q_tree.specs.declared.node.Discipline.TheVariants as code
use Rattle.q_tree.proofs.arrival.Arriving.{arrived-as, fifo-form, queued-in-fifo, refused-in}
use Rattle.q_tree.proofs.route.ChoosingLemmas.{fifo-here, fifo-refused}
use Rattle.q_tree.proofs.disciplines.fifo.enqueue_in_fifo.Goals as goal

pub returns-in-Refused-clause-arrives : goal.returns-in-Refused-clause-arrives
returns-in-Refused-clause-arrives g c = λ filters.
    let why = fifo-refused (takes c.args.fifo.now.limit c.args.fifo.now.packets c.args.packet.now.len) c.in-Refused.cause (sym c.in-Refused.is ∙
    c.choose.ensures) in
    arrived-as c.refuse.result
    (refused-in c.args.now c.args.packet.now c.in-Refused.cause filters (code.Fifo c.args.fifo.now) c.refuse.result (g.S.Sink.state c.args.sink.now) (g.S.Sink.state c.refuse.new.sink)
    (subst (λ (x : Cause). is_refusal x ≡ true) (sym why.1) refl)
    (ap (λ b. if b then ends else refused OverLimit) why.0 ∙ ap refused (sym why.1)) _ refl c.refuse.ensures.outcome c.refuse.ensures.told)
    c.refuse.ensures.lost_is

pub returns-clause-arrives : goal.returns-clause-arrives
returns-clause-arrives g c = λ filters.
    let fits = fifo-here (takes c.args.fifo.now.limit c.args.fifo.now.packets c.args.packet.now.len) (sym c.in-Here.is ∙ c.choose.ensures) in
    arrived-as c.kept.result
    (queued-in-fifo c.args.now c.args.packet.now filters c.args.fifo.now c.put_from.new.self c.reserve.new.self.places _ (g.S.Sink.state c.args.sink.now)
    fits c.reserve.ensures.grows (omega (arith, c.in_ok-reserve.ensures.ok, ap (λ (f : FifoState). length f.packets) c.reserve.ensures.same))
    (λ there. ap (λ (f : FifoState). f.places) (c.reserve.ensures.room there))
    (fifo-form c.args.fifo.now c.reserve.new.self c.put_from.new.self c.reserve.new.self.places _ c.args.packet.now c.args.now
    c.reserve.ensures.same refl c.put_from.ensures) c.kept.ensures)
    (search rules)
