use Rattle.std.proofs.Common.{◌∙◌, ◌≡◌, ap, subst, sym}
use Rattle.q_packet.specs.declared.cause.Cause.TheVariants.{CoDel}
use Rattle.q_codel.specs.Losses.{losses_of, IsTold}
use Rattle.q_fqcodel.specs.FqState.{FqState}
use Rattle.q_fqcodel.specs.Take.{selected, sent_from, dropped_from}
use Rattle.q_model.specs.Beneath as beneath
use Rattle.q_model.specs.Beneath.{totals_in}
use Rattle.q_tree.proofs.disciplines.TakeCounts.{packet_of, marked_of, marked_is, flow-shown}
use Rattle.q_tree.proofs.disciplines.fq_codel.dequeue_flow.Goals as goal

-- the flow that sends is in front already
pub returns-in-Err-clause-shown : goal.returns-in-Err-clause-shown
returns-in-Err-clause-shown g c =
    let now = c.args.now in
    let s : FqState = c.pass_into.new.self.state in
    let front : s ≡ selected c.args.queue.now.state = c.in-Err.ensures.selected in
    flow-shown now c.args.queue.now.state c.dequeue_late.result
    (c.dequeue_late.ensures.given ∙ ap (λ (t : FqState). packet_of (sent_from now t)) front)
    (c.dequeue_late.ensures.dropped ∙ ap (λ (t : FqState). totals_in (beneath.packets_of (dropped_from now t))) front)
    (c.dequeue_late.ensures.marked ∙ sym (marked_is (sent_from now s)) ∙ ap (λ (t : FqState). marked_of (sent_from now t)) front)

pub returns-in-Err-clause-told : goal.returns-in-Err-clause-told
returns-in-Err-clause-told g c =
    subst (λ (t : FqState). IsTold (losses_of CoDel (dropped_from c.args.now t)) (g.S.Sink.state c.args.sink.now) (g.S.Sink.state c.dequeue_late.new.sink))
    c.in-Err.ensures.selected c.dequeue_late.ensures.told
