use Rattle.std.proofs.Common.{◌∙◌, ◌≡◌, ap, sym}
use Rattle.std.specs.Option.{option_map_or}
use Rattle.q_packet.specs.declared.stamped.Stamped.{Stamped}
use Rattle.q_fqcodel.specs.FqState.{FqState}
use Rattle.q_fqcodel.specs.Take.{selected, head_sent, sent_from, dropped_from}
use Rattle.q_model.specs.Beneath as beneath
use Rattle.q_model.specs.Beneath.{totals_in}
use Rattle.q_tree.specs.departure.Holding.{held_with}
use Rattle.q_tree.proofs.disciplines.FlowHeld.{late-held}
use Rattle.q_tree.proofs.disciplines.TakeCounts.{packet_of, marked_of, marked_is, flow-shown}
use Rattle.q_tree.proofs.disciplines.fq_codel.peek_flow.Goals as goal

-- the flow that sends is in front already
pub returns-in-Err-clause-shown : goal.returns-in-Err-clause-shown
returns-in-Err-clause-shown g c =
    let now = c.args.now in
    let s : FqState = c.pass_into.new.self.state in
    let front : s ≡ selected c.args.queue.now.state = c.in-Err.ensures.selected in
    flow-shown now c.args.queue.now.state c.dequeue_late.result
    (c.dequeue_late.ensures.given ∙ ap (λ (t : FqState). packet_of (sent_from now t)) front)
    (c.dequeue_late.ensures.dropped ∙ ap (λ (t : FqState). totals_in (beneath.packets_of (dropped_from now t))) front)
    (c.dequeue_late.ensures.marked ∙ sym (marked_is (sent_from now s)) ∙ ap (λ (t : FqState). marked_of (sent_from now t)) front)

pub returns-in-Err-clause-held : goal.returns-in-Err-clause-held
returns-in-Err-clause-held g c =
    late-held c.args.now c.pass_into.new.self.state c.dequeue_late.result.packet c.dequeue_late.new.out c.pass_into.new.out c.dequeue_late.new.since
    c.dequeue_late.ensures.given c.dequeue_late.ensures.packet c.dequeue_late.ensures.since
    ∙ ap (λ (t : FqState). held_with c.dequeue_late.result.packet (option_map_or (λ (x : Stamped). x.at) (head_sent c.args.now t) 0)) c.in-Err.ensures.selected
