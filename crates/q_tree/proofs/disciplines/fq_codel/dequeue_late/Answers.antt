use Rattle.std.proofs.Common.{◌∙◌, ◌≡◌, ◌-◌, [], Some, length, ap, sym, option_to_list, arith}
use Rattle.std.specs.Prelude.{unwrap_or}
use Rattle.std.proofs.lemmas.Bool.{not-true}
use Rattle.std.proofs.lemmas.List.Sums.{sum_by-cons}
use Rattle.q_packet.specs.Descriptor.{Descriptor}
use Rattle.q_fqcodel.specs.FqState.{FqState, packets_of, bytes_of}
use Rattle.q_fqcodel.specs.Take.{sent_from, dropped_from}
use Rattle.q_model.specs.declared.totals.Totals.{Totals}
use Rattle.q_model.specs.Beneath as beneath
use Rattle.q_model.specs.Beneath.{totals_in}
use Rattle.q_tree.specs.arrival.Arrivals.{minus}
use Rattle.q_tree.specs.departure.AskSteps.{signals_of}
use Rattle.q_tree.specs.departure.Shown.{Shown}
use Rattle.q_tree.proofs.counters.Rows.{same-totals}
use Rattle.q_tree.proofs.departure.GivenInto.{none-dropped, sent-some}
use Rattle.q_tree.proofs.disciplines.TakeCounts.{late-packets, late-bytes, packet_of, marked_of, marked_is}
use Rattle.q_tree.proofs.disciplines.fq_codel.dequeue_late.Goals as goal
use Rattle.q_tree.proofs.disciplines.fq_codel.dequeue_late.Goals.{After-take_late_into-sent}

-- the packet that is sent
sent : (g : _) (c : After-take_late_into-sent g) → sent_from c.args.now c.args.queue.now.state ≡ Some (record { packet = c.take_late_into-sent.new.out; marked = c.take_late_into-sent.result.marked })
sent g c =
    sent-some (sent_from c.args.now c.args.queue.now.state) c.take_late_into-sent.result.len c.take_late_into-sent.result.marked c.args.out.now c.take_late_into-sent.new.out
    c.take_late_into-sent.ensures.sends c.take_late_into-sent.ensures.len c.take_late_into-sent.ensures.marked c.take_late_into-sent.ensures.packet

pub overflow_sub-gone : goal.overflow_sub-gone
overflow_sub-gone g c =
    omega (
      arith,
      late-packets c.args.now c.args.queue.now.state c.requires.settled.chosen,
      c.queued-packets.ensures.packets,
      c.queued-packets_after.ensures.packets,
      ap (λ (s : FqState). packets_of s.flows) c.take_late_into-sent.ensures.after,
    )

pub overflow_sub-gone-2 : goal.overflow_sub-gone-2
overflow_sub-gone-2 g c =
    omega (
      arith,
      late-bytes c.args.now c.args.queue.now.state c.requires.settled.chosen,
      c.queued-packets.ensures.bytes,
      c.queued-packets_after.ensures.bytes,
      ap (λ (s : FqState). bytes_of s.flows) c.take_late_into-sent.ensures.after,
    )

-- the packet that was sent is one of those that are gone
pub difference-requires-clause-packets : goal.difference-requires-clause-packets
difference-requires-clause-packets g c =
    let d = (goal.at.difference-requires-clause-packets g c).After-take_late_into-sent in
    omega (
      arith,
      late-packets c.args.now c.args.queue.now.state c.requires.settled.chosen,
      ap (λ o. length (option_to_list (packet_of o)))
          (sent g d),
      c.queued-packets.ensures.packets,
      c.queued-packets_after.ensures.packets,
      ap (λ (s : FqState). packets_of s.flows)
          c.take_late_into-sent.ensures.after,
      ap (λ (t : Totals). t.packets) c.one_packet-one.ensures,
    )

pub difference-requires-clause-bytes : goal.difference-requires-clause-bytes
difference-requires-clause-bytes g c =
    let d = (goal.at.difference-requires-clause-bytes g c).After-take_late_into-sent in
    omega (
      arith,
      late-bytes c.args.now c.args.queue.now.state c.requires.settled.chosen,
      ap (λ o. (totals_in (option_to_list (packet_of o))).bytes)
          (sent g d),
      sum_by-cons (λ (p : Descriptor). p.len) c.take_late_into-sent.new.out [],
      c.queued-packets.ensures.bytes,
      c.queued-packets_after.ensures.bytes,
      ap (λ (s : FqState). bytes_of s.flows) c.take_late_into-sent.ensures.after,
      ap
          (λ (t : Totals). t.bytes) c.one_packet-one.ensures,
    )

pub returns-clause-given : goal.returns-clause-given
returns-clause-given g c =
    let d = (goal.at.returns-clause-given g c).After-take_late_into-sent in
    ap (λ (s : Shown). s.packet) c.sending.ensures ∙ sym (ap packet_of (sent g d))

pub returns-clause-dropped : goal.returns-clause-dropped
returns-clause-dropped g c =
    let d = (goal.at.returns-clause-dropped g c).After-take_late_into-sent in
    ap (λ (s : Shown). s.dropped) c.sending.ensures ∙ c.difference.ensures ∙ same-totals
    (minus (record {
      packets = c.queued-packets.result.0 - c.queued-packets_after.result.0;
      bytes = c.queued-packets.result.1 -
          c.queued-packets_after.result.1;
    }) c.one_packet-one.result)
    (totals_in (beneath.packets_of (dropped_from c.args.now c.args.queue.now.state)))
    (omega (
      arith,
      late-packets c.args.now c.args.queue.now.state c.requires.settled.chosen,
      ap (λ o. length (option_to_list (packet_of o)))
          (sent g d),
      c.queued-packets.ensures.packets,
      c.queued-packets_after.ensures.packets,
      ap (λ (s : FqState). packets_of s.flows)
          c.take_late_into-sent.ensures.after,
      ap (λ (t : Totals). t.packets) c.one_packet-one.ensures,
    ))
    (omega (
      arith,
      late-bytes c.args.now c.args.queue.now.state c.requires.settled.chosen,
      ap (λ o. (totals_in (option_to_list (packet_of o))).bytes)
          (sent g d),
      sum_by-cons (λ (p : Descriptor). p.len) c.take_late_into-sent.new.out [],
      c.queued-packets.ensures.bytes,
      c.queued-packets_after.ensures.bytes,
      ap (λ (s : FqState). bytes_of s.flows) c.take_late_into-sent.ensures.after,
      ap
          (λ (t : Totals). t.bytes) c.one_packet-one.ensures,
    ))

pub returns-clause-marked : goal.returns-clause-marked
returns-clause-marked g c =
    let d = (goal.at.returns-clause-marked g c).After-take_late_into-sent in
    ap (λ (s : Shown). s.marked) c.sending.ensures ∙ c.marking.ensures ∙ sym (ap marked_of (sent g d)) ∙ marked_is (sent_from c.args.now c.args.queue.now.state)

pub returns-clause-since : goal.returns-clause-since
returns-clause-since g c = c.take_late_into-sent.ensures.at

pub returns-clause-packet : goal.returns-clause-packet
returns-clause-packet g c = ap (λ (s : Shown). unwrap_or s.packet c.args.out.now) (sym c.sending.ensures)

pub returns-clause-signals : goal.returns-clause-signals
returns-clause-signals g c = sym (ap signals_of c.sending.ensures)

-- nothing was dropped
pub returns-then-not-sent-clause-given : goal.returns-then-not-sent-clause-given
returns-then-not-sent-clause-given g c =
    let d = (goal.at.returns-then-not-sent-clause-given g c).After-take_late_into-sent in
    ap (λ (s : Shown). s.packet) c.show_marked.ensures.shown ∙ sym (ap packet_of (sent g d))

pub returns-then-not-sent-clause-dropped : goal.returns-then-not-sent-clause-dropped
returns-then-not-sent-clause-dropped g c =
    ap (λ (s : Shown). s.dropped) c.show_marked.ensures.shown ∙ none-dropped (dropped_from c.args.now c.args.queue.now.state)
    (sym c.take_late_into-sent.ensures.dropped ∙ not-true c.take_late_into-sent.result.dropped c.if-not-sent.true)

pub returns-then-not-sent-clause-marked : goal.returns-then-not-sent-clause-marked
returns-then-not-sent-clause-marked g c =
    let d = (goal.at.returns-then-not-sent-clause-marked g c).After-take_late_into-sent in
    ap (λ (s : Shown). s.marked) c.show_marked.ensures.shown ∙ sym (ap marked_of (sent g d)) ∙ marked_is (sent_from c.args.now c.args.queue.now.state)

pub returns-then-not-sent-clause-since : goal.returns-then-not-sent-clause-since
returns-then-not-sent-clause-since g c = c.take_late_into-sent.ensures.at

pub returns-then-not-sent-clause-packet : goal.returns-then-not-sent-clause-packet
returns-then-not-sent-clause-packet g c = ap (λ (s : Shown). unwrap_or s.packet c.args.out.now) (sym c.show_marked.ensures.shown)

pub returns-then-not-sent-clause-signals : goal.returns-then-not-sent-clause-signals
returns-then-not-sent-clause-signals g c = c.show_marked.ensures.signals
