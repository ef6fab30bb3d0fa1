-- What a take from an fq_codel counts: what CoDel dropped and marked, by the numbers of its flows before and after.
use Rattle.std.proofs.Common.{◌≡◌, ℕ, ◌+◌, ◌∙◌, List, [], ◌∷◌, ◌++◌, length, refl, sym, ap₂, Option, Some, None, option_map, option_to_list, subst, arith}
use Rattle.std.specs.Prelude.{Bool, true, false, if◌then◌else◌}
use Rattle.std.specs.Option.{option_map_or}
use Rattle.std.proofs.lemmas.List.{append-nil}
use Rattle.std.proofs.lemmas.List.Elements.{filter_map-append}
use Rattle.q_packet.specs.Descriptor.{Descriptor}
use Rattle.q_packet.specs.declared.cause.Cause.TheVariants.{CoDel}
use Rattle.q_codel.specs.Losses as codel
use Rattle.q_codel.specs.declared.codel.Taken.{Taken}
use Rattle.q_codel.specs.Losses.{IsTold, SinkState}
use Rattle.q_fqcodel.specs.FqState.{FqState, packets_of, bytes_of, all_packets}
use Rattle.q_fqcodel.specs.Take.{selected, sent_from, dropped_from, after_sending}
use Rattle.q_model.specs.declared.totals.Totals.{Totals}
use Rattle.q_model.specs.Ask.{Asked, ask_fq_codel, marks_of}
use Rattle.q_model.specs.Beneath as beneath
use Rattle.q_model.specs.Beneath.{totals_in}
use Rattle.q_model.specs.Node.{Own}
use Rattle.q_model.specs.Step.{loss_in, losses_in}
use Rattle.q_model.specs.Tally.{Note, Marked, no_counts, no_totals, counts_in, with_packet}
use Rattle.q_model.specs.Work.{losses_of}
use Rattle.q_invariants.specs.Weights.{marked}
use Rattle.q_invariants.proofs.ask.Answer.{one}
use Rattle.q_invariants.proofs.flow.FlowNotes.{take-weighs, lost-marks, quiet-marks}
use Rattle.q_invariants.proofs.sums.Counted.{bytes, all-more}
use Rattle.q_invariants.proofs.sums.Weights.{weigh-count, marked-nil, marked-cons, dropped-append, marked-append, dropped-losses, marked-losses}
use Rattle.q_tree.specs.departure.AskSteps.{IsShown, IsToldOf}
use Rattle.q_tree.specs.departure.Shown.{Shown}
use Rattle.q_tree.proofs.counters.Rows.{same-totals, weigh-bytes}
use Rattle.q_tree.proofs.disciplines.FlowCounts.{packets-all, bytes-all, packets-bare, bytes-bare, told-losses}

abbrev pub packet_of : Option Taken → Option Descriptor
packet_of sent = option_map (λ (t : Taken). t.packet) sent

-- packets and bytes that were queued, and those that were dropped, sent, and stay
pub record IsCountedTake (now : ℕ) (s : FqState) : Type 0 where
  pub packets : packets_of s.flows ≡ (totals_in (beneath.packets_of (dropped_from now (selected s)))).packets
      + length (option_to_list (packet_of (sent_from now (selected s)))) + packets_of (after_sending now (selected s)).flows
  pub bytes : bytes_of s.flows ≡ (totals_in (beneath.packets_of (dropped_from now (selected s)))).bytes
      + (totals_in (option_to_list (packet_of (sent_from now (selected s))))).bytes + bytes_of (after_sending now (selected s)).flows

pub counted-take : (now : ℕ) (s : FqState) → IsCountedTake now s
counted-take now s =
    let after : FqState = after_sending now (selected s) in
    let gone : List Descriptor = beneath.packets_of (dropped_from now (selected s)) in
    let sent : List Descriptor = option_to_list (packet_of (sent_from now (selected s))) in
    record {
      packets = omega (
        arith,
        take-weighs one now s,
        packets-all s.flows,
        packets-bare (all_packets s.flows),
        weigh-count (beneath.packets_of (all_packets s.flows)),
        packets-all after.flows,
        packets-bare (all_packets after.flows),
        weigh-count (beneath.packets_of (all_packets after.flows)),
        weigh-count gone,
        weigh-count sent,
      );
      bytes = omega (
        arith,
        take-weighs bytes now s,
        bytes-all s.flows,
        bytes-bare (all_packets s.flows),
        weigh-bytes (beneath.packets_of (all_packets s.flows)),
        bytes-all after.flows,
        bytes-bare (all_packets after.flows),
        weigh-bytes (beneath.packets_of (all_packets after.flows)),
        weigh-bytes gone,
        weigh-bytes sent,
      );
    }

-- the same where the flow that sends is in front already
pub late-packets : (now : ℕ) (s : FqState) → selected s ≡ s
    → packets_of s.flows ≡ (totals_in (beneath.packets_of (dropped_from now s))).packets + length (option_to_list (packet_of (sent_from now s))) + packets_of (after_sending now s).flows
late-packets now s chosen =
    subst (λ (t : FqState). packets_of s.flows ≡ (totals_in (beneath.packets_of (dropped_from now t))).packets
    + length (option_to_list (packet_of (sent_from now t))) + packets_of (after_sending now t).flows)
    chosen (counted-take now s).packets

pub late-bytes : (now : ℕ) (s : FqState) → selected s ≡ s
    → bytes_of s.flows ≡ (totals_in (beneath.packets_of (dropped_from now s))).bytes + (totals_in (option_to_list (packet_of (sent_from now s)))).bytes + bytes_of (after_sending now s).flows
late-bytes now s chosen =
    subst (λ (t : FqState). bytes_of s.flows ≡ (totals_in (beneath.packets_of (dropped_from now t))).bytes
    + (totals_in (option_to_list (packet_of (sent_from now t)))).bytes + bytes_of (after_sending now t).flows)
    chosen (counted-take now s).bytes

-- what is marked by a take
abbrev pub marked_of : Option Taken → Totals
marked_of None = no_totals
marked_of (Some t) = if t.marked then with_packet no_totals t.packet else no_totals

pub marked_is : (o : Option Taken) → marked_of o ≡ option_map_or (λ (t : Taken). if t.marked then with_packet no_totals t.packet else no_totals) o no_totals
marked_is None = refl
marked_is (Some t) = refl

marks-packets : (sent : Option Taken) → marked one (marks_of sent) ≡ (marked_of sent).packets
marks-packets None = marked-nil one
marks-packets (Some t) = by t.marked
  where
    by : (b : Bool) → marked one (if b then Marked t.packet ∷ [] else []) ≡ (if b then with_packet no_totals t.packet else no_totals).packets
    by true = omega (arith, marked-cons one (Marked t.packet) [], marked-nil one)
    by false = marked-nil one

marks-bytes : (sent : Option Taken) → marked bytes (marks_of sent) ≡ (marked_of sent).bytes
marks-bytes None = marked-nil bytes
marks-bytes (Some t) = by t.marked
  where
    by : (b : Bool) → marked bytes (if b then Marked t.packet ∷ [] else []) ≡ (if b then with_packet no_totals t.packet else no_totals).bytes
    by true = omega (arith, marked-cons bytes (Marked t.packet) [], marked-nil bytes)
    by false = marked-nil bytes

pub flow-shown : (now : ℕ) (q : FqState) (s : Shown) → s.packet ≡ packet_of (sent_from now (selected q))
    → s.dropped ≡ totals_in (beneath.packets_of (dropped_from now (selected q))) → s.marked ≡ marked_of (sent_from now (selected q))
    → (own : Own) (below : List Asked) → IsShown (ask_fq_codel now own below q) s
flow-shown now q s packet gone marks own below =
    let sent : Option Taken = sent_from now (selected q) in
    let lost : List Descriptor = beneath.packets_of (dropped_from now (selected q)) in
    let rises : List Note = losses_of CoDel lost ++ marks_of sent in
    let z = all-more no_counts rises in
    record {
      packet = packet;
      dropped = gone ∙ same-totals (totals_in lost) (counts_in rises).dropped
          (omega (
            arith,
            z.dropped_packets,
            dropped-append one (losses_of CoDel lost) (marks_of sent),
            dropped-losses one CoDel lost refl,
            (quiet-marks sent).all_dropped one,
            lost-marks one sent,
            weigh-count lost,
          ))
          (omega (
            arith,
            z.dropped_bytes,
            dropped-append bytes (losses_of CoDel lost) (marks_of sent),
            dropped-losses bytes CoDel lost refl,
            (quiet-marks sent).all_dropped bytes,
            lost-marks bytes sent,
            weigh-bytes lost,
          ));
      marked = marks ∙ same-totals (marked_of sent) (counts_in rises).marked
          (omega (arith, z.marked_packets, marked-append one (losses_of CoDel lost) (marks_of sent), marked-losses one CoDel lost, marks-packets sent))
          (omega (arith, z.marked_bytes, marked-append bytes (losses_of CoDel lost) (marks_of sent), marked-losses bytes CoDel lost, marks-bytes sent));
    }

-- what a sink is told of it
pub flow-losses : (now : ℕ) (q : FqState) (own : Own) (below : List Asked) → losses_in (ask_fq_codel now own below q).rises ≡ codel.losses_of CoDel (dropped_from now (selected q))
flow-losses now q own below =
    filter_map-append loss_in (losses_of CoDel (beneath.packets_of (dropped_from now (selected q)))) (marks_of (sent_from now (selected q)))
    ∙ ap₂ (λ xs ys. xs ++ ys) (told-losses CoDel (dropped_from now (selected q))) (no-losses (sent_from now (selected q)))
    ∙ append-nil (codel.losses_of CoDel (dropped_from now (selected q)))
  where
    mark : (p : Descriptor) (b : Bool) → losses_in (if b then Marked p ∷ [] else []) ≡ []
    mark p true = refl
    mark p false = refl

    no-losses : (o : Option Taken) → losses_in (marks_of o) ≡ []
    no-losses None = refl
    no-losses (Some t) = mark t.packet t.marked

pub flow-told : (now : ℕ) (q : FqState) (own : Own) (below : List Asked) (sink sink2 : SinkState)
    → IsTold (codel.losses_of CoDel (dropped_from now (selected q))) sink sink2 → IsToldOf (ask_fq_codel now own below q).rises sink sink2
flow-told now q own below sink sink2 told = subst (λ xs. IsTold xs sink sink2) (sym (flow-losses now q own below)) told
