-- What an fq_codel notes of a take, and what the packets weigh that it dropped, sent and kept.
use Rattle.std.proofs.Common.{◌≡◌, ℕ, zero, suc, ◌+◌, ◌≤◌, List, [], ◌∷◌, map, take, sum_by, refl, sym, Option, Some, None, option_map, option_and_then, option_to_list, unwrap_or, ◌∙◌, arith}
use Rattle.std.specs.Prelude.{Bool, true, false, get_or, if◌then◌else◌}
use Rattle.std.proofs.lemmas.List.Sums.{sum_by-cons}
use Rattle.std.proofs.lemmas.Option.{slice_get-get_or, none-some}
use Rattle.q_packet.specs.Descriptor.{Descriptor}
use Rattle.q_packet.specs.declared.stamped.Stamped.{Stamped}
use Rattle.q_codel.specs.Codel.{CodelState, drops, sent, leaving, marks}
use Rattle.q_codel.specs.declared.codel.Taken.{Taken}
use Rattle.q_codel.proofs.Promises.{last_packet_stays_holds}
use Rattle.q_fqcodel.specs.Entry.{Entry}
use Rattle.q_fqcodel.specs.FqState.{Flow, FqState, all_packets}
use Rattle.q_fqcodel.specs.Laws.{head_sent}
use Rattle.q_fqcodel.specs.QuantaGiven.{Grant, grants}
use Rattle.q_fqcodel.specs.Take.{selected, front, sender, packet_sent, packets_dropped, sent_from, dropped_from, after_sending}
use Rattle.q_fqcodel.proofs.LawLemmas.{take_keeps_all}
use Rattle.q_model.specs.Tally.{Note, Marked, FlowGranted, FlowGave}
use Rattle.q_model.specs.Beneath.{packets_of}
use Rattle.q_model.specs.Ask.{marks_of}
use Rattle.q_model.specs.Quanta.{flows_granted, flow_gave, flow_notes}
use Rattle.q_invariants.specs.Weights.{lost, marked, plain, weigh}
use Rattle.q_invariants.proofs.ask.Answer.{IsSilent, silent-nil, silent-append}
use Rattle.q_invariants.proofs.sums.Weights.{weigh-nil, weigh-one, weigh-cons, IsQuiet, quiet-nil, arrived-nil, sent-nil, lost-nil, dropped-nil, marked-nil, arrived-cons, sent-cons, lost-cons, dropped-cons, marked-cons}

abbrev pub stamped_weight : (Descriptor → ℕ) → Stamped → ℕ
stamped_weight w s = w (plain s.packet)

pub weigh-packets : (w : Descriptor → ℕ) (queue : List Stamped) → weigh w (packets_of queue) ≡ sum_by (stamped_weight w) queue
weigh-packets w [] = weigh-nil w
weigh-packets w (s ∷ queue) = omega (arith, weigh-cons w s.packet (packets_of queue), weigh-packets w queue, sum_by-cons (stamped_weight w) s queue)

-- a mark changes no weight
plain-leaving : (w : Descriptor → ℕ) (m : Bool) (p : Descriptor) → w (plain (leaving m p)) ≡ w (plain p)
plain-leaving w true p = refl
plain-leaving w false p = refl

abbrev given : Option Taken → Option Descriptor
given o = option_map (λ (t : Taken). t.packet) o

abbrev as_taken : Bool → Option Stamped → Option Taken
as_taken m o = option_map (λ (head : Stamped). record { packet = leaving m head.packet; marked = m }) o

head-weighs : (w : Descriptor → ℕ) (m : Bool) (o : Option Stamped) → weigh w (option_to_list (given (as_taken m o))) ≡ sum_by (stamped_weight w) (option_to_list o)
head-weighs w m None = weigh-nil w
head-weighs w m (Some h) = omega (arith, weigh-one w (leaving m h.packet), plain-leaving w m h.packet, sum_by-cons (stamped_weight w) h [])

pub given-weighs : (w : Descriptor → ℕ) (now : ℕ) (s : FqState) → weigh w (option_to_list (given (sent_from now s))) ≡ sum_by (stamped_weight w) (option_to_list (head_sent now s))
unfolding sent_from packet_sent
given-weighs w now s = by (sender s)
  where
    by : (o : Option Flow)
        → weigh w (option_to_list (given (option_and_then (λ (f : Flow). as_taken (marks f.codel now f.queue) (sent f.codel now f.queue)) o)))
        ≡ sum_by (stamped_weight w) (option_to_list (option_and_then (λ (f : Flow). sent f.codel now f.queue) o))
    by None = weigh-nil w
    by (Some f) = head-weighs w (marks f.codel now f.queue) (sent f.codel now f.queue)

-- what a take makes of the packets of all flows
pub take-weighs : (w : Descriptor → ℕ) (now : ℕ) (s : FqState) → weigh w (packets_of (all_packets s.flows))
    ≡ weigh w (packets_of (dropped_from now (selected s))) + weigh w (option_to_list (given (sent_from now (selected s)))) + weigh w (packets_of (all_packets (after_sending now (selected s)).flows))
take-weighs w now s =
    omega (
      arith,
      take_keeps_all (stamped_weight w) s now,
      weigh-packets w (all_packets s.flows),
      weigh-packets w (dropped_from now (selected s)),
      given-weighs w now (selected s),
      weigh-packets w (all_packets (after_sending now (selected s)).flows),
    )

-- where nothing is sent, nothing is dropped
none-dropped : (c : CodelState) (now : ℕ) (queue : List Stamped) → sent c now queue ≡ None → take (drops c now queue) queue ≡ []
none-dropped c now [] e = by (drops c now [])
  where
    by : (n : ℕ) → ◌≡◌ {A = List Stamped} (take n []) []
    by zero = refl
    by (suc n) = refl
none-dropped c now (s ∷ queue) e =
    absurd (none-some (get_or (s ∷ queue) (drops c now (s ∷ queue)) s)
    (sym e ∙ slice_get-get_or (s ∷ queue) (drops c now (s ∷ queue)) s (last_packet_stays_holds c now (s ∷ queue) (omega arith))))

pub nothing-dropped : (now : ℕ) (s : FqState) → given (sent_from now s) ≡ None → dropped_from now s ≡ []
unfolding sent_from packet_sent dropped_from packets_dropped
nothing-dropped now s e = by (sender s) e
  where
    one : (m : Bool) (o : Option Stamped) → given (as_taken m o) ≡ None → o ≡ None
    one m None h = refl
    one m (Some h) e = cc

    by : (o : Option Flow) → given (option_and_then (λ (f : Flow). as_taken (marks f.codel now f.queue) (sent f.codel now f.queue)) o) ≡ None
        → unwrap_or (option_map (λ (f : Flow). take (drops f.codel now f.queue) f.queue) o) [] ≡ []
    by None h = refl
    by (Some f) h = none-dropped f.codel now f.queue (one (marks f.codel now f.queue) (sent f.codel now f.queue) h)

-- a mark is of the packet that is sent
marked-one : (w : Descriptor → ℕ) (p : Descriptor) (b : Bool) → marked w (if b then Marked p ∷ [] else []) ≤ w (plain p)
marked-one w p true = omega (arith, marked-cons w (Marked p) [], marked-nil w)
marked-one w p false = omega (arith, marked-nil w)

pub marks-weigh : (w : Descriptor → ℕ) (o : Option Taken) → marked w (marks_of o) ≤ weigh w (option_to_list (given o))
marks-weigh w None = omega (arith, marked-nil w)
marks-weigh w (Some t) = omega (arith, marked-one w t.packet t.marked, weigh-one w t.packet)

lost-one : (w : Descriptor → ℕ) (p : Descriptor) (b : Bool) → lost w (if b then Marked p ∷ [] else []) ≡ 0
lost-one w p true = omega (arith, lost-cons w (Marked p) [], lost-nil w)
lost-one w p false = lost-nil w

pub lost-marks : (w : Descriptor → ℕ) (o : Option Taken) → lost w (marks_of o) ≡ 0
lost-marks w None = lost-nil w
lost-marks w (Some t) = lost-one w t.packet t.marked

quiet-one : (p : Descriptor) (b : Bool) → IsQuiet (if b then Marked p ∷ [] else [])
quiet-one p true = record {
  no_arrival = λ w. omega (arith, arrived-cons w (Marked p) [], arrived-nil w);
  nothing_sent = λ w. omega (arith, sent-cons w (Marked p) [], sent-nil w);
  all_dropped = λ w. omega (arith, dropped-cons w (Marked p) [], dropped-nil w, lost-cons w (Marked p) [], lost-nil w);
}
quiet-one p false = quiet-nil

pub quiet-marks : (o : Option Taken) → IsQuiet (marks_of o)
quiet-marks None = quiet-nil
quiet-marks (Some t) = quiet-one t.packet t.marked

-- grants and bytes given
granted-silent : (gs : List Grant) → IsSilent (map (λ (g : Grant). FlowGranted g.flow g.quanta) gs)
granted-silent [] = silent-nil
granted-silent (g ∷ gs) =
    let notes : List Note = map (λ (g : Grant). FlowGranted g.flow g.quanta) gs in
    let n : Note = FlowGranted g.flow g.quanta in
    let h = granted-silent gs in
    record {
      no_arrival = λ w. omega (arith, arrived-cons w n notes, h.no_arrival w);
      nothing_sent = λ w. omega (arith, sent-cons w n notes, h.nothing_sent w);
      nothing_lost = λ w. omega (arith, lost-cons w n notes, h.nothing_lost w);
      nothing_dropped = λ w. omega (arith, dropped-cons w n notes, h.nothing_dropped w);
      nothing_marked = λ w. omega (arith, marked-cons w n notes, h.nothing_marked w);
    }

gave-silent : (e : Option Entry) (t : Option Taken) → IsSilent (flow_gave e t)
gave-silent None None = silent-nil
gave-silent None (Some t) = silent-nil
gave-silent (Some e) None = silent-nil
gave-silent (Some e) (Some t) =
    let n : Note = FlowGave e.flow t.packet.len in
    record {
      no_arrival = λ w. omega (arith, arrived-cons w n [], arrived-nil w);
      nothing_sent = λ w. omega (arith, sent-cons w n [], sent-nil w);
      nothing_lost = λ w. omega (arith, lost-cons w n [], lost-nil w);
      nothing_dropped = λ w. omega (arith, dropped-cons w n [], dropped-nil w);
      nothing_marked = λ w. omega (arith, marked-cons w n [], marked-nil w);
    }

pub flow-silent : (s chosen : FqState) (t : Option Taken) → IsSilent (flow_notes s chosen t)
flow-silent s chosen t = silent-append (flows_granted s) (flow_gave (front chosen) t) (granted-silent (grants s)) (gave-silent (front chosen) t)
