-- An fq_codel that shows nothing has emptied both its lists, and one with no flow in a list does nothing when it is asked.
use Rattle.std.proofs.Common.{◌≡◌, ℕ, ◌≤◌, List, [], ◌++◌, map, filter, refl, ap, ap₂, ◌∙◌, Option, Some, None}
use Rattle.std.specs.Prelude.{nat_lt}
use Rattle.q_packet.specs.Descriptor.{Descriptor}
use Rattle.q_packet.specs.declared.cause.Cause.TheVariants.{CoDel}
use Rattle.q_packet.specs.declared.stamped.Stamped.{Stamped}
use Rattle.q_codel.specs.declared.codel.Taken.{Taken}
use Rattle.q_fqcodel.specs.Entry.{Entry}
use Rattle.q_fqcodel.specs.FqState.{FqState}
use Rattle.q_fqcodel.specs.Lawful.{IsLawful}
use Rattle.q_fqcodel.specs.QuantaGiven.{Grant, quanta_given, grants}
use Rattle.q_fqcodel.specs.Take.{selected, front, sent_from, dropped_from, after_sending, head_sent}
use Rattle.q_fqcodel.proofs.KeptLemmas.{take_keeps_lawful}
use Rattle.q_fqcodel.proofs.FlowsShow.{given, sends_none, settled_selected}
use Rattle.q_fqcodel.proofs.SentLemmas.{sent_none, dropped_none, after_none}
use Rattle.q_fqcodel.proofs.TurnLemmas.{none_left}
use Rattle.q_model.specs.declared.filter.Filter.{Filter}
use Rattle.q_model.specs.Tally.{Note, FlowGranted}
use Rattle.q_model.specs.Node.{FqCodel, Own}
use Rattle.q_model.specs.Beneath.{packets_of}
use Rattle.q_model.specs.Work.{losses_of}
use Rattle.q_model.specs.Ask.{Asked, befores, dequeued, marks_of, ask_fq_codel}
use Rattle.q_model.specs.Quanta.{flows_granted, flow_gave, flow_notes}
use Rattle.q_invariants.proofs.again.SecondPeek.{Repeats, again, AreStable, again-quiet, second-by, node, second-dequeued}
use Rattle.std.specs.Option.{option_map_or}

-- ---- a flow is in neither list

module _ (z : FqState) (new : z.new_flows ≡ []) (old : z.old_flows ≡ []) where
  none-granted : flows_granted z ≡ []
  unfolding grants
  none-granted = ap (λ (es : List Entry). map (λ (g : Grant). FlowGranted g.flow g.quanta)
      (filter (λ (g : Grant). nat_lt 0 g.quanta) (map (λ (e : Entry). record { flow = e.flow; quanta = quanta_given z e.flow }) es))) (ap₂ (λ (a b : List Entry). a ++ b) new old)

  none-gave : (o : Option Entry) → flow_gave o None ≡ []
  none-gave None = refl
  none-gave (Some e) = refl

  module _ (now : ℕ) (handle : Option ℕ) (filters : List Filter) (since : ℕ) (below : List Asked) where
    abbrev own : Own
    own = node now handle filters since (FqCodel z) None

    abbrev ends : FqState → List Stamped → Option Taken → List Note → ℕ → Asked
    ends t dropped sent mine at = dequeued own below (record {
      after = record own { discipline = FqCodel t };
      children = befores below;
      rises = losses_of CoDel (packets_of dropped) ++ marks_of sent;
      mine = mine;
      packet = given sent;
      since = at;
    })

    -- it answers so, and is as it was
    idle-answer : ask_fq_codel now own below z ≡ ends z [] None [] 0
    idle-answer =
        let at : ℕ = option_map_or (λ (p : Stamped). p.at) (head_sent now (selected z)) 0 in
        ap (λ (c : FqState). ends (after_sending now c) (dropped_from now c) (sent_from now c) (flow_notes z c (sent_from now c)) at) (none_left z new old)
        ∙ ap (λ (t : FqState). ends t (dropped_from now z) (sent_from now z) (flow_notes z z (sent_from now z)) at) (after_none z now new old)
        ∙ ap (λ (ps : List Stamped). ends z ps (sent_from now z) (flow_notes z z (sent_from now z)) at) (dropped_none z now new old)
        ∙ ap (λ (o : Option Taken). ends z [] o (flow_notes z z o) at) (sent_none z now new old)
        ∙ ap (λ (notes : List Note). ends z [] None notes at) (ap₂ (λ (a b : List Note). a ++ b) none-granted (none-gave (front z)))

-- ---- an fq_codel asked once more

module _ (now : ℕ) (handle : Option ℕ) (filters : List Filter) (since : ℕ) where
  pub second-fq_codel : (s : FqState) (below : List Asked) → IsLawful s → 1 ≤ s.settings.quantum → AreStable now below
      → Repeats now (ask_fq_codel now (node now handle filters since (FqCodel s) None) below s)
  second-fq_codel s below lawful positive h = by (given sent) refl
    where
      own : Own
      own = node now handle filters since (FqCodel s) None

      sent : Option Taken
      sent = sent_from now (selected s)

      after : FqState
      after = after_sending now (selected s)

      rises : List Note
      rises = losses_of CoDel (packets_of (dropped_from now (selected s))) ++ marks_of sent

      at : ℕ
      at = option_map_or (λ (p : Stamped). p.at) (head_sent now (selected s)) 0

      answer : Option Descriptor → Asked
      answer o =
          dequeued own below (record {
            after = record own { discipline = FqCodel after };
            children = befores below;
            rises = rises;
            mine = flow_notes
                s (selected s) sent;
            packet = o;
            since = at;
          })

      by : (o : Option Descriptor) → given sent ≡ o → Repeats now (answer o)
      by (Some p) e = second-dequeued now handle filters since own below (FqCodel after) (befores below) rises (flow_notes s (selected s) sent) p at
      by None e =
          let chosen : IsLawful (selected s) = (take_keeps_lawful s now lawful positive).0 in
          let none = sends_none now (selected s) chosen (settled_selected s lawful positive) e in
          let same : after ≡ selected s = after_none (selected s) now none.0 none.1 in
          let new : after.new_flows ≡ [] = ap (λ (t : FqState). t.new_flows) same ∙ none.0 in
          let old : after.old_flows ≡ [] = ap (λ (t : FqState). t.old_flows) same ∙ none.1 in
          second-by now (answer None) (again now (answer None).peeked) (ends after new old now handle filters 0 below after [] None [] 0)
          (again-quiet now (node now handle filters 0 (FqCodel after) None) (rises ++ flow_notes s (selected s) sent) below h ∙ idle-answer after new old now handle filters 0 below)
          (record { shown = refl; rises = refl; peeked = refl })
