-- What one event makes of an fq_codel: what it notes of quanta and of bytes given, and what becomes of the two lists.
use Rattle.std.proofs.Common.{◌≡◌, ℕ, Bool, ◌⊎◌, inl, inr, List, [], ◌++◌, map, refl, sym, ap, ap₂, subst, ◌∙◌, Option, Some, None, option_to_list, arith}
use Rattle.std.specs.Option.{option_map_or}
use Rattle.std.proofs.lemmas.List.{append-nil}
use Rattle.std.proofs.lemmas.List.Sums.{sum_by-append}
use Rattle.q_packet.specs.Descriptor.{Descriptor}
use Rattle.q_packet.specs.declared.cause.Cause.TheVariants.{Purged}
use Rattle.q_codel.specs.declared.codel.Taken.{Taken}
use Rattle.q_fqcodel.specs.Entry.{Entry}
use Rattle.q_fqcodel.specs.FqState.{FqSettings, FqState}
use Rattle.q_fqcodel.specs.FqState as flows
use Rattle.q_fqcodel.specs.Put.{after_put}
use Rattle.q_fqcodel.specs.QuantaGiven.{Grant, grants}
use Rattle.q_fqcodel.specs.Take.{selected, front, sent_from, after_sending}
use Rattle.q_model.specs.declared.event.Event.{Event}
use Rattle.q_model.specs.declared.event.Event.TheVariants as event
use Rattle.q_model.specs.Tally.{Note, Sent, FlowGranted, history}
use Rattle.q_model.specs.Node.{Discipline, FqCodel, Own, Node, children, shape, each}
use Rattle.q_model.specs.Beneath.{is_empty}
use Rattle.q_model.specs.Quanta.{flows_granted, flow_gave, flow_notes}
use Rattle.q_model.specs.Work.{Worked, losses_of, settled_in}
use Rattle.q_model.specs.Put.{queued_in}
use Rattle.q_model.specs.Ask.{Asked, holding, ask_fq_codel, ask_discipline, ask_own}
use Rattle.q_model.specs.Edit.{edited_at}
use Rattle.q_model.specs.Stretches.{flow_granted_by, given_by, flow_grants_to, bytes_given}
use Rattle.q_invariants.proofs.ask.AskStages.{IsStageOf}
use Rattle.q_invariants.proofs.ask.SentStages.{sum-each}
use Rattle.q_invariants.proofs.edit.EditComes.{IsAbove}
use Rattle.q_invariants.proofs.edit.EditForms.{IsForm}
use Rattle.q_invariants.proofs.put.PutKinds.{put-stage}
use Rattle.q_invariants.proofs.sums.NoteSums.{AreRisen, sum-risen, risen-losses, past-flow_granted, past-given}
use Rattle.q_invariants.proofs.sums.Risen.{AllRise, all-rise, discipline-rises}
use Rattle.q_invariants.proofs.sums.Told.{noted-history}
use Rattle.q_invariants.proofs.tree.StepNodes.{IsAsked, IsPut, IsRemadeSo, IsEdited, Becomes}

abbrev pub lists_of : FqState → List Entry
lists_of s = s.new_flows ++ s.old_flows

abbrev pub SameLists : FqState → FqState → Type 0
SameLists s t = (t.new_flows ≡ s.new_flows) × (t.old_flows ≡ s.old_flows)

pub same-whole : (s t : FqState) → SameLists s t → lists_of t ≡ lists_of s
same-whole s t e = ap₂ (λ (a b : List Entry). a ++ b) e.0 e.1

-- no flow is granted a quantum or gives a byte, and the lists stay, or change as an arrival changes them
pub record StaysQuiet (s t : FqState) (notes : List Note) : Type 0 where
  pub no_bytes : (n : ℕ) → bytes_given n notes ≡ 0
  pub no_grants : (n : ℕ) → flow_grants_to n notes ≡ 0
  pub lists : SameLists s t ⊎ ((p : Descriptor) × (now : ℕ) × (t ≡ after_put s p now))

-- a flow is selected, and sends
pub record Takes (now : ℕ) (s t : FqState) (notes : List Note) : Type 0 where
  pub is : t ≡ after_sending now (selected s)
  pub bytes : (n : ℕ) → bytes_given n notes ≡ bytes_given n (flow_gave (front (selected s)) (sent_from now (selected s)))
  pub granted : (n : ℕ) → flow_grants_to n notes ≡ flow_grants_to n (flows_granted s)

abbrev pub Changes : ℕ → FqState → FqState → List Note → Type 0
Changes now s t notes = StaysQuiet s t notes ⊎ Takes now s t notes

-- ---- a poll

no-bytes-sent : (n : ℕ) (o : Option Descriptor) → bytes_given n (map Sent (option_to_list o)) ≡ 0
no-bytes-sent n o = sum-each (given_by n) Sent (λ p. refl) (option_to_list o)

no-grants-sent : (n : ℕ) (o : Option Descriptor) → flow_grants_to n (map Sent (option_to_list o)) ≡ 0
no-grants-sent n o = sum-each (flow_granted_by n) Sent (λ p. refl) (option_to_list o)

module _ (now : ℕ) (s : FqState) where
  record FqStage (w : Worked) : Type 0 where
    pub state : FqState
    pub is : w.own.discipline ≡ FqCodel state
    pub by : Changes now s state w.memory

  -- the notes of a take
  sends : (rises given : List Note) → AreRisen rises → ((n : ℕ) → bytes_given n given ≡ 0) → ((n : ℕ) → flow_grants_to n given ≡ 0)
      → Takes now s (after_sending now (selected s)) (rises ++ flow_notes s (selected s) (sent_from now (selected s)) ++ given)
  sends rises given risen no_bytes no_grants = record { is = refl; bytes = all_bytes; granted = all_grants }
    where
      o : Option Taken
      o = sent_from now (selected s)

      gave : List Note
      gave = flow_gave (front (selected s)) o

      ungranted : (n : ℕ) (e : Option Entry) (o : Option Taken) → flow_grants_to n (flow_gave e o) ≡ 0
      ungranted n None o = refl
      ungranted n (Some e) None = refl
      ungranted n (Some e) (Some t) = refl

      no_gift : (n : ℕ) → bytes_given n (flows_granted s) ≡ 0
      no_gift n = sum-each (given_by n) (λ (g : Grant). FlowGranted g.flow g.quanta) (λ g. refl) (grants s)

      all_bytes : (n : ℕ) → bytes_given n (rises ++ flow_notes s (selected s) o ++ given) ≡ bytes_given n gave
      all_bytes n =
          omega (
            arith,
            sum_by-append (given_by n) (rises ++ flow_notes s (selected s) o) given,
            sum_by-append (given_by n) rises (flow_notes s (selected s) o),
            sum_by-append (given_by n) (flows_granted s) gave,
            sum-risen (given_by n) (past-given n) rises risen,
            no_gift n,
            no_bytes n,
          )

      all_grants : (n : ℕ) → flow_grants_to n (rises ++ flow_notes s (selected s) o ++ given) ≡ flow_grants_to n (flows_granted s)
      all_grants n =
          omega (
            arith,
            sum_by-append (flow_granted_by n) (rises ++ flow_notes s (selected s) o) given,
            sum_by-append (flow_granted_by n) rises (flow_notes s (selected s) o),
            sum_by-append (flow_granted_by n) (flows_granted s) gave,
            sum-risen (flow_granted_by n) (past-flow_granted n) rises risen,
            ungranted n (front (selected s)) o,
            no_grants n,
          )

  module _ (own : Own) (below : List Asked) (is : own.discipline ≡ FqCodel s) where
    still : (w : Worked) → w.own.discipline ≡ own.discipline → ((n : ℕ) → bytes_given n w.memory ≡ 0) → ((n : ℕ) → flow_grants_to n w.memory ≡ 0) → FqStage w
    still w e no_bytes no_grants = record { state = s; is = e ∙ is; by = inl (record { no_bytes = no_bytes; no_grants = no_grants; lists = inl (refl, refl) }) }

    asked-stage : AllRise below → (w : Worked) → IsStageOf (ask_fq_codel now own below s) w → FqStage w
    asked-stage rise w stage = by stage
      where
        risen : AreRisen (ask_fq_codel now own below s).rises
        risen = discipline-rises now own below rise (FqCodel s)

        by : IsStageOf (ask_fq_codel now own below s) w → FqStage w
        by (inl e) = subst FqStage (sym e) (still (ask_fq_codel now own below s).before refl (λ n. refl) (λ n. refl))
        by (inr (inl e)) = subst FqStage (sym e) (record {
          state = after_sending now (selected s);
          is = refl;
          by =
              inr (subst (λ ns. Takes now s (after_sending now (selected s)) ns) (append-nil (ask_fq_codel now own below s).peeked.memory)
              (sends (ask_fq_codel now own below s).rises [] risen (λ n. refl) (λ n. refl)));
        })
        by (inr (inr e)) =
            let shown : Option Descriptor = (ask_fq_codel now own below s).shown in
            subst FqStage (sym e) (record {
              state = after_sending now (selected s);
              is = refl;
              by = inr (sends (ask_fq_codel now own below s).rises (map Sent (option_to_list shown)) risen (λ n. no-bytes-sent n shown) (λ n. no-grants-sent n shown));
            })

    held-stage : (p : Descriptor) (w : Worked) → IsStageOf (holding own below p) w → FqStage w
    held-stage p w (inl e) = subst FqStage (sym e) (still (holding own below p).before refl (λ n. refl) (λ n. refl))
    held-stage p w (inr (inl e)) = subst FqStage (sym e) (still (holding own below p).peeked refl (λ n. refl) (λ n. refl))
    held-stage p w (inr (inr e)) = subst FqStage (sym e) (still (holding own below p).taken refl (λ n. no-bytes-sent n (Some p)) (λ n. no-grants-sent n (Some p)))

    fq-stage : AllRise below → (w : Worked) → IsStageOf (ask_own now own below) w → FqStage w
    fq-stage rise w stage = by own.held refl stage
      where
        by : (o : Option Descriptor) → own.held ≡ o → IsStageOf (option_map_or (holding own below) o (ask_discipline now own below own.discipline)) w → FqStage w
        by (Some p) e st = held-stage p w st
        by None e st = asked-stage rise w (subst (λ (d : Discipline). IsStageOf (ask_discipline now own below d) w) is st)

-- ---- the step of a node

pub record FqStep (now : ℕ) (s t : FqState) (m k : List Note) : Type 0 where
  pub notes : List Note
  pub is : k ≡ m ++ notes
  pub by : Changes now s t notes

pub same-state : (s t : FqState) → ◌≡◌ {A = Discipline} (FqCodel s) (FqCodel t) → s ≡ t
same-state s t e = cc

module _ (now : ℕ) (node : Node (List Note)) (s : FqState) (is : node.own.discipline ≡ FqCodel s) where
  quiet-step : (after : Node (List Note)) (t : FqState) (notes : List Note) → after.memory ≡ node.memory ++ notes → ((n : ℕ) → bytes_given n notes ≡ 0) → ((n : ℕ) → flow_grants_to n notes ≡ 0)
      → SameLists s t ⊎ ((p : Descriptor) × (now : ℕ) × (t ≡ after_put s p now)) → FqStep now s t node.memory after.memory
  quiet-step after t notes memory no_bytes no_grants lists = record { notes = notes; is = memory; by = inl (record { no_bytes = no_bytes; no_grants = no_grants; lists = lists }) }

  -- lists that stay, where the state does
  stays : (t : FqState) → s ≡ t → SameLists s t ⊎ ((p : Descriptor) × (now : ℕ) × (t ≡ after_put s p now))
  stays t e = inl (ap (λ (x : FqState). x.new_flows) (sym e), ap (λ (x : FqState). x.old_flows) (sym e))

  put-step : (p : Descriptor) (after : Node (List Note)) (t : FqState) → after.own.discipline ≡ FqCodel t → IsPut now p node after → FqStep now s t node.memory after.memory
  put-step p after t now_is put =
      let w : Worked = put.worked in
      let st = put-stage now p put.refusal (shape node) w put.way in
      quiet-step after t w.memory (ap (λ (k : Node (List Note)). k.memory) (sym put.is) ∙ noted-history node.memory w.memory)
      (λ n. st.notes (given_by n) (past-given n) (λ q. refl)) (λ n. st.notes (flow_granted_by n) (past-flow_granted n) (λ q. refl))
      (by st.discipline (ap (λ (k : Node (List Note)). k.own.discipline) put.is ∙ now_is))
    where
      by : (put.worked.own.discipline ≡ node.own.discipline) ⊎ (put.worked.own.discipline ≡ queued_in p now node.own.discipline) ⊎
          ((i : ℕ) × (emptied : Bool) × (put.worked.own.discipline ≡ settled_in i emptied node.own.discipline))
          → put.worked.own.discipline ≡ FqCodel t → SameLists s t ⊎ ((p : Descriptor) × (now : ℕ) × (t ≡ after_put s p now))
      by (inl e) there = stays t (same-state s t (sym (e ∙ is) ∙ there))
      by (inr (inl e)) there = inr (p, now, sym (same-state (after_put s p now) t (sym (e ∙ ap (queued_in p now) is) ∙ there)))
      by (inr (inr e)) there = stays t (same-state s t (sym (e.2 ∙ ap (settled_in e.0 e.1) is) ∙ there))

  same-step : (after : Node (List Note)) (t : FqState) → after.own.discipline ≡ FqCodel t → after ≡ node → FqStep now s t node.memory after.memory
  same-step after t now_is same =
      quiet-step after t [] (ap (λ (k : Node (List Note)). k.memory) same ∙ sym (append-nil node.memory)) (λ n. refl) (λ n. refl)
      (stays t (same-state s t (sym is ∙ ap (λ (k : Node (List Note)). k.own.discipline) (sym same) ∙ now_is)))

  edited-step : (after : Node (List Note)) (t : FqState) → after.own.discipline ≡ FqCodel t → IsEdited now node after → FqStep now s t node.memory after.memory
  edited-step after t now_is edit = by edit.by
    where
      no_bytes : (n : ℕ) → bytes_given n (losses_of Purged edit.purged) ≡ 0
      no_bytes n = sum-risen (given_by n) (past-given n) (losses_of Purged edit.purged) (risen-losses Purged edit.purged)

      no_grants : (n : ℕ) → flow_grants_to n (losses_of Purged edit.purged) ≡ 0
      no_grants n = sum-risen (flow_granted_by n) (past-flow_granted n) (losses_of Purged edit.purged) (risen-losses Purged edit.purged)

      changed : (t ≡ s) ⊎ ((settings : FqSettings) × (t ≡ flows.after_change s settings)) → SameLists s t ⊎ ((p : Descriptor) × (now : ℕ) × (t ≡ after_put s p now))
      changed (inl e) = stays t (sym e)
      changed (inr e) = inl (ap (λ (x : FqState). x.new_flows) e.1, ap (λ (x : FqState). x.old_flows) e.1)

      by : (after ≡ node) ⊎ IsRemadeSo now (losses_of Purged edit.purged) node after ⊎ IsAbove (losses_of Purged edit.purged) edit.f node after → FqStep now s t node.memory after.memory
      by (inl same) = same-step after t now_is same
      by (inr (inl r)) =
          let d : r.own.discipline ≡ FqCodel t = ap (λ (k : Node (List Note)). k.own.discipline) (sym r.is) ∙ now_is in
          let form : IsForm now (FqCodel s) (children node) (FqCodel t) r.below =
          subst (λ (x : Discipline). IsForm now (FqCodel s) (children node) x r.below) d (subst (λ (x : Discipline). IsForm now x (children node) r.own.discipline r.below) is r.form.form) in
          quiet-step after t (losses_of Purged edit.purged) (ap (λ (k : Node (List Note)). k.memory) r.is ∙ noted-history node.memory (losses_of Purged edit.purged)) no_bytes no_grants (changed form)
      by (inr (inr a)) =
          let d : after.own.discipline ≡ FqCodel s =
          ap (λ (k : Node (List Note)). k.own.discipline) a.is ∙ ap (settled_in a.place (is_empty (edited_at history (losses_of Purged edit.purged) edit.f a.path a.child))) is in
          quiet-step after t (losses_of Purged edit.purged) (ap (λ (k : Node (List Note)). k.memory) a.is ∙ noted-history node.memory (losses_of Purged edit.purged)) no_bytes no_grants
          (stays t (same-state s t (sym d ∙ now_is)))

  asked-step : (after : Node (List Note)) (t : FqState) → after.own.discipline ≡ FqCodel t → IsAsked now node after → FqStep now s t node.memory after.memory
  asked-step after t now_is asked =
      let w : Worked = asked.worked in
      let st = fq-stage now s node.own (each (ask_own now) (shape node).below) is (all-rise now (shape node).below) w asked.stage in
      let same : st.state ≡ t = same-state st.state t (sym st.is ∙ ap (λ (k : Node (List Note)). k.own.discipline) asked.is ∙ now_is) in
      record {
        notes = w.memory;
        is = ap (λ (k : Node (List Note)). k.memory) (sym asked.is) ∙ noted-history node.memory w.memory;
        by = subst (λ (x : FqState). Changes now s x w.memory) same st.by;
      }

  pub event-step : (e : Event) (after : Node (List Note)) (t : FqState) → after.own.discipline ≡ FqCodel t → Becomes now e node after → FqStep now s t node.memory after.memory
  event-step (event.Arrive p moment) after t now_is h = put-step p after t now_is h
  event-step (event.Poll moment) after t now_is h = asked-step after t now_is h
  event-step (event.Command c moment) after t now_is (inl same) = same-step after t now_is same
  event-step (event.Command c moment) after t now_is (inr edit) = edited-step after t now_is edit
