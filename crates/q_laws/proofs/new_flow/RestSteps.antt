-- What one event makes of what CoDel remembers of a flow: a flow at rest stays so, unless it gives a packet.
use Rattle.std.proofs.Common.{◌≡◌, ℕ, zero, suc, ◌⊎◌, inl, inr, Bool, List, [], ◌∷◌, ◌++◌, map, Option, Some, None, option_to_list, refl, sym, ap, subst, ◌∙◌, arith}
use Rattle.std.specs.Option.{option_map_or}
use Rattle.std.proofs.lemmas.List.{append-nil}
use Rattle.std.proofs.lemmas.List.Sums.{sum_by-append}
use Rattle.std.proofs.lemmas.Option.{same_Some}
use Rattle.q_packet.specs.Descriptor.{Descriptor}
use Rattle.q_packet.specs.declared.cause.Cause.TheVariants.{Purged}
use Rattle.q_codel.specs.declared.codel.Taken.{Taken}
use Rattle.q_fqcodel.specs.FqState.{FqSettings, Flow, FqState, retuned}
use Rattle.q_fqcodel.specs.FqState as flows
use Rattle.q_fqcodel.specs.Put.{flow_of, joined, shortened, appended, overflow, fattest, cut_back, after_put}
use Rattle.q_fqcodel.specs.QuantaGiven.{Grant, grants}
use Rattle.q_fqcodel.specs.Take.{selected, front, sent_from, after_sending}
use Rattle.q_model.specs.declared.event.Event.{Event}
use Rattle.q_model.specs.declared.event.Event.TheVariants as event
use Rattle.q_model.specs.Events.{IsEvent}
use Rattle.q_model.specs.Tally.{Note, Sent, FlowGranted, history}
use Rattle.q_model.specs.Node.{Discipline, FqCodel, Own, Node, children, shape, each}
use Rattle.q_model.specs.Beneath.{is_empty}
use Rattle.q_model.specs.Quanta.{flows_granted, flow_gave, flow_notes}
use Rattle.q_model.specs.Work.{Worked, losses_of, settled_in}
use Rattle.q_model.specs.Put.{queued_in}
use Rattle.q_model.specs.Ask.{Asked, holding, ask_fq_codel, ask_discipline, ask_own}
use Rattle.q_model.specs.Edit.{edited_at}
use Rattle.q_model.specs.Step.{DeviceState, step}
use Rattle.q_model.specs.Stretches.{given_by, bytes_given, FqAt, fq_in}
use Rattle.q_invariants.proofs.ask.AskStages.{IsStageOf}
use Rattle.q_invariants.proofs.ask.SentStages.{sum-each}
use Rattle.q_invariants.proofs.edit.EditComes.{IsAbove}
use Rattle.q_invariants.proofs.edit.EditForms.{IsForm}
use Rattle.q_invariants.proofs.flow.FlowMoves.{fq-node}
use Rattle.q_invariants.proofs.flow.FlowSteps.{same-state}
use Rattle.q_invariants.proofs.put.PutKinds.{put-stage}
use Rattle.q_invariants.proofs.Replays.{IsKept}
use Rattle.q_invariants.proofs.sums.NoteSums.{AreRisen, sum-risen, past-given}
use Rattle.q_invariants.proofs.sums.Risen.{AllRise, all-rise, discipline-rises}
use Rattle.q_invariants.proofs.sums.Told.{noted-history}
use Rattle.q_invariants.proofs.tree.StepNodes.{IsAsked, IsPut, IsRemadeSo, IsEdited, Becomes, becomes}
use Rattle.q_laws.specs.new_flow.Rest.{IsAtRest, FlowRests}
use Rattle.q_laws.proofs.new_flow.RestLemmas.{rests-adjust}

-- ---- an arrival, and other settings

pub put-rests : (n : ℕ) (s : FqState) (p : Descriptor) (now : ℕ) → FlowRests n s.flows → FlowRests n (after_put s p now).flows
unfolding appended cut_back
put-rests n s p now h =
    let a : FqState = appended s p now in
    rests-adjust (shortened (overflow a)) (λ f at. record { not_above = at.not_above; not_dropping = at.not_dropping }) n (fattest a.flows) a.flows
    (rests-adjust (joined (record { packet = p; at = now })) (λ f at. record { not_above = at.not_above; not_dropping = at.not_dropping }) n (flow_of s p) s.flows h)

pub retuned-rests : (target interval : ℕ) (ecn : Bool) (n : ℕ) (flows : List Flow) → FlowRests n flows → FlowRests n (map (retuned target interval ecn) flows)
unfolding retuned
retuned-rests target interval ecn n [] h f e = h f e
retuned-rests target interval ecn zero (x ∷ flows) h f e =
    let at : IsAtRest x = h x refl in
    subst IsAtRest (same_Some (retuned target interval ecn x) f e) (record { not_above = at.not_above; not_dropping = at.not_dropping })
retuned-rests target interval ecn (suc n) (x ∷ flows) h f e = retuned-rests target interval ecn n flows h f e

-- ---- a node of an fq_codel

module _ (j now : ℕ) (s : FqState) where
  -- the flow is as it was, or a flow was selected and sent
  abbrev pub Turns : FqState → List Note → Type 0
  Turns t notes = (t ≡ after_sending now (selected s)) × (bytes_given j notes ≡ bytes_given j (flow_gave (front (selected s)) (sent_from now (selected s))))

  abbrev pub Outcome : FqState → List Note → Type 0
  Outcome t notes = (FlowRests j s.flows → FlowRests j t.flows) ⊎ Turns t notes

  record Stage (w : Worked) : Type 0 where
    state : FqState
    is : w.own.discipline ≡ FqCodel state
    by : Outcome state w.memory

  given-bytes : (rises given : List Note) → AreRisen rises → bytes_given j given ≡ 0
      → bytes_given j (rises ++ flow_notes s (selected s) (sent_from now (selected s)) ++ given) ≡ bytes_given j (flow_gave (front (selected s)) (sent_from now (selected s)))
  given-bytes rises given risen none =
      let o : Option Taken = sent_from now (selected s) in
      let no_gift : bytes_given j (flows_granted s) ≡ 0 = sum-each (given_by j) (λ (g : Grant). FlowGranted g.flow g.quanta) (λ g. refl) (grants s) in
      omega (
        arith,
        sum_by-append (given_by j) (rises ++ flow_notes s (selected s) o) given,
        sum_by-append (given_by j) rises (flow_notes s (selected s) o),
        sum_by-append (given_by j) (flows_granted s) (flow_gave (front (selected s)) o),
        sum-risen (given_by j) (past-given j) rises risen,
        no_gift,
        none,
      )

  module _ (own : Own) (below : List Asked) (is : own.discipline ≡ FqCodel s) where
    same-stage : (w : Worked) → w.own.discipline ≡ own.discipline → Stage w
    same-stage w e = record { state = s; is = e ∙ is; by = inl (λ h. h) }

    asked-stage : AllRise below → (w : Worked) → IsStageOf (ask_fq_codel now own below s) w → Stage w
    asked-stage rise w stage = by stage
      where
        risen : AreRisen (ask_fq_codel now own below s).rises
        risen = discipline-rises now own below rise (FqCodel s)

        by : IsStageOf (ask_fq_codel now own below s) w → Stage w
        by (inl e) = subst Stage (sym e) (same-stage (ask_fq_codel now own below s).before refl)
        by (inr (inl e)) = subst Stage (sym e) (record {
          state = after_sending now (selected s);
          is = refl;
          by = inr (refl, ap (bytes_given j) (sym (append-nil (ask_fq_codel now own below s).peeked.memory)) ∙ given-bytes (ask_fq_codel now own below s).rises [] risen refl);
        })
        by (inr (inr e)) =
            let shown : Option Descriptor = (ask_fq_codel now own below s).shown in
            subst Stage (sym e) (record {
              state = after_sending now (selected s);
              is = refl;
              by = inr (refl, given-bytes (ask_fq_codel now own below s).rises (map Sent (option_to_list shown)) risen (sum-each (given_by j) Sent (λ p. refl) (option_to_list shown)));
            })

    held-stage : (p : Descriptor) (w : Worked) → IsStageOf (holding own below p) w → Stage w
    held-stage p w (inl e) = subst Stage (sym e) (same-stage (holding own below p).before refl)
    held-stage p w (inr (inl e)) = subst Stage (sym e) (same-stage (holding own below p).peeked refl)
    held-stage p w (inr (inr e)) = subst Stage (sym e) (same-stage (holding own below p).taken refl)

    own-stage : AllRise below → (w : Worked) → IsStageOf (ask_own now own below) w → Stage w
    own-stage rise w stage = by own.held refl stage
      where
        by : (o : Option Descriptor) → own.held ≡ o → IsStageOf (option_map_or (holding own below) o (ask_discipline now own below own.discipline)) w → Stage w
        by (Some p) e st = held-stage p w st
        by None e st = asked-stage rise w (subst (λ (d : Discipline). IsStageOf (ask_discipline now own below d) w) is st)

-- ---- the step of a node

pub record RestStep (j now : ℕ) (s t : FqState) (m k : List Note) : Type 0 where
  pub notes : List Note
  pub is : k ≡ m ++ notes
  pub by : Outcome j now s t notes

module _ (j now : ℕ) (node : Node (List Note)) (s : FqState) (is : node.own.discipline ≡ FqCodel s) where
  same-rests : (t : FqState) → s ≡ t → FlowRests j s.flows → FlowRests j t.flows
  same-rests t e h = subst (λ (x : FqState). FlowRests j x.flows) e h

  put-step : (p : Descriptor) (after : Node (List Note)) (t : FqState) → after.own.discipline ≡ FqCodel t → IsPut now p node after → RestStep j now s t node.memory after.memory
  put-step p after t now_is put =
      let st = put-stage now p put.refusal (shape node) put.worked put.way in
      record {
        notes = put.worked.memory;
        is = ap (λ (k : Node (List Note)). k.memory) (sym put.is) ∙ noted-history node.memory put.worked.memory;
        by = inl (by st.discipline (ap (λ (k : Node (List Note)). k.own.discipline) put.is ∙ now_is));
      }
    where
      by : (put.worked.own.discipline ≡ node.own.discipline) ⊎ (put.worked.own.discipline ≡ queued_in p now node.own.discipline) ⊎
          ((i : ℕ) × (emptied : Bool) × (put.worked.own.discipline ≡ settled_in i emptied node.own.discipline))
          → put.worked.own.discipline ≡ FqCodel t → FlowRests j s.flows → FlowRests j t.flows
      by (inl e) there h = same-rests t (same-state s t (sym (e ∙ is) ∙ there)) h
      by (inr (inl e)) there h = subst (λ (x : FqState). FlowRests j x.flows) (same-state (after_put s p now) t (sym (e ∙ ap (queued_in p now) is) ∙ there)) (put-rests j s p now h)
      by (inr (inr e)) there h = same-rests t (same-state s t (sym (e.2 ∙ ap (settled_in e.0 e.1) is) ∙ there)) h

  same-step : (after : Node (List Note)) (t : FqState) → after.own.discipline ≡ FqCodel t → after ≡ node → RestStep j now s t node.memory after.memory
  same-step after t now_is same = record {
    notes = [];
    is = ap (λ (k : Node (List Note)). k.memory) same ∙ sym (append-nil node.memory);
    by = inl (same-rests t (same-state s t (sym is ∙ ap (λ (k : Node (List Note)). k.own.discipline) (sym same) ∙ now_is)));
  }

  edited-step : (after : Node (List Note)) (t : FqState) → after.own.discipline ≡ FqCodel t → IsEdited now node after → RestStep j now s t node.memory after.memory
  edited-step after t now_is edit = by edit.by
    where
      changed : (t ≡ s) ⊎ ((settings : FqSettings) × (t ≡ flows.after_change s settings)) → FlowRests j s.flows → FlowRests j t.flows
      changed (inl e) h = same-rests t (sym e) h
      changed (inr e) h = subst (λ (x : FqState). FlowRests j x.flows) (sym e.1) (retuned-rests e.0.target e.0.interval e.0.ecn j s.flows h)

      by : (after ≡ node) ⊎ IsRemadeSo now (losses_of Purged edit.purged) node after ⊎ IsAbove (losses_of Purged edit.purged) edit.f node after → RestStep j now s t node.memory after.memory
      by (inl same) = same-step after t now_is same
      by (inr (inl r)) =
          let d : r.own.discipline ≡ FqCodel t = ap (λ (k : Node (List Note)). k.own.discipline) (sym r.is) ∙ now_is in
          let form : IsForm now (FqCodel s) (children node) (FqCodel t) r.below =
          subst (λ (x : Discipline). IsForm now (FqCodel s) (children node) x r.below) d (subst (λ (x : Discipline). IsForm now x (children node) r.own.discipline r.below) is r.form.form) in
          record {
            notes = losses_of Purged edit.purged;
            is = ap (λ (k : Node (List Note)). k.memory) r.is ∙ noted-history node.memory (losses_of Purged edit.purged);
            by = inl (changed form);
          }
      by (inr (inr a)) =
          let d : after.own.discipline ≡ FqCodel s =
          ap (λ (k : Node (List Note)). k.own.discipline) a.is ∙ ap (settled_in a.place (is_empty (edited_at history (losses_of Purged edit.purged) edit.f a.path a.child))) is in
          record {
            notes = losses_of Purged edit.purged;
            is = ap (λ (k : Node (List Note)). k.memory) a.is ∙ noted-history node.memory (losses_of Purged edit.purged);
            by = inl (same-rests t (same-state s t (sym d ∙ now_is)));
          }

  asked-step : (after : Node (List Note)) (t : FqState) → after.own.discipline ≡ FqCodel t → IsAsked now node after → RestStep j now s t node.memory after.memory
  asked-step after t now_is asked =
      let w : Worked = asked.worked in
      let st = own-stage j now s node.own (each (ask_own now) (shape node).below) is (all-rise now (shape node).below) w asked.stage in
      let same : st.state ≡ t = same-state st.state t (sym st.is ∙ ap (λ (k : Node (List Note)). k.own.discipline) asked.is ∙ now_is) in
      record {
        notes = w.memory;
        is = ap (λ (k : Node (List Note)). k.memory) (sym asked.is) ∙ noted-history node.memory w.memory;
        by = subst (λ (x : FqState). Outcome j now s x w.memory) same st.by;
      }

  event-step : (e : Event) (after : Node (List Note)) (t : FqState) → after.own.discipline ≡ FqCodel t → Becomes now e node after → RestStep j now s t node.memory after.memory
  event-step (event.Arrive p moment) after t now_is h = put-step p after t now_is h
  event-step (event.Poll moment) after t now_is h = asked-step after t now_is h
  event-step (event.Command c moment) after t now_is (inl same) = same-step after t now_is same
  event-step (event.Command c moment) after t now_is (inr edit) = edited-step after t now_is edit

pub rest-step : (major j : ℕ) (d : DeviceState (List Note)) (e : Event) (x y : FqAt) → IsKept d → IsEvent e → fq_in major d ≡ Some x → fq_in major (step history d e).device ≡ Some y
    → RestStep j (step history d e).device.clock x.state y.state x.noted y.noted
rest-step major j d e x y kept range is at =
    let now : ℕ = (step history d e).device.clock in
    let a = fq-node major d x is in
    let b = fq-node major (step history d e).device y at in
    let s = event-step j now a.node x.state a.discipline e b.node y.state b.discipline (becomes major d e a.node b.node kept range a.there b.there) in
    subst (λ ns. RestStep j now x.state y.state ns y.noted) a.noted (subst (RestStep j now x.state y.state a.node.memory) b.noted s)
