-- CoDel spares a flow that joins, until it gives a packet.
use Rattle.std.proofs.Common.{◌≡◌, ◌≢◌, ℕ, zero, suc, ◌≤◌, inl, inr, ⊎_elim, Bool, true, false, List, [], ◌∷◌, ◌++◌, drop, Option, Some, None, option_map, option_and_then, refl, sym, ap, ap₂, subst, ◌∙◌, arith}
use Rattle.std.specs.Prelude.{All, IfSome, slice_get, if◌then◌else◌}
use Rattle.std.proofs.lemmas.Bool.{cases_eq, eq-eqb}
use Rattle.std.proofs.lemmas.List.{append-nil, append_assoc}
use Rattle.std.proofs.lemmas.List.Elements.{All-push}
use Rattle.std.proofs.lemmas.List.Sums.{sum_by-cons, sum_by-append}
use Rattle.std.proofs.lemmas.Option.{none-some, same_Some}
use Rattle.q_packet.specs.declared.stamped.Stamped.{Stamped}
use Rattle.q_codel.specs.Codel.{CodelState, is_late, drops, sent, marks, leaving, begun, gone_on, control_after, above_after}
use Rattle.q_codel.specs.declared.codel.Taken.{Taken}
use Rattle.q_fqcodel.specs.Cleared.{adjust}
use Rattle.q_fqcodel.specs.Entry.{Entry}
use Rattle.q_fqcodel.specs.FqState.{Flow, FqState}
use Rattle.q_fqcodel.specs.Lawful.{times}
use Rattle.q_fqcodel.specs.Put.{is_listed}
use Rattle.q_fqcodel.specs.Take.{selected, packet_sent, flow_after, front, sent_from, after_sending}
use Rattle.q_fqcodel.proofs.ListedLemmas.{times_selected, times_sent}
use Rattle.q_fqcodel.proofs.PutLemmas.{listed_not, listed_yes}
use Rattle.q_fqcodel.proofs.SentLemmas.{sender_found, front_is, front_none, after_none, after_sending_written}
use Rattle.q_model.specs.declared.event.Event.{Event}
use Rattle.q_model.specs.Events.{IsEvent}
use Rattle.q_model.specs.Tally.{Note, FlowGave, history}
use Rattle.q_model.specs.Quanta.{flow_gave}
use Rattle.q_model.specs.Replay.{Replay, nothing_yet}
use Rattle.q_model.specs.Settings.{DeviceSettings, IsInRange}
use Rattle.q_model.specs.Step.{DeviceState, step}
use Rattle.q_model.specs.Stretches.{given_by, bytes_given, FqAt, fq_in}
use Rattle.q_invariants.proofs.Along.{moves}
use Rattle.q_invariants.proofs.flow.FlowMoves.{sent_has_length}
use Rattle.q_invariants.proofs.flow.FlowSteps.{lists_of}
use Rattle.q_invariants.proofs.Replays.{IsKept, replay-kept}
use Rattle.q_device.specs.Sharing.{device_after}
use Rattle.q_device.proofs.ReplayLemmas.{replay_from-append}
use Rattle.q_laws.specs.new_flow.Rest.{IsAtRest, FlowRests, JoiningFlowsAreSpared}
use Rattle.q_laws.specs.share.Service.{IsQueuedFlow}
use Rattle.q_laws.proofs.new_flow.RestLemmas.{selected-keeps, rests-other, never-late, spares-drops, sparing}
use Rattle.q_laws.proofs.new_flow.RestReplays.{unlisted-rests}
use Rattle.q_laws.proofs.new_flow.RestSteps.{Outcome, RestStep, rest-step}

-- ---- a take that gives nothing of the flow

no-head : (queue : List Stamped) → slice_get queue 0 ≡ None → queue ≡ []
no-head [] e = refl
no-head (x ∷ queue) e = absurd (none-some x (sym e))

-- CoDel finds the queue of a flow at rest empty, and leaves it at rest
control-still : (c : CodelState) (above : c.first_above_time ≡ 0) (dropping : c.dropping ≡ false) (now : ℕ) (queue : List Stamped) → control_after c now queue ≡ c
control-still c above dropping now queue =
    ap₂ (λ (d late : Bool). if d then (let j = drops c now queue in gone_on c j (marks c now queue) (is_late c now (drop j queue))) else if late then
    begun c now else c) dropping (never-late c above dropping now queue)

empty-rests : (now : ℕ) (f : Flow) → IsAtRest f → f.queue ≡ [] → IsAtRest (flow_after now f)
unfolding flow_after
empty-rests now f h e =
    let none : drops f.codel now f.queue ≡ 0 = spares-drops f.codel h.not_above h.not_dropping now f.queue in
    record {
      not_above = ap₂ (λ (n : ℕ) (queue : List Stamped). above_after f.codel now (drop n queue)) none e;
      not_dropping = ap (λ (c : CodelState). c.dropping) (control-still f.codel h.not_above h.not_dropping now f.queue) ∙ h.not_dropping;
    }

none-mapped : {X Y : Type 0} (g : X → Y) (o : Option X) → option_map g o ≡ None → o ≡ None
none-mapped g None e = refl
none-mapped g (Some x) e = absurd (none-some (g x) (sym e))

none-sent : (now : ℕ) (f : Flow) → IsAtRest f → packet_sent now f ≡ None → f.queue ≡ []
unfolding packet_sent
none-sent now f h e =
    let head : sent f.codel now f.queue ≡ None =
    none-mapped (λ (head : Stamped). record { packet = leaving (marks f.codel now f.queue) head.packet; marked = marks f.codel now f.queue })
    (sent f.codel now f.queue) e in
    no-head f.queue (ap (slice_get f.queue) (sym (spares-drops f.codel h.not_above h.not_dropping now f.queue)) ∙ head)

adjust-own : (g : Flow → Flow) (n : ℕ) (flows : List Flow) → slice_get (adjust g n flows) n ≡ option_map g (slice_get flows n)
unfolding adjust
adjust-own g n [] = refl
adjust-own g zero (x ∷ flows) = refl
adjust-own g (suc n) (x ∷ flows) = adjust-own g n flows

own-rests : (j now : ℕ) (s : FqState) (e : Entry) → e.flow ≡ j → front s ≡ Some e → sent_from now s ≡ None → FlowRests j s.flows → FlowRests j (adjust (flow_after now) j s.flows)
unfolding sent_from
own-rests j now s e own at none h f there =
    by (slice_get s.flows j) refl (sym (adjust-own (flow_after now) j s.flows) ∙ there)
    (ap (option_and_then (packet_sent now)) (sym (sender_found s e (drop 1 (s.new_flows ++ s.old_flows)) (front_is s e at) ∙ ap (slice_get s.flows) own)) ∙ none)
  where
    by : (o : Option Flow) → slice_get s.flows j ≡ o → option_map (flow_after now) o ≡ Some f → option_and_then (packet_sent now) o ≡ None → IsAtRest f
    by None is after sends = absurd (none-some f after)
    by (Some g) is after sends = subst IsAtRest (same_Some (flow_after now g) f after) (empty-rests now g (h g is) (none-sent now g (h g is) sends))

gave-own : (j : ℕ) (e : Entry) (t : Taken) → e.flow ≡ j → bytes_given j (flow_gave (Some e) (Some t)) ≡ t.packet.len
gave-own j e t own = omega (arith, sum_by-cons (given_by j) (FlowGave e.flow t.packet.len) [], ap (λ (b : Bool). if b then t.packet.len else 0) (eq-eqb j e.flow (sym own)))

sent-keeps : (j now : ℕ) (s : FqState) → bytes_given j (flow_gave (front s) (sent_from now s)) ≡ 0 → IfSome (sent_from now s) (λ t. 1 ≤ t.packet.len)
    → FlowRests j s.flows → FlowRests j (after_sending now s).flows
sent-keeps j now s nothing long h = by (front s) refl
  where
    own : (e : Entry) → front s ≡ Some e → e.flow ≡ j → (o : Option Taken) → sent_from now s ≡ o → IfSome o (λ t. 1 ≤ t.packet.len) → FlowRests j (adjust (flow_after now) j s.flows)
    own e at same None sends l = own-rests j now s e same at sends h
    own e at same (Some t) sends l =
        let gave : bytes_given j (flow_gave (Some e) (Some t)) ≡ 0 = ap₂ (λ (x : Option Entry) (o : Option Taken). bytes_given j (flow_gave x o)) (sym at) (sym sends) ∙ nothing in
        absurd (omega (arith, gave, gave-own j e t same, l))

    by : (o : Option Entry) → front s ≡ o → FlowRests j (after_sending now s).flows
    by None e =
        let none = front_none s e in
        subst (λ (t : FqState). FlowRests j t.flows) (sym (after_none s now none.0 none.1)) h
    by (Some e) at =
        subst (λ (t : FqState). FlowRests j t.flows) (sym (after_sending_written s e now at))
        (⊎_elim
        (λ (same : e.flow ≡ j). subst (λ (k : ℕ). FlowRests j (adjust (flow_after now) k s.flows)) (sym same) (own e at same (sent_from now s) refl long))
        (λ (other : e.flow ≢ j). rests-other (flow_after now) j e.flow s.flows other h)
        (cases_eq e.flow j))

-- ---- an event

module _ (major j : ℕ) where
  -- over some events: the flow stays at rest where it gives nothing
  record Keeps (x y : FqAt) : Type 0 where
    notes : List Note
    is : y.noted ≡ x.noted ++ notes
    keeps : bytes_given j notes ≡ 0 → FlowRests j x.state.flows → FlowRests j y.state.flows

  no-keeps : (x : FqAt) → Keeps x x
  no-keeps x = record { notes = []; is = sym (append-nil x.noted); keeps = λ none h. h }

  more-keeps : (x y z : FqAt) → Keeps x y → Keeps y z → Keeps x z
  more-keeps x y z a b = record {
    notes = a.notes ++ b.notes;
    is = b.is ∙ ap (λ ns. ns ++ b.notes) a.is ∙ append_assoc x.noted a.notes b.notes;
    keeps = λ none h. let gave = sum_by-append (given_by j) a.notes b.notes in b.keeps (omega (arith, none, gave)) (a.keeps (omega (arith, none, gave)) h);
  }

  module _ (d : DeviceState (List Note)) (e : Event) (x y : FqAt) (kept : IsKept d) (range : IsEvent e) (is : fq_in major d ≡ Some x) (at : fq_in major (step history d e).device ≡ Some y) where
    now : ℕ
    now = (step history d e).device.clock

    stepped : RestStep j (step history d e).device.clock x.state y.state x.noted y.noted
    stepped = rest-step major j d e x y kept range is at

    event-keeps : Keeps x y
    event-keeps = record { notes = stepped.notes; is = stepped.is; keeps = λ none h. by none h stepped.by }
      where
        by : bytes_given j stepped.notes ≡ 0 → FlowRests j x.state.flows → Outcome j (step history d e).device.clock x.state y.state stepped.notes → FlowRests j y.state.flows
        by none h (inl stays) = stays h
        by none h (inr turns) =
            subst (λ (t : FqState). FlowRests j t.flows) (sym turns.0)
            (sent-keeps j (step history d e).device.clock (selected x.state) (sym turns.1 ∙ none) (sent_has_length major (step history d e).device.clock d x kept is).0 (selected-keeps j x.state h))

    -- one that a packet joins
    event-joins : is_listed j (lists_of x.state) ≡ false → is_listed j (lists_of y.state) ≡ true → FlowRests j x.state.flows → FlowRests j y.state.flows
    event-joins absent listed h = by stepped.by
      where
        by : Outcome j (step history d e).device.clock x.state y.state stepped.notes → FlowRests j y.state.flows
        by (inl stays) = stays h
        by (inr turns) =
            absurd (omega (
              arith,
              listed_not j (lists_of x.state) absent,
              listed_yes j (lists_of y.state) listed,
              ap (λ (t : FqState). times j (lists_of t)) turns.0,
              times_sent j (step history d e).device.clock (selected x.state),
              times_selected j x.state,
            ))

-- ---- over a stretch

module _ (major j : ℕ) where
  -- while the flow is backlogged
  abbrev Moves : DeviceState (List Note) → DeviceState (List Note) → Type 0
  Moves d later = (x y : FqAt) → fq_in major d ≡ Some x → fq_in major later ≡ Some y → Keeps major j x y

  still : (d : DeviceState (List Note)) → IsKept d → IsQueuedFlow major j d → Moves d d
  still d kept h x y e f = subst (Keeps major j x) (same_Some x y (sym e ∙ f)) (no-keeps major j x)

  one : (d : DeviceState (List Note)) (e : Event) → IsKept d → IsEvent e → IsQueuedFlow major j d → IsQueuedFlow major j (step history d e).device → Moves d (step history d e).device
  one d e kept range h l x y is at = event-keeps major j d e x y kept range is at

  more : (a b c : DeviceState (List Note)) → IsQueuedFlow major j a → IsQueuedFlow major j b → Moves a b → Moves b c → Moves a c
  more a b c h l f g x w e at = more-keeps major j x l.fq w (f x l.fq e l.there) (g l.fq w l.there at)

pub joining-flows-are-spared : (settings : DeviceSettings) → IsInRange settings → JoiningFlowsAreSpared settings
joining-flows-are-spared settings range before e during major j first next last f all_before event all_during is later at absent listed stays silent found_it =
    let all_next : All IsEvent (before ++ e ∷ []) = All-push IsEvent before e all_before event in
    let d : DeviceState (List Note) = device_after settings before in
    let kept : IsKept d = replay-kept settings before range all_before in
    let stepped : device_after settings (before ++ e ∷ []) ≡ (step history d e).device =
    ap (λ (r : Replay (List Note)). r.device) (replay_from-append history (nothing_yet history settings) before e) in
    let after : fq_in major (step history d e).device ≡ Some next = ap (fq_in major) (sym stepped) ∙ later in
    let left : FlowRests j first.state.flows = unlisted-rests settings before major j first range all_before is absent in
    let joined : FlowRests j next.state.flows = event-joins major j d e first next kept event is after absent listed left in
    let joins : Keeps major j first next = event-keeps major j d e first next kept event is after in
    let m : Keeps major j next last =
    moves (IsQueuedFlow major j) (Moves major j) (still major j) (one major j) (more major j) settings (before ++ e ∷ []) during range all_next
    all_during stays next last later at in
    let none : bytes_given j m.notes ≡ 0 =
    omega (
      arith,
      silent,
      ap (bytes_given j) joins.is,
      sum_by-append (given_by j) first.noted joins.notes,
      ap (bytes_given j) m.is,
      sum_by-append (given_by j) next.noted m.notes,
    ) in
    sparing f (m.keeps none joined f found_it)
