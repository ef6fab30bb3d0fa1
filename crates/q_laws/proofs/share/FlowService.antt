-- A flow of an fq_codel that stays backlogged, against each other flow, over a stretch and from one of its grants to the next.
use Rattle.std.proofs.Common.{◌≡◌, ◌≢◌, ℕ, ◌+◌, ◌-◌, ◌*◌, ◌≤◌, max, ℤ, pos, false, List, [], ◌∷◌, ◌++◌, sym, ap, subst, ◌∙◌, Option, Some, None, refl, inl, inr, arith}
use Rattle.std.specs.Prelude.{All, unwrap_or}
use Rattle.std.proofs.lemmas.Bool.{cases_eq}
use Rattle.std.proofs.lemmas.List.{append_assoc}
use Rattle.std.proofs.lemmas.List.Elements.{All-push}
use Rattle.std.proofs.lemmas.List.Sums.{sum_by-append}
use Rattle.std.proofs.lemmas.Option.{none-some, same_Some}
use Rattle.q_fqcodel.specs.Entry.{Entry}
use Rattle.q_fqcodel.specs.FqState.{FqState, is_idle}
use Rattle.q_fqcodel.specs.Lawful.{times}
use Rattle.q_fqcodel.specs.Laws.{credits_of}
use Rattle.q_model.specs.declared.event.Event.{Event}
use Rattle.q_model.specs.Events.{IsEvent}
use Rattle.q_model.specs.Tally.{Note, history}
use Rattle.q_model.specs.Replay.{Replay, nothing_yet}
use Rattle.q_model.specs.Settings.{DeviceSettings, IsInRange}
use Rattle.q_model.specs.Step.{DeviceState, step}
use Rattle.q_model.specs.Stretches.{flow_granted_by, given_by, flow_grants_to, bytes_given, reach, FqAt, fq_in, IsBackloggedFlow, Throughout}
use Rattle.q_invariants.proofs.Along.{moves}
use Rattle.q_invariants.proofs.flow.FlowAgainst.{FlowAgainst, FlowBounded, no-flow-against, flow-against, flow-bounded, more-flow-against}
use Rattle.q_invariants.proofs.flow.FlowLists.{listed-credits}
use Rattle.q_invariants.proofs.flow.FlowMoves.{fq-node, fq-lawful}
use Rattle.q_invariants.proofs.flow.FlowReach.{in_lists, reach_in, lists-new, lists-none, lists-bound, reach-listed, reach-none}
use Rattle.q_invariants.proofs.flow.FlowSteps.{lists_of}
use Rattle.q_invariants.proofs.Replays.{IsKept, replay-kept}
use Rattle.q_device.specs.Sharing.{device_after}
use Rattle.q_device.proofs.ClassStretches.{at-start, mtu-stays}
use Rattle.q_device.proofs.ReplayLemmas.{replay_from-append}
use Rattle.q_laws.specs.share.Service.{credits_in, FlowAgainstAny, NoFlowStarves}

module _ (major i j quantum mtu : ℕ) (apart : i ≢ j) where
  abbrev Stays : DeviceState (List Note) → Type 0
  Stays d = IsBackloggedFlow major i quantum d × (d.tree.device.mtu ≡ mtu)

  abbrev Moves : DeviceState (List Note) → DeviceState (List Note) → Type 0
  Moves d later = (x y : FqAt) → fq_in major d ≡ Some x → fq_in major later ≡ Some y → FlowAgainst i j mtu quantum x y

  busy-in : (d : DeviceState (List Note)) (x : FqAt) (h : Stays d) → fq_in major d ≡ Some x → is_idle x.state.flows i ≡ false
  busy-in d x h e = ap (λ (f : FqAt). is_idle f.state.flows i) (sym (same_Some h.0.fq x (sym h.0.there ∙ e))) ∙ h.0.queued

  quantum-in : (d : DeviceState (List Note)) (x : FqAt) (h : Stays d) → fq_in major d ≡ Some x → x.state.settings.quantum ≡ quantum
  quantum-in d x h e = ap (λ (f : FqAt). f.state.settings.quantum) (sym (same_Some h.0.fq x (sym h.0.there ∙ e))) ∙ h.0.same_quantum

  still : (d : DeviceState (List Note)) → IsKept d → Stays d → Moves d d
  still d kept h x y e f = subst (λ (z : FqAt). FlowAgainst i j mtu quantum x z) (same_Some x y (sym e ∙ f)) (no-flow-against i j mtu quantum x)

  one : (d : DeviceState (List Note)) (e : Event) → IsKept d → IsEvent e → Stays d → Stays (step history d e).device → Moves d (step history d e).device
  one d e kept range h k x y is at =
      subst (λ m. FlowAgainst i j m quantum x y) h.1
      (flow-against major i j quantum d e x y apart kept range is at (busy-in d x h is) (quantum-in d x h is) (quantum-in (step history d e).device y k at))

  more : (a b c : DeviceState (List Note)) → Stays a → Stays b → Moves a b → Moves b c → Moves a c
  more a b c h k f g x z e at = more-flow-against i j mtu quantum x k.0.fq z (f x k.0.fq e k.0.there) (g k.0.fq z k.0.there at)

  over : (settings : DeviceSettings) (before during : List Event) → IsInRange settings → All IsEvent before → All IsEvent during → settings.mtu ≡ mtu
      → Throughout (IsBackloggedFlow major i quantum) settings before during
      → Moves (device_after settings before) (device_after settings (before ++ during))
  over settings before during range all_before all_during same stays =
      moves Stays Moves still one more settings before during range all_before all_during (λ seen later e. (stays seen later e, mtu-stays settings (before ++ seen) ∙ same))

-- a flow without credits is not listed
unlisted : (j : ℕ) (es : List Entry) → credits_of j es ≡ None → times j es ≡ 0
unlisted j es e = elim (cases_eq (times j es) 0) [
  | inl none ↦ none
  | inr some ↦ let z = listed-credits j es (omega (arith, some)) in absurd (none-some z.0 (sym e ∙ z.1))
]

pub flow-against-any : (settings : DeviceSettings) → IsInRange settings → FlowAgainstAny settings
flow-against-any settings range before during major i j quantum first last apart all_before all_during stays is at =
    let start : DeviceState (List Note) = device_after settings before in
    let m = over major i j quantum settings.mtu apart settings before during range all_before all_during refl stays first last is at in
    let h = at-start (IsBackloggedFlow major i quantum) settings before during stays in
    let law = fq-lawful major start first (replay-kept settings before range all_before) (fq-node major start first is) in
    let q : first.state.settings.quantum ≡ quantum = ap (λ (f : FqAt). f.state.settings.quantum) (sym (same_Some h.fq first (sym h.there ∙ is))) ∙ h.same_quantum in
    let positive : 1 ≤ quantum = subst (λ n. 1 ≤ n) q law.settings.quantum_low in
    let within = m.within in
    record {
      notes = m.notes;
      goes_on = m.is;
      no_more = omega (arith, within, most positive (credits_of j (lists_of first.state)) refl);
      in_new = λ z e. omega (arith, within, lists-new i j quantum settings.mtu false first.state.new_flows first.state.old_flows z e);
    }
  where
    most : 1 ≤ quantum → (o : Option ℤ) → credits_of j (lists_of first.state) ≡ o
        → in_lists i j quantum settings.mtu false first.state.new_flows first.state.old_flows ≤ quantum + reach settings.mtu (unwrap_or o (pos 0))
    most positive (Some z) e =
        omega (arith, lists-bound i j quantum settings.mtu positive false first.state.new_flows first.state.old_flows, reach-listed i j quantum settings.mtu (lists_of first.state) z e)
    most positive None e = omega (arith, lists-none i j quantum settings.mtu false first.state.new_flows first.state.old_flows (unlisted j (lists_of first.state) e))

-- ---- from one grant to the next

reach-most : (i j q mtu : ℕ) (s : FqState) (o : Option ℤ) → credits_of j (lists_of s) ≡ o → reach_in i j q mtu (lists_of s) ≤ max (q + (mtu - 1)) (reach mtu (unwrap_or o (pos 0)))
reach-most i j q mtu s (Some z) e = omega (arith, reach-listed i j q mtu (lists_of s) z e)
reach-most i j q mtu s None e = omega (arith, reach-none i j q mtu (lists_of s) (unlisted j (lists_of s) e))

pub no-flow-starves : (settings : DeviceSettings) → IsInRange settings → NoFlowStarves settings
no-flow-starves settings range before e during major i j quantum first next last apart all_before event all_during stays is then at same =
    let start : DeviceState (List Note) = device_after settings before in
    let kept : IsKept start = replay-kept settings before range all_before in
    let stepped : device_after settings (before ++ e ∷ []) ≡ (step history start e).device =
    ap (λ (r : Replay (List Note)). r.device) (replay_from-append history (nothing_yet history settings) before e) in
    let whole : (seen : List Event) → before ++ (e ∷ seen) ≡ (before ++ e ∷ []) ++ seen = λ seen. sym (append_assoc before (e ∷ []) seen) in
    let later : Throughout (IsBackloggedFlow major i quantum) settings (before ++ e ∷ []) during =
    λ seen later together. subst (λ (es : List Event). IsBackloggedFlow major i quantum (device_after settings es)) (whole seen) (stays (e ∷ seen) later (ap (λ es. e ∷ es) together)) in
    let h = at-start (IsBackloggedFlow major i quantum) settings before (e ∷ during) stays in
    let k = at-start (IsBackloggedFlow major i quantum) settings (before ++ e ∷ []) during later in
    let first_is : h.fq ≡ first = same_Some h.fq first (sym h.there ∙ is) in
    let next_is : k.fq ≡ next = same_Some k.fq next (sym k.there ∙ then) in
    let quantum_first : first.state.settings.quantum ≡ quantum = ap (λ (f : FqAt). f.state.settings.quantum) (sym first_is) ∙ h.same_quantum in
    let quantum_next : next.state.settings.quantum ≡ quantum = ap (λ (f : FqAt). f.state.settings.quantum) (sym next_is) ∙ k.same_quantum in
    let busy : is_idle first.state.flows i ≡ false = ap (λ (f : FqAt). is_idle f.state.flows i) (sym first_is) ∙ h.queued in
    let b : FlowBounded i j settings.mtu quantum first next =
    subst (λ n. FlowBounded i j n quantum first next) (mtu-stays settings before)
    (flow-bounded major i j quantum start e first next apart kept event is (ap (fq_in major) (sym stepped) ∙ then) busy quantum_first quantum_next) in
    let m = over major i j quantum settings.mtu apart settings (before ++ e ∷ []) during range (All-push IsEvent before e all_before event) all_during refl later next last then
    (ap (λ (es : List Event). fq_in major (device_after settings es)) (sym (whole during)) ∙ at) in
    let grants : flow_grants_to i next.noted + flow_grants_to i m.notes ≡ flow_grants_to i next.noted =
    sym (sum_by-append (flow_granted_by i) next.noted m.notes) ∙ ap (flow_grants_to i) (sym m.is) ∙ same in
    let no_grants : flow_grants_to i m.notes ≡ 0 = omega (arith, grants) in
    let none : flow_grants_to i m.notes * (2 * quantum - 1) ≡ 0 = ap (λ n. n * (2 * quantum - 1)) no_grants ∙ omega arith in
    let gave_first : bytes_given j next.noted ≡ bytes_given j first.noted + bytes_given j b.notes = ap (bytes_given j) b.is ∙ sum_by-append (given_by j) first.noted b.notes in
    let gave_then : bytes_given j last.noted ≡ bytes_given j next.noted + bytes_given j m.notes = ap (bytes_given j) m.is ∙ sum_by-append (given_by j) next.noted m.notes in
    let most : ℕ = max (reach settings.mtu (pos quantum)) (reach settings.mtu (credits_in j first)) in
    let bound = b.bounded most (omega arith) (reach-most i j quantum settings.mtu first.state (credits_of j (lists_of first.state)) refl) in
    let within = m.within in
    omega (arith, bound, within, none, gave_first, gave_then)
