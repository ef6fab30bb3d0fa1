-- A flow that joins an fq_codel, until it gives a packet.
use Rattle.std.proofs.Common.{◌≡◌, ◌≢◌, ℕ, ◌+◌, ℤ, pos, ◌<ℤ◌, ◌≤ℤ◌, true, false, List, [], ◌∷◌, ◌++◌, sym, ap, subst, ◌∙◌, Some, refl, arith}
use Rattle.std.specs.Prelude.{All}
use Rattle.std.proofs.lemmas.Int.{ints}
use Rattle.std.proofs.lemmas.List.{append_assoc}
use Rattle.std.proofs.lemmas.List.Elements.{All-push}
use Rattle.std.proofs.lemmas.List.Sums.{sum_by-append}
use Rattle.std.proofs.lemmas.Option.{same_Some}
use Rattle.q_fqcodel.specs.FqState.{is_idle}
use Rattle.q_fqcodel.specs.Laws.{credits_of}
use Rattle.q_fqcodel.specs.Put.{is_listed}
use Rattle.q_fqcodel.proofs.PutLemmas.{listed_not}
use Rattle.q_model.specs.declared.event.Event.{Event}
use Rattle.q_model.specs.Events.{IsEvent}
use Rattle.q_model.specs.Tally.{Note, history}
use Rattle.q_model.specs.Replay.{Replay, nothing_yet}
use Rattle.q_model.specs.Settings.{DeviceSettings, IsInRange}
use Rattle.q_model.specs.Step.{DeviceState, step}
use Rattle.q_model.specs.Stretches.{given_by, bytes_given, FqAt, fq_in, Throughout}
use Rattle.q_invariants.proofs.Along.{moves}
use Rattle.q_invariants.proofs.flow.FlowBegins.{flow-begins}
use Rattle.q_invariants.proofs.flow.FlowJoins.{FlowWaits, no-flow-waits, more-flow-waits, flow-waits, flow-joins}
use Rattle.q_invariants.proofs.flow.FlowMoves.{fq-node, fq-lawful}
use Rattle.q_invariants.proofs.Replays.{IsKept, replay-kept}
use Rattle.q_device.specs.Sharing.{device_after}
use Rattle.q_device.proofs.ClassStretches.{at-start, mtu-stays, same-rest}
use Rattle.q_device.proofs.ReplayLemmas.{replay_from-append}
use Rattle.q_laws.specs.share.Service.{IsQueuedFlow, GoesFirst, NewFlowFirst}
use Rattle.q_laws.proofs.new_flow.NewFlowQuiet.{reach-none, FlowQuiet, no-flow-quiet, more-flow-quiet, flow-quiet}

module _ (major j k mtu : ℕ) (apart : j ≢ k) (z : ℤ) (high : pos 0 <ℤ z) where
  abbrev Stays : DeviceState (List Note) → Type 0
  Stays d = IsQueuedFlow major j d × (d.tree.device.mtu ≡ mtu)

  -- what flow k may give before flow j, and that it gives nothing where its credits are spent
  abbrev Both : FqAt → FqAt → Type 0
  Both x y = FlowWaits j k mtu apart z x y × FlowQuiet j k apart z mtu x y

  abbrev Moves : DeviceState (List Note) → DeviceState (List Note) → Type 0
  Moves d later = (x y : FqAt) → fq_in major d ≡ Some x → fq_in major later ≡ Some y → Both x y

  still : (d : DeviceState (List Note)) → IsKept d → Stays d → Moves d d
  still d kept h x y e f = subst (Both x) (same_Some x y (sym e ∙ f)) (no-flow-waits j k mtu apart z x, no-flow-quiet j k apart z mtu x)

  one : (d : DeviceState (List Note)) (e : Event) → IsKept d → IsEvent e → Stays d → Stays (step history d e).device → Moves d (step history d e).device
  one d e kept range h l x y is at =
      let busy : is_idle x.state.flows j ≡ false = ap (λ (f : FqAt). is_idle f.state.flows j) (sym (same_Some h.0.fq x (sym h.0.there ∙ is))) ∙ h.0.queued in
      subst (λ m. FlowWaits j k m apart z x y × FlowQuiet j k apart z m x y) h.1
      (flow-waits major j k apart z high d e x y kept range is at busy, flow-quiet j k apart major z high d e x y kept range is at busy)

  more : (a b c : DeviceState (List Note)) → Stays a → Stays b → Moves a b → Moves b c → Moves a c
  more a b c h l f g x w e at =
      let first = f x l.0.fq e l.0.there in
      let later = g l.0.fq w l.0.there at in
      (more-flow-waits j k mtu apart z x l.0.fq w first.0 later.0, more-flow-quiet j k apart z mtu x l.0.fq w first.1 later.1)

  over : (settings : DeviceSettings) (before during : List Event) → IsInRange settings → All IsEvent before → All IsEvent during → settings.mtu ≡ mtu
      → Throughout (IsQueuedFlow major j) settings before during
      → Moves (device_after settings before) (device_after settings (before ++ during))
  over settings before during range all_before all_during same stays =
      moves Stays Moves still one more settings before during range all_before all_during (λ seen later e. (stays seen later e, mtu-stays settings (before ++ seen) ∙ same))

-- what the fq_codel noted meanwhile, and what that says of another flow
pub record GoesOn (k mtu : ℕ) (first last : FqAt) : Type 0 where
  pub notes : List Note
  pub is : last.noted ≡ first.noted ++ notes
  pub first_goes : GoesFirst k mtu first last

pub new-flow-goes : (settings : DeviceSettings) → IsInRange settings
    → (before : List Event) (e : Event) (during : List Event) (major j k : ℕ) (first next last : FqAt) → j ≢ k → All IsEvent before → IsEvent e
    → All IsEvent during
    → fq_in major (device_after settings before) ≡ Some first → fq_in major (device_after settings (before ++ e ∷ [])) ≡ Some next
    → fq_in major (device_after settings (before ++ e ∷ during)) ≡ Some last
    → is_listed j (first.state.new_flows ++ first.state.old_flows) ≡ false → is_listed j (next.state.new_flows ++ next.state.old_flows) ≡ true
    → Throughout (IsQueuedFlow major j) settings (before ++ e ∷ []) during → bytes_given j last.noted ≡ bytes_given j first.noted
    → GoesOn k settings.mtu first last
new-flow-goes settings range before e during major j k first next last apart all_before event all_during is then at absent listed stays silent =
    let start : DeviceState (List Note) = device_after settings before in
    let kept : IsKept start = replay-kept settings before range all_before in
    let stepped : device_after settings (before ++ e ∷ []) ≡ (step history start e).device =
    ap (λ (r : Replay (List Note)). r.device) (replay_from-append history (nothing_yet history settings) before e) in
    let after : fq_in major (step history start e).device ≡ Some next = ap (fq_in major) (sym stepped) ∙ then in
    let whole : before ++ (e ∷ during) ≡ (before ++ e ∷ []) ++ during = sym (append_assoc before (e ∷ []) during) in
    let all_next : All IsEvent (before ++ e ∷ []) = All-push IsEvent before e all_before event in
    let h = at-start (IsQueuedFlow major j) settings (before ++ e ∷ []) during stays in
    let law =
    fq-lawful major (device_after settings (before ++ e ∷ [])) next (replay-kept settings (before ++ e ∷ []) range all_next)
    (fq-node major (device_after settings (before ++ e ∷ [])) next then) in
    let positive = law.settings.quantum_low in
    let begins = flow-begins major j start e first next kept event is after absent listed in
    let joins = flow-joins major j k settings.mtu apart start e first next kept event is after absent listed in
    let high : pos 0 <ℤ pos next.state.settings.quantum = omega (arith, ints, positive) in
    let both = over major j k settings.mtu apart (pos next.state.settings.quantum) high settings (before ++ e ∷ []) during range all_next all_during refl stays next last then
    (ap (λ (es : List Event). fq_in major (device_after settings es)) (sym whole) ∙ at) in
    let m = both.0 in
    let q = both.1 in
    let gave_first : (n : ℕ) → bytes_given n next.noted ≡ bytes_given n first.noted =
    λ n. ap (bytes_given n) joins.is ∙ sum_by-append (given_by n) first.noted joins.notes ∙ omega (arith, joins.joins.nothing n) in
    let gave_then : (n : ℕ) → bytes_given n last.noted ≡ bytes_given n next.noted + bytes_given n m.notes = λ n. ap (bytes_given n) m.is ∙ sum_by-append (given_by n) next.noted m.notes in
    let none : bytes_given j m.notes ≡ 0 = omega (arith, silent, gave_first j, gave_then j) in
    let waits = m.waits none begins in
    let less = waits.less in
    let notes : q.notes ≡ m.notes = same-rest next.noted q.notes m.notes (sym q.is ∙ m.is) in
    let quiet : (c : ℤ) → credits_of k first.state.new_flows ≡ Some c → c ≤ℤ pos 0 → bytes_given k m.notes ≡ 0 =
    λ c credits low.
    let nothing = (q.quiet (ap (bytes_given j) notes ∙ none) begins (omega (arith, joins.joins.in_new c credits, reach-none settings.mtu c low))).nothing in
    sym (ap (bytes_given k) notes) ∙ nothing in
    record {
      notes = joins.notes ++ m.notes;
      is = m.is ∙ ap (λ ns. ns ++ m.notes) joins.is ∙ append_assoc first.noted joins.notes m.notes;
      first_goes = record {
        in_new = λ c credits. omega (arith, less, gave_first k, gave_then k, joins.joins.in_new c credits);
        spent = λ c credits low. omega (arith, quiet c credits low, gave_first k, gave_then k);
        others = λ gone. omega (arith, less, gave_first k, gave_then k, joins.joins.absent (listed_not k first.state.new_flows gone));
      };
    }

pub new-flow-first : (settings : DeviceSettings) → IsInRange settings → NewFlowFirst settings
new-flow-first settings range before e during major j k first next last apart all_before event all_during is then at absent listed stays silent =
    (new-flow-goes settings range before e during major j k first next last apart all_before event all_during is then at absent listed stays silent).first_goes
