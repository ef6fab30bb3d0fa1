-- The flows of an fq_codel over a stretch, one and two of them, from what each event comes to there.
use Rattle.std.proofs.Common.{◌≡◌, ℕ, ◌*◌, false, List, [], ◌∷◌, ◌++◌, sym, ap, subst, ◌∙◌, Some, arith}
use Rattle.std.proofs.lemmas.Int.{ints}
use Rattle.std.proofs.lemmas.Option.{same_Some}
use Rattle.q_fqcodel.specs.FqState.{is_idle}
use Rattle.q_model.specs.declared.event.Event.{Event}
use Rattle.q_model.specs.Events.{IsEvent}
use Rattle.q_model.specs.Tally.{Note, history}
use Rattle.q_model.specs.Replay.{Replay, nothing_yet}
use Rattle.q_model.specs.Settings.{DeviceSettings, IsInRange}
use Rattle.q_model.specs.Step.{DeviceState, step}
use Rattle.q_model.specs.Stretches.{flow_grants_to, FqAt, fq_in, IsBackloggedFlow}
use Rattle.q_invariants.proofs.Along.{moves}
use Rattle.q_invariants.proofs.flow.FlowBegins.{flow-begins}
use Rattle.q_invariants.proofs.flow.FlowMoves.{FlowMoves, flow-moves, more-flow-moves, no-flow-moves, backlogged-credits}
use Rattle.q_invariants.proofs.flow.FlowPairs.{FlowPairMoves, flow-pair-moves, more-flow-pair-moves, no-flow-pair-moves}
use Rattle.q_invariants.proofs.Replays.{IsKept, replay-kept}
use Rattle.q_device.proofs.laws.ClassStretches.{at-start}
use Rattle.q_device.proofs.laws.ReplayLemmas.{replay_from-append}
use Rattle.q_fqcodel.proofs.OrderLemmas.{one_if}
use Rattle.q_device.specs.Sharing.{device_after, FlowsGiveTheirShares, FlowsBeginNew, FlowsAreGrantedEvenly}

module _ (major flow quantum : ℕ) where
  abbrev Stays : DeviceState (List Note) → Type 0
  Stays = IsBackloggedFlow major flow quantum

  abbrev Moves : DeviceState (List Note) → DeviceState (List Note) → Type 0
  Moves d later = (x y : FqAt) → fq_in major d ≡ Some x → fq_in major later ≡ Some y → FlowMoves flow x y

  there-is : (d : DeviceState (List Note)) (x : FqAt) (h : Stays d) → fq_in major d ≡ Some x → h.fq ≡ x
  there-is d x h e = same_Some h.fq x (sym h.there ∙ e)

  busy-in : (d : DeviceState (List Note)) (x : FqAt) (h : Stays d) → fq_in major d ≡ Some x → is_idle x.state.flows flow ≡ false
  busy-in d x h e = ap (λ (f : FqAt). is_idle f.state.flows flow) (sym (there-is d x h e)) ∙ h.queued

  quantum-in : (d : DeviceState (List Note)) (x : FqAt) (h : Stays d) → fq_in major d ≡ Some x → x.state.settings.quantum ≡ quantum
  quantum-in d x h e = ap (λ (f : FqAt). f.state.settings.quantum) (sym (there-is d x h e)) ∙ h.same_quantum

  still : (d : DeviceState (List Note)) → IsKept d → Stays d → Moves d d
  still d kept h x y e f = subst (λ (z : FqAt). FlowMoves flow x z) (same_Some x y (sym e ∙ f)) (no-flow-moves flow x)

  one : (d : DeviceState (List Note)) (e : Event) → IsKept d → IsEvent e → Stays d → Stays (step history d e).device → Moves d (step history d e).device
  one d e kept range h k x y is at = flow-moves major flow d e x y kept range is at (busy-in d x h is)

  more : (a b c : DeviceState (List Note)) → Stays a → Stays b → Moves a b → Moves b c → Moves a c
  more a b c h k f g x z e at = more-flow-moves flow x k.fq z (k.same_quantum ∙ sym (quantum-in a x h e)) (f x k.fq e k.there) (g k.fq z k.there at)

pub flows-share : (settings : DeviceSettings) → IsInRange settings → FlowsGiveTheirShares settings
flows-share settings range before during major flow quantum first last all_before all_during stays is at =
    let start : DeviceState (List Note) = device_after settings before in
    let m : FlowMoves flow first last =
    moves (Stays major flow quantum) (Moves major flow quantum) (still major flow quantum) (one major flow quantum) (more major flow quantum)
    settings before during range all_before all_during stays first last is at in
    let here = at-start (IsBackloggedFlow major flow quantum) settings before during stays in
    let q : first.state.settings.quantum ≡ quantum = quantum-in major flow quantum start first here is in
    let z = backlogged-credits major flow start first (replay-kept settings before range all_before) is (busy-in major flow quantum start first here is) in
    let b = m.books z.0 z.1 in
    record {
      notes = m.notes;
      goes_on = m.is;
      first_credits = z.0;
      last_credits = b.after;
      at_first = z.1;
      at_last = b.is;
      share = let books = b.books in omega (arith, ints, books, ap (λ k. flow_grants_to flow m.notes * k) q);
    }

pub flows-begin : (settings : DeviceSettings) → IsInRange settings → FlowsBeginNew settings
flows-begin settings range events e major flow fq next all event is at apart listed =
    let on : device_after settings (events ++ e ∷ []) ≡ (step history (device_after settings events) e).device =
    ap (λ (r : Replay (List Note)). r.device) (replay_from-append history (nothing_yet history settings) events e) in
    flow-begins major flow (device_after settings events) e fq next (replay-kept settings events range all) event is (ap (fq_in major) (sym on) ∙ at) apart listed

-- ---- two flows

module _ (major i j quantum : ℕ) where
  abbrev BothStay : DeviceState (List Note) → Type 0
  BothStay d = IsBackloggedFlow major i quantum d × IsBackloggedFlow major j quantum d

  abbrev BothMove : DeviceState (List Note) → DeviceState (List Note) → Type 0
  BothMove d later = (x y : FqAt) → fq_in major d ≡ Some x → fq_in major later ≡ Some y → FlowPairMoves i j x y

  pair-still : (d : DeviceState (List Note)) → IsKept d → BothStay d → BothMove d d
  pair-still d kept h x y e f = subst (λ (z : FqAt). FlowPairMoves i j x z) (same_Some x y (sym e ∙ f)) (no-flow-pair-moves i j x)

  pair-one : (d : DeviceState (List Note)) (e : Event) → IsKept d → IsEvent e → BothStay d → BothStay (step history d e).device → BothMove d (step history d e).device
  pair-one d e kept range h k x y is at = flow-pair-moves major i j d e x y kept range is at (busy-in major i quantum d x h.0 is) (busy-in major j quantum d x h.1 is)

  pair-more : (a b c : DeviceState (List Note)) → BothStay a → BothStay b → BothMove a b → BothMove b c → BothMove a c
  pair-more a b c h k f g x z e at = more-flow-pair-moves i j x k.0.fq z (f x k.0.fq e k.0.there) (g k.0.fq z k.0.there at)

pub flows-even : (settings : DeviceSettings) → IsInRange settings → FlowsAreGrantedEvenly settings
flows-even settings range before during major i j quantum first last all_before all_during stays_i stays_j is at =
    let m : FlowPairMoves i j first last =
    moves (BothStay major i j quantum) (BothMove major i j quantum) (pair-still major i j quantum) (pair-one major i j quantum)
    (pair-more major i j quantum) settings before during range all_before all_during
    (λ seen later e. (stays_i seen later e, stays_j seen later e)) first last is at in
    let even = m.even in
    record {
      notes = m.notes;
      goes_on = m.is;
      same_order = λ e. omega (arith, even, ap one_if e);
      overtaken = λ e f. omega (arith, even, ap one_if e, ap one_if f);
      overtakes = λ e f. omega (arith, even, ap one_if e, ap one_if f);
    }
