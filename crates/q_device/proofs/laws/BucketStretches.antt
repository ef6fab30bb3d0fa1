-- A tbf over a stretch, from what each event comes to there.
use Rattle.std.proofs.Common.{◌≡◌, ℕ, ◌*◌, ◌-◌, List, [], ◌++◌, refl, sym, ap, subst, ◌∙◌, Some, arith}
use Rattle.std.proofs.lemmas.List.{append-nil}
use Rattle.std.proofs.lemmas.Option.{same_Some}
use Rattle.q_model.specs.declared.event.Event.{Event}
use Rattle.q_model.specs.Events.{IsEvent}
use Rattle.q_model.specs.Tally.{Note, history}
use Rattle.q_model.specs.Settings.{DeviceSettings, IsInRange}
use Rattle.q_model.specs.Step.{DeviceState, step}
use Rattle.q_model.specs.Stretches.{TbfAt, tbf_in, IsTbf}
use Rattle.q_invariants.proofs.Along.{moves}
use Rattle.q_invariants.proofs.bucket.BucketMoves.{TbfMoves, step-moves, more-moves, no-moves}
use Rattle.q_invariants.proofs.Replays.{IsKept}
use Rattle.q_device.specs.Sharing.{device_after, BucketsAreBounded}

module _ (major rate burst : ℕ) where
  abbrev Stays : DeviceState (List Note) → Type 0
  Stays = IsTbf major rate burst

  abbrev Moves : DeviceState (List Note) → DeviceState (List Note) → Type 0
  Moves d later = (x y : TbfAt) → tbf_in major d ≡ Some x → tbf_in major later ≡ Some y → TbfMoves d.clock later.clock x y

  -- the one that is there
  found : (d : DeviceState (List Note)) (x : TbfAt) (h : Stays d) → tbf_in major d ≡ Some x → h.tbf ≡ x
  found d x h e = same_Some h.tbf x (sym h.there ∙ e)

  still : (d : DeviceState (List Note)) → IsKept d → Stays d → Moves d d
  still d kept h x y e f = subst (λ (z : TbfAt). TbfMoves d.clock d.clock x z) (same_Some x y (sym e ∙ f)) (no-moves d.clock x)

  one : (d : DeviceState (List Note)) (e : Event) → IsKept d → IsEvent e → Stays d → Stays (step history d e).device → Moves d (step history d e).device
  one d e kept range h k x y is at = step-moves major d e x y kept range is at

  more : (a b c : DeviceState (List Note)) → Stays a → Stays b → Moves a b → Moves b c → Moves a c
  more a b c h k f g x z e at =
      let same : k.tbf.bucket.rate ≡ x.bucket.rate = k.same_rate ∙ sym h.same_rate ∙ ap (λ (t : TbfAt). t.bucket.rate) (found a x h e) in
      more-moves a.clock b.clock c.clock x k.tbf z same (f x k.tbf e k.there) (g k.tbf z k.there at)

pub buckets-bounded : (settings : DeviceSettings) → IsInRange settings → BucketsAreBounded settings
buckets-bounded settings range before during major rate burst first last all_before all_during stays is at =
    let start : DeviceState (List Note) = device_after settings before in
    let m : TbfMoves start.clock (device_after settings (before ++ during)).clock first last =
    moves (Stays major rate burst) (Moves major rate burst) (still major rate burst) (one major rate burst) (more major rate burst) settings before
    during range all_before all_during stays first last is at in
    let here : IsTbf major rate burst start = subst (λ (es : List Event). IsTbf major rate burst (device_after settings es)) (append-nil before) (stays [] during refl) in
    let same : here.tbf ≡ first = same_Some here.tbf first (sym here.there ∙ is) in
    let as_rate : first.bucket.rate ≡ rate = ap (λ (t : TbfAt). t.bucket.rate) (sym same) ∙ here.same_rate in
    let as_burst : first.bucket.burst ≡ burst = ap (λ (t : TbfAt). t.bucket.burst) (sym same) ∙ here.same_burst in
    let time : ℕ = (device_after settings (before ++ during)).clock - start.clock in
    record {
      notes = m.notes;
      goes_on = m.is;
      spent = let level = m.level in omega (arith, level, ap (λ r. r * time) as_rate, as_burst);
      sent = let held = m.held in omega (arith, held);
    }
