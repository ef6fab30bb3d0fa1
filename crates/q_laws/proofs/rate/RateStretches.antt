-- A tbf whose level is nowhere cut, over a stretch: what it spends is what its rate brings.
use Rattle.std.proofs.Common.{◌≡◌, ℕ, ◌+◌, ◌-◌, ◌*◌, ◌≤◌, List, [], ◌∷◌, ◌++◌, sym, ap, subst, ◌∙◌, Option, Some, arith}
use Rattle.std.specs.Prelude.{IfSome}
use Rattle.std.proofs.Math.Nat.{mul-add}
use Rattle.std.proofs.lemmas.List.{append-nil, append_assoc}
use Rattle.std.proofs.lemmas.List.Sums.{sum_by-append}
use Rattle.std.proofs.lemmas.Option.{same_Some}
use Rattle.q_bucket.specs.Level.{units_in_byte, level_at}
use Rattle.q_model.specs.declared.event.Event.{Event}
use Rattle.q_model.specs.Events.{IsEvent}
use Rattle.q_model.specs.Settings.{DeviceSettings, IsInRange}
use Rattle.q_model.specs.Step.{DeviceState, step}
use Rattle.q_model.specs.Stretches.{spent_by, bytes_spent, TbfAt, tbf_in, IsTbf}
use Rattle.q_model.specs.Tally.{Note, history}
use Rattle.q_invariants.proofs.Along.{counted}
use Rattle.q_invariants.proofs.bucket.BucketMoves.{tbf-step}
use Rattle.q_invariants.proofs.bucket.BucketSteps.{IsUncutAt}
use Rattle.q_invariants.proofs.Replays.{IsKept}
use Rattle.q_laws.specs.rate.Rate.{IsUncut, IsNowhereCut, RateIsSpent}

-- what one that is there has at the moment of an event
pub uncut-there : (major : ℕ) (d : DeviceState (List Note)) (e : Event) (x : TbfAt) → tbf_in major d ≡ Some x → IsUncut major d e
    → IsUncutAt (step history d e).device.clock x.bucket
uncut-there major d e x is h = subst (λ (o : Option TbfAt). IfSome o (λ tbf. IsUncutAt (step history d e).device.clock tbf.bucket)) is h

module _ (major rate burst : ℕ) where
  abbrev Stays : DeviceState (List Note) → Type 0
  Stays = IsTbf major rate burst

  record Spends (clock now : ℕ) (x y : TbfAt) : Type 0 where
    notes : List Note
    is : y.noted ≡ x.noted ++ notes
    level : bytes_spent notes * units_in_byte + level_at y.bucket now ≡ level_at x.bucket clock + rate * (now - clock)
    later : clock ≤ now

  abbrev Moves : DeviceState (List Note) → List Event → DeviceState (List Note) → Type 0
  Moves d during end = (x y : TbfAt) → tbf_in major d ≡ Some x → tbf_in major end ≡ Some y → IsNowhereCut major d during → Spends d.clock end.clock x y

  still : (d : DeviceState (List Note)) → IsKept d → Stays d → Moves d [] d
  still d kept h x y is at uncut =
      subst (Spends d.clock d.clock x) (same_Some x y (sym is ∙ at)) (record {
        notes = [];
        is = sym (append-nil x.noted);
        level = omega (arith, nothing);
        later = omega arith;
      })
    where
      nothing : rate * (d.clock - d.clock) ≡ 0
      nothing = (let none : d.clock - d.clock ≡ 0 = omega arith in ap (λ n. rate * n) none) ∙ omega arith

  -- the one that is there
  rate-there : (d : DeviceState (List Note)) (x : TbfAt) (h : Stays d) → tbf_in major d ≡ Some x → x.bucket.rate ≡ rate
  rate-there d x h is = ap (λ (t : TbfAt). t.bucket.rate) (sym (same_Some h.tbf x (sym h.there ∙ is))) ∙ h.same_rate

  burst-there : (d : DeviceState (List Note)) (x : TbfAt) (h : Stays d) → tbf_in major d ≡ Some x → x.bucket.burst ≡ burst
  burst-there d x h is = ap (λ (t : TbfAt). t.bucket.burst) (sym (same_Some h.tbf x (sym h.there ∙ is))) ∙ h.same_burst

  more : (d : DeviceState (List Note)) (e : Event) (during : List Event) (end : DeviceState (List Note)) → IsKept d → IsEvent e → Stays d → Stays (step history d e).device
      → Moves (step history d e).device during end → Moves d (e ∷ during) end
  more d e during end kept event h k on x z is at uncut =
      let next : DeviceState (List Note) = (step history d e).device in
      let y : TbfAt = k.tbf in
      let s = tbf-step major d e x y kept event is k.there in
      let same : y.bucket.burst ≡ x.bucket.burst = k.same_burst ∙ sym (burst-there d x h is) in
      let own : bytes_spent s.notes * units_in_byte + level_at y.bucket next.clock ≡ level_at x.bucket d.clock
      + x.bucket.rate * (next.clock - d.clock) = s.paid.exact same (uncut-there major d e x is uncut.0) in
      let rest = on y z k.there at uncut.1 in
      let brought : x.bucket.rate * (next.clock - d.clock) ≡ rate * (next.clock - d.clock) = ap (λ n. n * (next.clock - d.clock)) (rate-there d x h is) in
      let split = mul-add rate (next.clock - d.clock) (end.clock - next.clock) in
      let whole : (next.clock - d.clock) + (end.clock - next.clock) ≡ end.clock - d.clock = omega (arith, s.later, rest.later) in
      let all = ap (λ n. rate * n) whole in
      let spent : bytes_spent (s.notes ++ rest.notes) ≡ bytes_spent s.notes + bytes_spent rest.notes = sum_by-append spent_by s.notes rest.notes in
      record {
        notes = s.notes ++ rest.notes;
        is = rest.is ∙ ap (λ ns. ns ++ rest.notes) s.is ∙ append_assoc x.noted s.notes rest.notes;
        level = let later = rest.level in omega (arith, own, later, brought, split, all, spent);
        later = omega (arith, s.later, rest.later);
      }

pub rate-is-spent : (settings : DeviceSettings) → IsInRange settings → RateIsSpent settings
rate-is-spent settings range before during major rate burst first last all_before all_during stays uncut is at =
    let m =
    counted (Stays major rate burst) (Moves major rate burst) (still major rate burst) (more major rate burst) settings before during range
    all_before all_during stays first last is at uncut in
    record { notes = m.notes; goes_on = m.is; spent = m.level }
