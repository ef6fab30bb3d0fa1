-- A tbf at the root that is polled in time, from any state on: when it has paid the first so many bytes.
use Rattle.std.proofs.Common.{◌≡◌, ℕ, ◌+◌, ◌-◌, ◌*◌, ◌<◌, ◌≤◌, ◌^◌, inl, inr, List, [], ◌∷◌, ◌++◌, refl, sym, ap, subst, ◌∙◌, Option, Some, None, arith}
use Rattle.std.specs.Prelude.{Bool, true, false, nat_lt, if◌then◌else◌, IfSome, option_and_then}
use Rattle.std.specs.Int.{div_ceil}
use Rattle.std.specs.Option.{option_map_or}
use Rattle.std.proofs.Math.Nat.{mul-add, mul_comm, mul-le-mul_left}
use Rattle.std.proofs.lemmas.Bool.{cases_lt, ltb-true}
use Rattle.std.proofs.lemmas.Grind.{div_ceil_times}
use Rattle.std.proofs.lemmas.List.Sums.{sum_by-append}
use Rattle.std.proofs.lemmas.Option.{same_Some}
use Rattle.q_bucket.specs.Level.{TokenBucket, units_in_byte, level_at}
use Rattle.q_model.specs.declared.event.Event.{Event}
use Rattle.q_model.specs.Beneath.{beneath_own}
use Rattle.q_model.specs.Events.{IsEvent}
use Rattle.q_model.specs.Lawful.{IsLawfulDiscipline}
use Rattle.q_model.specs.Node.{Discipline, each}
use Rattle.q_model.specs.Settings.{DeviceSettings, IsInRange}
use Rattle.q_model.specs.Step.{DeviceState, step}
use Rattle.q_model.specs.Stretches.{spent_by, bytes_spent, TbfAt, tbf_in, Throughout}
use Rattle.q_model.specs.Tally.{Note, history}
use Rattle.q_model.specs.TreeState.{given}
use Rattle.q_invariants.proofs.Along.{counted}
use Rattle.q_invariants.proofs.bucket.BucketMoves.{tbf-node, tbf-lawful, tbf-step}
use Rattle.q_invariants.proofs.bucket.BucketSteps.{IsUncutAt}
use Rattle.q_invariants.proofs.Replays.{IsKept, step-kept, replay-kept}
use Rattle.q_invariants.proofs.tree.StepNodes.{clock-rises}
use Rattle.q_invariants.proofs.tree.Within.{found, lawful-of}
use Rattle.q_tree.specs.answers.ReadyAt.{ready_at}
use Rattle.q_device.specs.Sharing.{device_after}
use Rattle.q_device.proofs.ClassStretches.{at-start, mtu-stays}
use Rattle.q_laws.specs.rate.Delay.{paid_so_far, next_below, IsLeft, latest, level_counted, PaysInTime, BytesArePaidInTime}
use Rattle.q_laws.specs.rate.Rate.{IsBackloggedLink, due_in, IsDrainedFrom, HasRoom}
use Rattle.q_laws.proofs.rate.LevelsLeft.{level-left}
use Rattle.q_laws.proofs.rate.LinkStretches.{rate-splits, due-begins, polled-next, Lasts, silent-before, lasts-on, paid-uncut}

-- a time in which a rate brings less than is to be paid ends before the time that is told
pub before-latest : (begin rate level bytes u : ℕ) → 1 ≤ rate → begin ≤ u → level + rate * (u - begin) < bytes * units_in_byte → u < latest begin rate level bytes
before-latest begin rate level bytes u some from less = elim (cases_lt (u - begin) (div_ceil (bytes * units_in_byte - level) rate)) [
  | inl before ↦ omega (arith, before, from)
  | inr past ↦
      let enough = (div_ceil_times (bytes * units_in_byte - level) rate (omega (arith, some))).0 in
      let most : rate * div_ceil (bytes * units_in_byte - level) rate ≤ rate * (u - begin) = mul-le-mul_left rate past in
      absurd (omega (arith, enough, most, less, mul_comm rate (div_ceil (bytes * units_in_byte - level) rate)))
]

-- the rate of a tbf is one bit a second at least
pub rate-some : (major : ℕ) (d : DeviceState (List Note)) (x : TbfAt) → IsKept d → tbf_in major d ≡ Some x → 1 ≤ x.bucket.rate
rate-some major d x kept is =
    let t = tbf-node major d x is in
    let f = found major d t.node t.there in
    let law = (lawful-of d.tree.device.mtu d.clock t.node d.tree.root kept.lawful f.there).0.discipline in
    (subst (λ (k : Discipline). IsLawfulDiscipline d.tree.device.mtu d.clock (each beneath_own t.node.below) k) t.discipline law).level.rate_from

-- what is not cut at a time was not cut before it
uncut-before : (b : TokenBucket) (now t : ℕ) → b.last ≤ now → now ≤ t → IsUncutAt t b → IsUncutAt now b
uncut-before b now t old later uncut = let split = rate-splits b.rate b.last now t old later in omega (arith, split, uncut)

module _ (link rate burst mtu late bytes level : ℕ) (room : HasRoom mtu late rate burst) (start : DeviceState (List Note)) (low : level ≤ burst * units_in_byte - rate * late) where
  abbrev Stays : DeviceState (List Note) → Type 0
  Stays d = (IsBackloggedLink link rate burst d × (d.tree.device.mtu ≡ mtu)) × IsLeft link bytes start d

  abbrev paid : ℕ
  paid = paid_so_far link start

  abbrev soonest : ℕ
  soonest = latest start.clock rate level bytes

  -- the level that counts and what the rate brought are paid or there
  record Reached (d : DeviceState (List Note)) (x : TbfAt) : Type 0 where
    brought : level + rate * (d.clock - start.clock) + paid * units_in_byte ≤ bytes_spent x.noted * units_in_byte + level_at x.bucket d.clock
    later : start.clock ≤ d.clock
    spent : paid ≤ bytes_spent x.noted

  module _ (d : DeviceState (List Note)) (kept : IsKept d) (h : Stays d) (x : TbfAt) (is : tbf_in link d ≡ Some x) where
    mine : h.0.0.tbf.tbf ≡ x
    mine = same_Some h.0.0.tbf.tbf x (sym h.0.0.tbf.there ∙ is)

    same-rate : x.bucket.rate ≡ rate
    same-rate = ap (λ (z : TbfAt). z.bucket.rate) (sym mine) ∙ h.0.0.tbf.same_rate

    same-burst : x.bucket.burst ≡ burst
    same-burst = ap (λ (z : TbfAt). z.bucket.burst) (sym mine) ∙ h.0.0.tbf.same_burst

    module _ (reached : Reached d x) where
      -- a poll that would give nothing is before the last time
      silent-soon : (u : ℕ) → d.clock ≤ u → u ≤ 2 ^ 62 → given u d.tree ≡ None → u < soonest
      silent-soon u order low_u silent =
          let next = polled-next link rate burst d h.0.0 u kept order low_u silent in
          let short : level_at x.bucket u < next_below u d * units_in_byte = subst (λ (z : TbfAt). level_at z.bucket u < next_below u d * units_in_byte) mine next.0 in
          let left : paid_so_far link d + next_below u d ≤ paid + bytes = h.1 u order low_u in
          let paid_is : paid_so_far link d ≡ bytes_spent x.noted = ap (λ (o : Option TbfAt). option_map_or (λ (z : TbfAt). bytes_spent z.noted) o 0) is in
          let old : x.bucket.last ≤ d.clock = tbf-lawful link d x kept is in
          let split = rate-splits x.bucket.rate x.bucket.last d.clock u old order in
          let whole = rate-splits rate start.clock d.clock u reached.later order in
          let brings : x.bucket.rate * (u - d.clock) ≡ rate * (u - d.clock) = ap (λ n. n * (u - d.clock)) same-rate in
          let full : x.bucket.burst * units_in_byte ≡ burst * units_in_byte = ap (λ n. n * units_in_byte) same-burst in
          let brought = reached.brought in
          let some : 1 ≤ rate = subst (λ n. 1 ≤ n) same-rate (rate-some link d x kept is) in
          let least : next_below u d ≤ mtu = subst (λ n. next_below u d ≤ n) h.0.1 next.1 in
          let uncut : x.bucket.level + x.bucket.rate * (u - x.bucket.last) < next_below u d * units_in_byte = omega (arith, short, least, room, full) in
          before-latest start.clock rate level bytes u some (omega (arith, reached.later, order)) (omega (arith, uncut, left, paid_is, split, whole, brings, brought))

  -- up to so late after the time that is due, if there is one, is soon enough
  abbrev Ends : Option ℕ → ℕ → Type 0
  Ends due now = (t : ℕ) → now ≤ t → t ≤ 2 ^ 62 → IfSome due (λ at. t ≤ at + late) → t ≤ soonest + late

  ends-on : (d : DeviceState (List Note)) (kept : IsKept d) (h : Stays d) (x : TbfAt) (is : tbf_in link d ≡ Some x) → Reached d x
      → d.clock ≤ soonest + late → (due : Option ℕ) → Ends due d.clock → Ends (due_in due d) d.clock
  ends-on d kept h x is reached here due ends t from low_t until = elim (cases_lt d.clock t) [
    | inl less ↦ by (ready_at d.clock d.tree.root) refl less until
    | inr past ↦ omega (arith, here, past)
  ]
    where
      -- a nanosecond after a poll that would give nothing
      next-soon : (u : ℕ) → d.clock ≤ u → u ≤ 2 ^ 62 → IfSome (ready_at d.clock d.tree.root) (λ at. u < at) → u < soonest
      next-soon u order low_u early = silent-soon d kept h x is reached u order low_u (silent-before link rate burst mtu late room d kept h.0 u order low_u early)

      ahead : (at : ℕ) → ready_at d.clock d.tree.root ≡ Some at → d.clock < t → d.clock < at → t ≤ at + late → t ≤ soonest + late
      ahead at e less further until = elim (cases_lt (t - 1) at) [
        | inl soon ↦
            let low_before : t - 1 ≤ 2 ^ 62 = omega (arith, low_t) in
            let order : d.clock ≤ t - 1 = omega (arith, less) in
            let early : IfSome (ready_at d.clock d.tree.root) (λ n. t - 1 < n) = subst (λ (o : Option ℕ). IfSome o (λ n. t - 1 < n)) (sym e) soon in
            let soon_enough = next-soon (t - 1) order low_before early in
            omega (arith, soon_enough, less)
        | inr past ↦
            let low_before : at - 1 ≤ 2 ^ 62 = omega (arith, low_t, past) in
            let order : d.clock ≤ at - 1 = omega (arith, further) in
            let early : IfSome (ready_at d.clock d.tree.root) (λ n. at - 1 < n) =
            subst (λ (o : Option ℕ). IfSome o (λ n. at - 1 < n)) (sym e) (let one : at - 1 < at = omega (arith, further) in one) in
            let soon_enough = next-soon (at - 1) order low_before early in
            omega (arith, soon_enough, until, further)
      ]

      by : (o : Option ℕ) → ready_at d.clock d.tree.root ≡ o → d.clock < t → IfSome (option_and_then (λ at. if nat_lt d.clock at then Some at else due) o) (λ at. t ≤ at + late) → t ≤ soonest + late
      by None e less until =
          let low_before : t - 1 ≤ 2 ^ 62 = omega (arith, low_t) in
          let order : d.clock ≤ t - 1 = omega (arith, less) in
          let early : IfSome (ready_at d.clock d.tree.root) (λ n. t - 1 < n) = subst (λ (o : Option ℕ). IfSome o (λ n. t - 1 < n)) (sym e) tt in
          let soon_enough = next-soon (t - 1) order low_before early in
          omega (arith, soon_enough, less)
      by (Some at) e less until = said (nat_lt d.clock at) refl until
        where
          said : (b : Bool) → nat_lt d.clock at ≡ b → IfSome (if b then Some at else due) (λ n. t ≤ n + late) → t ≤ soonest + late
          said true e2 until = ahead at e less (ltb-true d.clock at e2) until
          said false e2 until = ends t from low_t until

  abbrev since : ℕ
  since = start.clock + late + 1

  abbrev Moves : DeviceState (List Note) → List Event → DeviceState (List Note) → Type 0
  Moves d during end =
      (x : TbfAt) (due : Option ℕ) → tbf_in link d ≡ Some x → Reached d x → Lasts link rate burst mtu late room since due d.clock x.bucket → Ends due d.clock
      → (f : Event) → IsEvent f → IsDrainedFrom late due d (during ++ f ∷ []) → PaysInTime soonest late end (step history end f).device

  still : (d : DeviceState (List Note)) → IsKept d → Stays d → Moves d [] d
  still d kept h x due is reached lasts ends f happens drained = record {
    in_time = ends (step history d f).device.clock (clock-rises d f) (step-kept d f kept happens).moment drained.0;
    polled_out = λ silent. silent-soon d kept h x is reached d.clock (omega arith) kept.moment silent;
  }

  reached-on : (d : DeviceState (List Note)) (e : Event) (x y : TbfAt) (kept : IsKept d) (happens : IsEvent e) (h : Stays d) (k : Stays (step history d e).device)
      (is : tbf_in link d ≡ Some x) (at : tbf_in link (step history d e).device ≡ Some y) → Reached d x
      → (since ≤ (step history d e).device.clock → IsUncutAt (step history d e).device.clock x.bucket) → Reached (step history d e).device y
  reached-on d e x y kept happens h k is at reached here =
      let next : DeviceState (List Note) = (step history d e).device in
      let later : d.clock ≤ next.clock = clock-rises d e in
      let s = tbf-step link d e x y kept happens is at in
      let same : y.bucket.burst ≡ x.bucket.burst = same-burst next (step-kept d e kept happens) k y at ∙ sym (same-burst d kept h x is) in
      let left : level_at x.bucket next.clock ≤ bytes_spent s.notes * units_in_byte + level_at y.bucket next.clock = level-left link d e x y kept happens is at s.notes s.is same in
      let spent : bytes_spent y.noted ≡ bytes_spent x.noted + bytes_spent s.notes = ap bytes_spent s.is ∙ sum_by-append spent_by x.noted s.notes in
      let old : x.bucket.last ≤ d.clock = tbf-lawful link d x kept is in
      let split = rate-splits x.bucket.rate x.bucket.last d.clock next.clock old later in
      let whole = rate-splits rate start.clock d.clock next.clock reached.later later in
      let brings : x.bucket.rate * (next.clock - d.clock) ≡ rate * (next.clock - d.clock) = ap (λ n. n * (next.clock - d.clock)) (same-rate d kept h x is) in
      let full : x.bucket.burst * units_in_byte ≡ burst * units_in_byte = ap (λ n. n * units_in_byte) (same-burst d kept h x is) in
      let brought = reached.brought in
      let before = reached.spent in
      record {
        brought = elim (cases_lt next.clock since) [
          | inl early ↦
              let most : rate * (next.clock - start.clock) ≤ rate * late = mul-le-mul_left rate (omega (arith, early)) in
              let parts : rate * (late + 1) ≡ rate * late + rate * 1 = mul-add rate late 1 in
              omega (arith, left, spent, split, whole, brings, full, brought, before, most, parts, low, room)
          | inr after ↦
              let uncut = here after in
              omega (arith, left, spent, split, whole, brings, brought, uncut)
        ];
        later = omega (arith, reached.later, later);
        spent = omega (arith, before, spent);
      }

  more : (d : DeviceState (List Note)) (e : Event) (during : List Event) (end : DeviceState (List Note)) → IsKept d → IsEvent e → Stays d → Stays (step history d e).device
      → Moves (step history d e).device during end → Moves d (e ∷ during) end
  more d e during end kept event h k on x due is reached lasts ends f happens drained =
      let next : DeviceState (List Note) = (step history d e).device in
      let kept_next : IsKept next = step-kept d e kept event in
      let later : d.clock ≤ next.clock = clock-rises d e in
      let here : since ≤ next.clock → IsUncutAt next.clock x.bucket = λ after. lasts next.clock later kept_next.moment after drained.0 in
      let y : TbfAt = k.0.0.tbf.tbf in
      let at : tbf_in link next ≡ Some y = k.0.0.tbf.there in
      let s = tbf-step link d e x y kept event is at in
      let rate_on : y.bucket.rate ≡ x.bucket.rate = k.0.0.tbf.same_rate ∙ sym (same-rate d kept h x is) in
      let burst_on : y.bucket.burst ≡ x.bucket.burst = k.0.0.tbf.same_burst ∙ sym (same-burst d kept h x is) in
      let old : x.bucket.last ≤ d.clock = tbf-lawful link d x kept is in
      let young : y.bucket.last ≤ next.clock = tbf-lawful link next y kept_next at in
      let kept_on : Lasts link rate burst mtu late room since due next.clock y.bucket =
      λ t from low_t after until.
      let uncut = lasts t (omega (arith, later, from)) low_t after until in
      paid-uncut link rate burst mtu late room x.bucket y.bucket d.clock next.clock (bytes_spent s.notes) t s.paid old young later from rate_on burst_on
      (uncut-before x.bucket next.clock t (omega (arith, old, later)) from uncut) uncut in
      let reached_next : Reached next y = reached-on d e x y kept event h k is at reached here in
      let soon : next.clock ≤ soonest + late = ends next.clock later kept_next.moment drained.0 in
      on y (due_in due next) at reached_next
      (lasts-on link rate burst mtu late room next kept_next k.0 since due (λ after. s.paid.uncut (here after)) kept_on)
      (ends-on next kept_next k y at reached_next soon due (λ t from low_t until. ends t (omega (arith, later, from)) low_t until))
      f happens drained.1

pub bytes-are-paid : (settings : DeviceSettings) → IsInRange settings → BytesArePaidInTime settings
bytes-are-paid settings range before during e major rate burst late bytes first all_before all_during happens room stays left drained is =
    let start : DeviceState (List Note) = device_after settings before in
    let mtu : ℕ = settings.mtu in
    let level : ℕ = level_counted late rate burst (level_at first.bucket start.clock) in
    let low : level ≤ burst * units_in_byte - rate * late = omega arith in
    let along : Throughout (Stays major rate burst mtu late bytes level room start low) settings before during =
    λ seen later es. ((stays seen later es, mtu-stays settings (before ++ seen)), left seen later es) in
    let s = at-start (Stays major rate burst mtu late bytes level room start low) settings before during along in
    let kept : IsKept start = replay-kept settings before range all_before in
    let none : rate * (start.clock - start.clock) ≡ 0 = (let none : start.clock - start.clock ≡ 0 = omega arith in ap (λ n. rate * n) none) ∙ omega arith in
    let paid_is : paid_so_far major start ≡ bytes_spent first.noted = ap (λ (o : Option TbfAt). option_map_or (λ (z : TbfAt). bytes_spent z.noted) o 0) is in
    let reached : Reached major rate burst mtu late bytes level room start low start first = record {
      brought = omega (arith, none, paid_is);
      later = omega arith;
      spent = omega (arith, paid_is);
    } in
    let mine : s.0.0.tbf.tbf ≡ first = same_Some s.0.0.tbf.tbf first (sym s.0.0.tbf.there ∙ is) in
    let lasts : Lasts major rate burst mtu late room (since major rate burst mtu late bytes level room start low) (ready_at start.clock start.tree.root) start.clock first.bucket =
    subst (λ (x : TbfAt). Lasts major rate burst mtu late room (since major rate burst mtu late bytes level room start low) (ready_at start.clock start.tree.root) start.clock x.bucket) mine
    (λ t from low_t after until.
    lasts-on major rate burst mtu late room start kept s.0 (since major rate burst mtu late bytes level room start low) (Some start.clock) (λ past. absurd (omega (arith, past)))
    (λ u order low_u past soon. absurd (omega (arith, past, soon))) t from low_t after (due-begins late start t until)) in
    let ends : Ends major rate burst mtu late bytes level room start low (ready_at start.clock start.tree.root) start.clock =
    λ t from low_t until.
    ends-on major rate burst mtu late bytes level room start low start kept s first is reached (omega arith) (Some start.clock)
    (λ u order low_u soon. omega (arith, soon)) t from low_t (due-begins late start t until) in
    counted (Stays major rate burst mtu late bytes level room start low) (Moves major rate burst mtu late bytes level room start low) (still major rate burst mtu late bytes level room start low)
    (more major rate burst mtu late bytes level room start low) settings before during range all_before all_during along first
    (ready_at start.clock start.tree.root) is reached lasts ends e happens drained
