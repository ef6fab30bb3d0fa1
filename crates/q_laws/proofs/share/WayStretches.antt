-- Drrs beneath one another, over a stretch: what a class sends the classes of the drr that is its child send, but for a packet, so that
-- the parts on a way down multiply.
use Rattle.std.proofs.Common.{◌≡◌, ℕ, ◌+◌, ◌-◌, ◌*◌, ◌≤◌, List, [], ◌∷◌, ◌++◌, length, sym, ap, ◌∙◌, Some, arith}
use Rattle.std.specs.Prelude.{All}
use Rattle.std.proofs.Math.Nat.{add-mul, mul-add, mul_comm, mul_assoc, mul-le-mul_left}
use Rattle.std.proofs.lemmas.List.Sums.{sum_by-append}
use Rattle.std.proofs.lemmas.Option.{same_Some}
use Rattle.q_drr.specs.Schedule.{Class}
use Rattle.q_model.specs.declared.event.Event.{Event}
use Rattle.q_model.specs.Events.{IsEvent}
use Rattle.q_model.specs.Node.{Node}
use Rattle.q_model.specs.Settings.{DeviceSettings, IsInRange}
use Rattle.q_model.specs.Step.{DeviceState, step}
use Rattle.q_model.specs.Stretches.{sent_by, bytes_sent, length_held, qdisc, IsBackloggedClass, Throughout}
use Rattle.q_model.specs.Tally.{Note, history}
use Rattle.q_invariants.proofs.Along.{counted}
use Rattle.q_invariants.proofs.Replays.{IsKept}
use Rattle.q_device.specs.promises.Promise.{lacks_of_bytes}
use Rattle.q_device.specs.Sharing.{device_after}
use Rattle.q_device.proofs.ClassStretches.{at-start, at-end}
use Rattle.q_laws.specs.share.InTime.{Level, IsBeneath, IsWay, last_level, quanta_on, sums_on, lacks_on, sent_at, SharesMultiply}
use Rattle.q_laws.specs.share.Service.{given_so_far, class_sent, HasClasses, quanta_of, all_sent}
use Rattle.q_laws.proofs.share.LeastShare.{classes-get-their-parts}
use Rattle.q_laws.proofs.share.PassedStretches.{sum-both, drr-passes}
use Rattle.q_laws.proofs.share.ServiceStretches.{given-at}
use Rattle.q_laws.proofs.share.ShareInTime.{in-time-numbers, link-passes, held-in, class-quantum}

-- ---- one drr beneath a class of another

module _ (l k : Level) where
  abbrev Stays : DeviceState (List Note) → Type 0
  Stays d = IsBeneath l k d × HasClasses k.major k.classes d

  abbrev Moves : DeviceState (List Note) → List Event → DeviceState (List Note) → Type 0
  Moves d during end =
      (n m : Node (List Note)) → qdisc k.major d ≡ Some n → qdisc k.major end ≡ Some m
      → sent_at l d during + length_held m.own.held ≤ all_sent k.major k.classes d during + length_held n.own.held

  still : (d : DeviceState (List Note)) → IsKept d → Stays d → Moves d [] d
  still d kept h n m is at = omega (arith, ap (λ (x : Node (List Note)). length_held x.own.held) (same_Some n m (sym is ∙ at)))

  more : (d : DeviceState (List Note)) (e : Event) (during : List Event) (end : DeviceState (List Note)) → IsKept d → IsEvent e → Stays d → Stays (step history d e).device
      → Moves (step history d e).device during end → Moves d (e ∷ during) end
  more d e during end kept happens h j on n o is at =
      let next : DeviceState (List Note) = (step history d e).device in
      let m : Node (List Note) = j.0.class.child in
      let p = drr-passes k.major k.classes d e kept happens h.1 j.1 n m is j.0.child in
      let rest = on m o j.0.child at in
      let mine : h.0.class.child ≡ n = same_Some h.0.class.child n (sym h.0.child ∙ is) in
      let before : given_so_far l.major l.minor d ≡ bytes_sent n.memory = given-at l.major l.minor d h.0.class h.0.there ∙ ap (λ (x : Node (List Note)). bytes_sent x.memory) mine in
      let after : given_so_far l.major l.minor next ≡ bytes_sent m.memory = given-at l.major l.minor next j.0.class j.0.there in
      let sent : bytes_sent m.memory ≡ bytes_sent n.memory + bytes_sent p.notes = ap bytes_sent p.memory ∙ sum_by-append sent_by n.memory p.notes in
      let all = sum-both (λ (c : Class). given_so_far k.major c.name next - given_so_far k.major c.name d) (λ (c : Class). class_sent k.major c.name next during) k.classes in
      let passed = p.passed in
      omega (arith, rest, passed, before, after, sent, all)

-- ---- a way down

-- t bytes come to a level, s leave by its class, whose quantum is q of b; u of them come to the next level
level-numbers : (t s u q b A P X L m : ℕ) → t * q ≤ s * b + A → s ≤ u + m → u * P ≤ X + L → t * (q * P) ≤ b * X + ((A + m * b) * P + b * L)
level-numbers t s u q b A P X L m part passed rest =
    let sends : b * s ≤ b * (u + m) = mul-le-mul_left b passed in
    let parts : b * (u + m) ≡ b * u + b * m = mul-add b u m in
    let first : t * q ≤ (b * u + b * m) + A = omega (arith, part, sends, parts, mul_comm b s) in
    let whole : P * (t * q) ≤ P * ((b * u + b * m) + A) = mul-le-mul_left P first in
    let split : P * ((b * u + b * m) + A) ≡ P * (b * u + b * m) + P * A = mul-add P (b * u + b * m) A in
    let split_more : P * (b * u + b * m) ≡ P * (b * u) + P * (b * m) = mul-add P (b * u) (b * m) in
    let later : b * (u * P) ≤ b * (X + L) = mul-le-mul_left b rest in
    let later_split : b * (X + L) ≡ b * X + b * L = mul-add b X L in
    let turned : P * (b * u) ≡ b * (u * P) = mul_comm P (b * u) ∙ mul_assoc b u P in
    let goal_left : t * (q * P) ≡ P * (t * q) = sym (mul_assoc t q P) ∙ mul_comm (t * q) P in
    let goal_right : (A + m * b) * P ≡ A * P + (m * b) * P = add-mul A (m * b) P in
    let held : P * (b * m) ≡ (m * b) * P = mul_comm P (b * m) ∙ ap (λ n. n * P) (mul_comm b m) in
    omega (arith, whole, split, split_more, later, later_split, turned, goal_left, goal_right, held, mul_comm P A)

module _ (settings : DeviceSettings) (range : IsInRange settings) (before during : List Event) (all_before : All IsEvent before) (all_during : All IsEvent during) where
  abbrev start : DeviceState (List Note)
  start = device_after settings before

  -- what a class sends comes from the classes of the drr beneath it
  level-passes : (l k : Level) → Throughout (Stays l k) settings before during → sent_at l start during ≤ all_sent k.major k.classes start during + settings.mtu
  level-passes l k stays =
      let s = at-start (Stays l k) settings before during stays in
      let t = at-end (Stays l k) settings before during stays in
      let passed = counted (Stays l k) (Moves l k) (still l k) (more l k) settings before during range all_before all_during stays s.0.class.child t.0.class.child s.0.child t.0.child in
      omega (arith, passed, held-in settings range before all_before k.major s.0.class.child s.0.child)

  way-has : (l : Level) (levels : List Level) (d : DeviceState (List Note)) → IsWay l levels d → HasClasses l.major l.classes d × IsBackloggedClass l.major l.minor l.quantum d
  way-has l [] d h = h
  way-has l (k ∷ levels) d h = (h.0, h.1)

  part-of : (l : Level) → Throughout (HasClasses l.major l.classes) settings before during → Throughout (IsBackloggedClass l.major l.minor l.quantum) settings before during
      → all_sent l.major l.classes start during * l.quantum ≤ sent_at l start during * quanta_of l.classes + lacks_of_bytes (length l.classes) l.quantum (quanta_of l.classes) settings.mtu
  part-of l has stays = let part = classes-get-their-parts settings range before during l.major l.minor l.quantum l.classes all_before all_during has stays in omega (arith, part)

  pub way-shares : (l : Level) (levels : List Level) → Throughout (IsWay l levels) settings before during
      → all_sent l.major l.classes start during * quanta_on l levels ≤ sent_at (last_level l levels) start during * sums_on l levels + lacks_on settings.mtu l levels
  way-shares l [] way = part-of l (λ seen later e. (way seen later e).0) (λ seen later e. (way seen later e).1)
  way-shares l (k ∷ levels) way =
      let rest = way-shares k levels (λ seen later e. (way seen later e).3) in
      let part = part-of l (λ seen later e. (way seen later e).0) (λ seen later e. (way seen later e).1) in
      let passed = level-passes l k (λ seen later e. ((way seen later e).2, (way-has k levels (device_after settings (before ++ seen)) (way seen later e).3).0)) in
      let b : ℕ = quanta_of l.classes in
      let X : ℕ = sent_at (last_level k levels) start during * sums_on k levels in
      let numbers = level-numbers (all_sent l.major l.classes start during) (sent_at l start during) (all_sent k.major k.classes start during) l.quantum b
      (lacks_of_bytes (length l.classes) l.quantum b settings.mtu) (quanta_on k levels) X (lacks_on settings.mtu k levels) settings.mtu part passed rest in
      let turned : b * X ≡ sent_at (last_level k levels) start during * (b * sums_on k levels) =
      sym (mul_assoc b (sent_at (last_level k levels) start during) (sums_on k levels)) ∙ ap (λ n. n * sums_on k levels) (mul_comm b (sent_at (last_level k levels) start during))
      ∙ mul_assoc (sent_at (last_level k levels) start during) b (sums_on k levels) in
      omega (arith, numbers, turned)

  some-quanta : (l : Level) (levels : List Level) → IsWay l levels start → 1 ≤ quanta_on l levels
  some-quanta l [] way = class-quantum settings range before all_before l.major l.minor l.quantum way.1
  some-quanta l (k ∷ levels) way =
      let first = class-quantum settings range before all_before l.major l.minor l.quantum way.1 in
      let rest = some-quanta k levels way.3 in
      let product : l.quantum * 1 ≤ l.quantum * quanta_on k levels = mul-le-mul_left l.quantum rest in
      omega (arith, first, product)

pub shares-multiply : (settings : DeviceSettings) → IsInRange settings → SharesMultiply settings
shares-multiply settings range before during link rate burst late l levels all_before all_during room over way drained polled_before polled_after =
    let start : DeviceState (List Note) = device_after settings before in
    let has : Throughout (HasClasses l.major l.classes) settings before during =
    λ seen later e. (way-has settings range before during all_before all_during l levels (device_after settings (before ++ seen)) (way seen later e)).0 in
    let passed = link-passes settings range before during link rate burst late l.major l.classes all_before all_during room over has drained polled_before polled_after in
    let shares = way-shares settings range before during all_before all_during l levels way in
    in-time-numbers (rate * ((device_after settings (before ++ during)).clock - start.clock)) passed.0 (all_sent l.major l.classes start during)
    (sent_at (last_level l levels) start during) (quanta_on l levels) (sums_on l levels)
    settings.mtu (lacks_on settings.mtu l levels) passed.1 passed.2 shares
    (some-quanta settings range before during all_before all_during l levels (at-start (IsWay l levels) settings before during way))
