-- What another class sends against one of which only some bytes count, and against one that is calm: the numbers for each of them.
use Rattle.std.proofs.Common.{◌≡◌, ℕ, ◌+◌, ◌-◌, ◌*◌, ◌<◌, ◌≤◌, false, eqb, List, ◌++◌, sym, ap, ◌∙◌, inl, inr, Some, arith}
use Rattle.std.specs.Prelude.{All}
use Rattle.std.proofs.Math.Nat.{add-mul, mul-add, mul_comm, mul_assoc, mul-le-mul_left}
use Rattle.std.proofs.lemmas.Bool.{cases_Bool, eqb-false}
use Rattle.q_drr.specs.Schedule.{Class, Schedule, deficit_of}
use Rattle.q_drr.specs.Stretch.{stands_first}
use Rattle.q_model.specs.declared.event.Event.{Event}
use Rattle.q_model.specs.Events.{IsEvent}
use Rattle.q_model.specs.Settings.{DeviceSettings, IsInRange}
use Rattle.q_model.specs.Stretches.{grants_to, ClassAt, class_in, IsBackloggedClass, Throughout}
use Rattle.q_invariants.proofs.class.ClassMoves.{class-node, same-drr}
use Rattle.q_device.specs.Sharing.{device_after}
use Rattle.q_device.proofs.ClassStretches.{at-start, deficits-bounded}
use Rattle.q_laws.specs.share.Calm.{IsCalm}
use Rattle.q_laws.specs.share.Service.{class_sent, IsClass, SendsNoMore}
use Rattle.q_laws.proofs.share.ServiceStretches.{class-against-any}

-- Class i of quantum a sent `own` bytes that count and w that do not, while it was granted g times, from a deficit di to ei. Class j of quantum b
-- sent sj, x of its deficit among them.
against-numbers : (own w sj g a b x di ei most : ℕ) → (own + w) + ei ≡ g * a + di → sj ≤ g * b + x → x * a + (ei + w) * b ≤ di * b + most → sj * a ≤ own * b + most
against-numbers own w sj g a b x di ei most share sends room =
    let low : a * sj ≤ a * (g * b + x) = mul-le-mul_left a sends in
    let low_is : a * (g * b + x) ≡ a * (g * b) + a * x = mul-add a (g * b) x in
    let grants : a * (g * b) ≡ (g * a) * b = mul_comm a (g * b) ∙ mul_assoc g b a ∙ ap (λ n. g * n) (mul_comm b a) ∙ sym (mul_assoc g a b) in
    let sum : (own + w) + ei ≡ own + (ei + w) = omega arith in
    let left : ((own + w) + ei) * b ≡ own * b + (ei + w) * b = ap (λ n. n * b) sum ∙ add-mul own (ei + w) b in
    let right : (g * a + di) * b ≡ (g * a) * b + di * b = add-mul (g * a) di b in
    let both : ((own + w) + ei) * b ≡ (g * a + di) * b = ap (λ n. n * b) share in
    omega (arith, low, low_is, grants, left, right, both, room, mul_comm a sj, mul_comm a x)

-- p is a longest packet less a byte
two-products : (a b x di e p : ℕ) → x ≤ b + p → e ≤ a + p → x * a + e * b ≤ di * b + (2 * (a * b) + p * (a + b))
two-products a b x di e p first last =
    let high : a * x ≤ a * (b + p) = mul-le-mul_left a first in
    let high_is : a * (b + p) ≡ a * b + a * p = mul-add a b p in
    let end : b * e ≤ b * (a + p) = mul-le-mul_left b last in
    let end_is : b * (a + p) ≡ b * a + b * p = mul-add b a p in
    let longest : p * (a + b) ≡ p * a + p * b = mul-add p a b in
    omega (arith, high, high_is, end, end_is, longest, mul_comm a x, mul_comm b e, mul_comm b a, mul_comm a p, mul_comm b p)

-- where class j is not before it
behind-it : (a b x di e p : ℕ) → x ≤ p → e ≤ a + p → x * a + e * b ≤ di * b + (1 * (a * b) + p * (a + b))
behind-it a b x di e p first last =
    let high : a * x ≤ a * p = mul-le-mul_left a first in
    let end : b * e ≤ b * (a + p) = mul-le-mul_left b last in
    let end_is : b * (a + p) ≡ b * a + b * p = mul-add b a p in
    let longest : p * (a + b) ≡ p * a + p * b = mul-add p a b in
    omega (arith, high, end, end_is, longest, mul_comm a x, mul_comm b e, mul_comm b a, mul_comm a p, mul_comm b p)

-- where it has a deficit of a quantum
before-it : (a b x di e p : ℕ) → x ≤ b + p → e ≤ a + p → a ≤ di → x * a + e * b ≤ di * b + (1 * (a * b) + p * (a + b))
before-it a b x di e p first last calm =
    let two = two-products a b x 0 e p first last in
    let least : b * a ≤ b * di = mul-le-mul_left b calm in
    omega (arith, two, least, mul_comm b a, mul_comm b di)

module _ (settings : DeviceSettings) (range : IsInRange settings) (before during : List Event) (all_before : All IsEvent before) (all_during : All IsEvent during) (major i quantum : ℕ)
    (stays : Throughout (IsBackloggedClass major i quantum) settings before during) (first last : ClassAt)
    (is : class_in major i (device_after settings before) ≡ Some first) (at : class_in major i (device_after settings (before ++ during)) ≡ Some last)
    (own w : ℕ) (sent : class_sent major i (device_after settings before) during ≡ own + w) (low : deficit_of i last.schedule.active + w < quantum + settings.mtu)
    (c : Class) (apart : eqb i c.name ≡ false) (there : Throughout (IsClass major c.name c.quantum) settings before during) where
  law : SendsNoMore i c.name quantum c.quantum settings.mtu (class_sent major i (device_after settings before) during) (class_sent major c.name (device_after settings before) during) first last
  law = class-against-any settings range before during major i c.name quantum c.quantum first last (eqb-false i c.name apart) all_before all_during stays there is at

  -- the deficit of the other at first
  begins : deficit_of c.name first.schedule.active < c.quantum + settings.mtu
  begins =
      let o = at-start (IsClass major c.name c.quantum) settings before during there in
      let same : o.class.schedule ≡ first.schedule =
      same-drr major i c.name (device_after settings before) first o.class (class-node major i (device_after settings before) first is)
      (class-node major c.name (device_after settings before) o.class o.there) in
      let bound = deficits-bounded settings range before major c.name o.class all_before o.there in
      omega (arith, bound, o.same_quantum, ap (λ (u : Schedule). deficit_of c.name u.active) same)

  share : (own + w) + deficit_of i last.schedule.active ≡ grants_to i law.notes * quantum + deficit_of i first.schedule.active
  share = let share = law.share in omega (arith, share, sent)

  pub two : class_sent major c.name (device_after settings before) during * quantum ≤ own * c.quantum + 2 * (quantum * c.quantum) + (settings.mtu - 1) * (quantum + c.quantum)
  two =
      let di : ℕ = deficit_of i first.schedule.active in
      let ei : ℕ = deficit_of i last.schedule.active in
      let x : ℕ = deficit_of c.name first.schedule.active in
      let room = two-products quantum c.quantum x di (ei + w) (settings.mtu - 1) (omega (arith, begins)) (omega (arith, low)) in
      let all = against-numbers own w (class_sent major c.name (device_after settings before) during) (grants_to i law.notes) quantum c.quantum x di ei
      (2 * (quantum * c.quantum) + (settings.mtu - 1) * (quantum + c.quantum)) share law.no_more room in
      omega (arith, all)

  pub one : IsCalm i quantum first.schedule.active
      → class_sent major c.name (device_after settings before) during * quantum ≤ own * c.quantum + 1 * (quantum * c.quantum) + (settings.mtu - 1) * (quantum + c.quantum)
  one calm =
      let di : ℕ = deficit_of i first.schedule.active in
      let ei : ℕ = deficit_of i last.schedule.active in
      let d : ℕ = deficit_of c.name first.schedule.active in
      let sj : ℕ = class_sent major c.name (device_after settings before) during in
      let most : ℕ = 1 * (quantum * c.quantum) + (settings.mtu - 1) * (quantum + c.quantum) in
      elim (cases_Bool (stands_first c.name i first.schedule.active)) [
        | inl ahead ↦
            let room = before-it quantum c.quantum d di (ei + w) (settings.mtu - 1) (omega (arith, begins)) (omega (arith, low)) (calm c.name (λ same. eqb-false i c.name apart (sym same)) ahead) in
            let all = against-numbers own w sj (grants_to i law.notes) quantum c.quantum d di ei most share law.no_more room in
            omega (arith, all)
        | inr behind ↦
            let room = behind-it quantum c.quantum (d - c.quantum) di (ei + w) (settings.mtu - 1) (omega (arith, begins)) (omega (arith, low)) in
            let all = against-numbers own w sj (grants_to i law.notes) quantum c.quantum (d - c.quantum) di ei most share (law.behind behind) room in
            omega (arith, all)
      ]
