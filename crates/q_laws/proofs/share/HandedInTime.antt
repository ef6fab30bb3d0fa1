-- What a class of a drr below a tbf at the root hands over and what leaves the device of it, in time.
use Rattle.std.proofs.Common.{◌≡◌, ℕ, ◌+◌, ◌-◌, ◌*◌, ◌<◌, ◌≤◌, true, List, ◌∷◌, [], ◌++◌, length, refl, sym, ap, subst, ◌∙◌, Option, Some, None, arith}
use Rattle.std.specs.Prelude.{is_some, IsSomeAnd, slice_get}
use Rattle.std.specs.Option.{option_map_or}
use Rattle.std.proofs.Math.Nat.{mul-add, add-mul, mul_comm, mul_assoc, mul-le-mul_left}
use Rattle.std.proofs.lemmas.Bool.{false≢true}
use Rattle.q_packet.specs.Descriptor.{Descriptor}
use Rattle.q_bucket.specs.Level.{units_in_byte}
use Rattle.q_model.specs.Ask.{holding, ask_discipline, ask_own, ask}
use Rattle.q_model.specs.Node.{Node, children, each, shape}
use Rattle.q_model.specs.Settings.{DeviceSettings, IsInRange}
use Rattle.q_model.specs.Step.{DeviceState}
use Rattle.q_model.specs.Stretches.{length_held, qdisc, IsBackloggedClass}
use Rattle.q_model.specs.Tally.{Note}
use Rattle.q_device.specs.promises.Promise.{lacks_of_bytes}
use Rattle.q_device.specs.Sharing.{device_after}
use Rattle.q_device.proofs.ClassStretches.{at-start, at-end}
use Rattle.q_laws.specs.rate.Delay.{next_below}
use Rattle.q_laws.specs.share.Handed.{IsHolding, ClassesHandInTime, held_by, still_held, class_left, ClassesLeaveInTime}
use Rattle.q_laws.specs.share.Service.{quanta_of, class_sent, all_sent}
use Rattle.q_laws.proofs.share.LeastShare.{classes-get-their-parts, all-there, its-part, own-part}
use Rattle.q_laws.proofs.share.OwnParts.{two}
use Rattle.q_laws.proofs.share.ShareInTime.{class-quantum, link-between}
use Rattle.q_laws.proofs.share.StillHeld.{still-held-low, still-within}

-- a node that holds a packet shows it
held-shown : (t : ℕ) (n : Node (List Note)) (p : Descriptor) → n.own.held ≡ Some p → length_held (ask t (shape n)).shown ≡ length_held n.own.held
held-shown t n p e =
    ap (λ (o : Option Descriptor). length_held
    (option_map_or (holding n.own (each (ask_own t) (shape n).below)) o
    (ask_discipline t n.own (each (ask_own t) (shape n).below) n.own.discipline)).shown) e
    ∙ sym (ap length_held e)

-- a drr that holds one is next below the root where it is the only child
holding-next : (t major : ℕ) (d : DeviceState (List Note)) (m : Node (List Note)) → children d.tree.root ≡ m ∷ [] → qdisc major d ≡ Some m → IsHolding major d → next_below t d ≡ length_held m.own.held
holding-next t major d m only is holds =
    ap (λ (ns : List (Node (List Note))). option_map_or (λ (child : Node (List Note)). length_held (ask t (shape child)).shown) (slice_get ns 0) 0) only
    ∙ by m.own.held refl (subst (λ (o : Option (Node (List Note))). IsSomeAnd o (λ (n : Node (List Note)). is_some n.own.held ≡ true)) is holds)
  where
    by : (o : Option Descriptor) → m.own.held ≡ o → is_some m.own.held ≡ true → length_held (ask t (shape m)).shown ≡ length_held m.own.held
    by (Some p) e there = held-shown t m p e
    by None e there = absurd (false≢true (sym (ap (λ (o : Option Descriptor). is_some o) e) ∙ there))

-- The rate brings r while t bytes and x more pay for it; of the t bytes the class has its part c of b, but for A, in products with its quantum q.
paid-numbers : (r t x c q b A : ℕ) → r < (t + x) * units_in_byte → t * q ≤ c * b + A → 1 ≤ q → r * q < (c * b + (x * q + A)) * units_in_byte
paid-numbers r t x c q b A less part one =
    let whole : q * (r + 1) ≤ q * ((t + x) * units_in_byte) = mul-le-mul_left q (omega (arith, less)) in
    let left : q * (r + 1) ≡ q * r + q * 1 = mul-add q r 1 in
    let right : q * ((t + x) * units_in_byte) ≡ (q * (t + x)) * units_in_byte = sym (mul_assoc q (t + x) units_in_byte) in
    let parts : q * (t + x) ≡ q * t + q * x = mul-add q t x in
    omega (arith, whole, left, right, parts, part, one, mul_comm q r, mul_comm q t, mul_comm q x)

pub hand-in-time : (settings : DeviceSettings) → IsInRange settings → ClassesHandInTime settings
hand-in-time settings range before during link rate burst late major i quantum classes all_before all_during room over same stays drained polled_before polled_after holds =
    let start : DeviceState (List Note) = device_after settings before in
    let end : DeviceState (List Note) = device_after settings (before ++ during) in
    let b = link-between settings range before during link rate burst late major classes all_before all_during room over same drained polled_before polled_after in
    let part = classes-get-their-parts settings range before during major i quantum classes all_before all_during same stays in
    let one : 1 ≤ quantum = class-quantum settings range before all_before major i quantum (at-start (IsBackloggedClass major i quantum) settings before during stays) in
    let next : next_below end.clock end ≡ length_held b.m.own.held = holding-next end.clock major end b.m b.child b.at holds in
    let brings = b.brings in
    let short = b.short in
    let passed = b.passed in
    let held = b.held in
    paid-numbers (rate * (end.clock - start.clock)) (all_sent major classes start during) settings.mtu (class_sent major i start during) quantum (quanta_of classes)
    (lacks_of_bytes (length classes) quantum (quanta_of classes) settings.mtu) (omega (arith, brings, short, passed, held, next)) (omega (arith, part)) one

pub leave-in-time : (settings : DeviceSettings) → IsInRange settings → ClassesLeaveInTime settings
leave-in-time settings range before during link rate burst late major i quantum classes all_before all_during room over same stays drained polled_before polled_after =
    let start : DeviceState (List Note) = device_after settings before in
    let end : DeviceState (List Note) = device_after settings (before ++ during) in
    let b = link-between settings range before during link rate burst late major classes all_before all_during room over same drained polled_before polled_after in
    let h = at-start (IsBackloggedClass major i quantum) settings before during stays in
    let k = at-end (IsBackloggedClass major i quantum) settings before during stays in
    let one : 1 ≤ quantum = class-quantum settings range before all_before major i quantum h in
    let w : ℕ = still_held major i 0 start during in
    let own : ℕ = class_left major i start during in
    let low = still-held-low major i quantum settings.mtu settings before during range all_before all_during refl stays k.class k.there in
    let whole : class_sent major i start during ≡ own + w = omega (arith, still-within major i 0 start during) in
    let held : held_by major end ≡ length_held b.m.own.held = ap (λ (o : Option (Node (List Note))). option_map_or (λ (n : Node (List Note)). length_held n.own.held) o 0) b.at in
    let within = low.within in
    let held_last = b.held_last in
    let p : ℕ = settings.mtu - 1 in
    let few : quantum * w ≤ quantum * (p + 1) = mul-le-mul_left quantum (omega (arith, within, held, held_last)) in
    let more : quantum * (p + 1) ≡ quantum * p + quantum * 1 = mul-add quantum p 1 in
    let square : quantum * 1 ≤ quantum * quantum = mul-le-mul_left quantum one in
    let sum : (own + w) * quantum ≡ own * quantum + w * quantum = add-mul own w quantum in
    let twice : p * (quantum + quantum) ≡ p * quantum + p * quantum = mul-add p quantum quantum in
    let itself : class_sent major i start during * quantum ≤ own * quantum + 2 * (quantum * quantum) + p * (quantum + quantum) =
    omega (arith, few, more, square, sum, twice, ap (λ n. n * quantum) whole, mul_comm quantum w, mul_comm quantum p) in
    let part = its-part settings range before during all_before all_during major i quantum classes same stays own 2
    (own-part settings range before during all_before all_during major i quantum classes same stays own 2 itself (λ c owned apart.
    two settings range before during all_before all_during major i quantum stays h.class k.class h.there k.there own w whole low.low c apart
    (all-there settings range before during all_before all_during major i quantum classes same stays c owned))) in
    let brings = b.brings in
    let short = b.short in
    let least = b.least in
    let passed = b.passed in
    let held_first = b.held in
    let all = part.sum in
    let of_it = part.part in
    let mtus : (settings.mtu + settings.mtu) * quantum ≡ 2 * (settings.mtu * quantum) = add-mul settings.mtu settings.mtu quantum ∙ omega arith in
    let numbers = paid-numbers (rate * (end.clock - start.clock)) (own + part.total) (settings.mtu + settings.mtu) own quantum (quanta_of classes)
    (lacks_of_bytes (length classes) quantum (quanta_of classes) settings.mtu) (omega (arith, brings, short, least, passed, held_first, all, whole, within, held)) (omega (arith, of_it)) one in
    omega (arith, numbers, mtus)
