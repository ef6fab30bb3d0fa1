-- What a class of a drr below a tbf at the root sends in time: from what the tbf delivers and the part of that which is the class's.
use Rattle.std.proofs.Common.{◌≡◌, ℕ, ◌+◌, ◌-◌, ◌*◌, ◌<◌, ◌≤◌, true, inl, inr, List, [], ◌∷◌, ◌++◌, length, refl, sym, ap, subst, ◌∙◌, Option, Some, None, arith}
use Rattle.std.specs.Prelude.{All, ◌==◌, ◌||◌}
use Rattle.std.specs.List.{flat_map}
use Rattle.std.specs.Option.{option_to_list}
use Rattle.std.proofs.Math.Nat.{mul-add, mul_comm, mul_assoc, mul-le-mul_left}
use Rattle.std.proofs.lemmas.Bool.{cases_Bool, false≢true}
use Rattle.std.proofs.lemmas.List.Elements.{All-append, All-head, All-tail}
use Rattle.q_packet.specs.Descriptor.{Descriptor}
use Rattle.q_bucket.specs.Level.{units_in_byte, level_at}
use Rattle.q_drr.specs.Schedule.{Class, has_class, quantum_of}
use Rattle.q_drr.proofs.LookupLemmas.{quantum_here, quantum_behind}
use Rattle.q_model.specs.declared.event.Event.{Event}
use Rattle.q_model.specs.Events.{IsEvent}
use Rattle.q_model.specs.Beneath.{beneath_own, packets_in}
use Rattle.q_model.specs.Lawful.{IsLawfulOwn}
use Rattle.q_model.specs.Node.{Own, Node, children, each}
use Rattle.q_model.specs.Numbers.{IsWithin}
use Rattle.q_model.specs.Settings.{DeviceSettings, IsInRange}
use Rattle.q_model.specs.Step.{DeviceState}
use Rattle.q_model.specs.Stretches.{bytes_spent, length_held, qdisc, TbfAt, IsBackloggedClass, Throughout}
use Rattle.q_model.specs.Tally.{Note}
use Rattle.q_invariants.proofs.Along.{counted}
use Rattle.q_invariants.proofs.class.ClassChildren.{child-has}
use Rattle.q_invariants.proofs.class.ClassMoves.{class-node, drr-lawful}
use Rattle.q_invariants.proofs.Replays.{IsKept, replay-kept}
use Rattle.q_invariants.proofs.tree.Within.{found, lawful-of}
use Rattle.q_device.specs.promises.Promise.{lacks_of_bytes}
use Rattle.q_device.specs.Sharing.{device_after}
use Rattle.q_device.proofs.ClassStretches.{at-start, at-end, mtu-stays, same-rest}
use Rattle.q_laws.specs.rate.Delay.{next_below}
use Rattle.q_laws.specs.rate.Rate.{IsDrained, IsPolledOut, HasRoom}
use Rattle.q_laws.specs.share.InTime.{IsLinkOver, ClassesShareInTime}
use Rattle.q_laws.specs.share.Service.{quanta_of, class_sent, all_sent, HasClasses}
use Rattle.q_laws.proofs.rate.LinkStretches.{link-spends, left-short}
use Rattle.q_laws.proofs.share.LeastShare.{classes-get-their-parts}
use Rattle.q_laws.proofs.share.PassedStretches.{Moves, Stays, still, more-passes}

-- a packet that is held is no longer than the mtu
held-short : (mtu clock : ℕ) (own : Own) (below : List (List Descriptor)) → IsLawfulOwn mtu clock own below → length_held own.held ≤ mtu
held-short mtu clock own below h =
    by own.held (λ p e. (All-head (λ (q : Descriptor). IsWithin 1 mtu q.len) p (rest own)
    (subst (λ ps. All (λ (q : Descriptor). IsWithin 1 mtu q.len) ps) (held-first p e) h.lengths)).1)
  where
    rest : Own → List Descriptor
    rest o = packets_in o.discipline ++ flat_map (λ packets. packets) below

    held-first : (p : Descriptor) → own.held ≡ Some p → beneath_own own below ≡ p ∷ (packets_in own.discipline ++ flat_map (λ packets. packets) below)
    held-first p e = ap (λ (o : Option Descriptor). option_to_list o ++ packets_in own.discipline ++ flat_map (λ packets. packets) below) e

    by : (o : Option Descriptor) → ((p : Descriptor) → o ≡ Some p → p.len ≤ mtu) → length_held o ≤ mtu
    by None h = omega arith
    by (Some p) h = h p refl

-- every class has a quantum
has-quantum : (classes : List Class) (c : ℕ) → All (λ (k : Class). 1 ≤ k.quantum) classes → has_class c classes ≡ true → 1 ≤ quantum_of c classes
has-quantum [] c all has = absurd (false≢true has)
has-quantum (k ∷ classes) c all has = elim (cases_Bool (c == k.name)) [
  | inl here ↦ let one = All-head (λ (x : Class). 1 ≤ x.quantum) k classes all in omega (arith, one, quantum_here c k classes here)
  | inr there ↦
      let rest = has-quantum classes c (All-tail (λ (x : Class). 1 ≤ x.quantum) k classes all) (sym (ap (λ t. t || has_class c classes) there) ∙ has) in
      omega (arith, rest, quantum_behind c k classes there)
]

-- The link pays s while the classes send t, of which the class sends c. A is what the class may lack of its part of those, in
-- products with its quantum q; r is what the rate brings, and b the sum of the quanta.
pub in-time-numbers : (r s t c q b m A : ℕ) → r < (s + m) * units_in_byte → s ≤ t + m → t * q ≤ c * b + A → 1 ≤ q → r * q < (c * b + (2 * (m * q) + A)) * units_in_byte
in-time-numbers r s t c q b m A less passed part one =
    let first : r + 1 ≤ (t + (m + m)) * units_in_byte = omega (arith, less, passed) in
    let whole : q * (r + 1) ≤ q * ((t + (m + m)) * units_in_byte) = mul-le-mul_left q first in
    let left : q * (r + 1) ≡ q * r + q * 1 = mul-add q r 1 in
    let right : q * ((t + (m + m)) * units_in_byte) ≡ (q * (t + (m + m))) * units_in_byte = sym (mul_assoc q (t + (m + m)) units_in_byte) in
    let parts : q * (t + (m + m)) ≡ q * t + q * (m + m) = mul-add q t (m + m) in
    let two : q * (m + m) ≡ q * m + q * m = mul-add q m m in
    omega (arith, whole, left, right, parts, two, part, one, mul_comm q r, mul_comm q t, mul_comm q m)

-- the packet that a qdisc holds
pub held-in : (settings : DeviceSettings) → IsInRange settings → (before : List Event) → All IsEvent before → (major : ℕ) (n : Node (List Note))
    → qdisc major (device_after settings before) ≡ Some n → length_held n.own.held ≤ settings.mtu
held-in settings range before all major n is =
    let d : DeviceState (List Note) = device_after settings before in
    let kept : IsKept d = replay-kept settings before range all in
    subst (λ k. length_held n.own.held ≤ k) (mtu-stays settings before)
    (held-short d.tree.device.mtu d.clock n.own (each beneath_own n.below) (lawful-of d.tree.device.mtu d.clock n d.tree.root kept.lawful (found major d n is).there).0)

-- the quantum of a class
pub class-quantum : (settings : DeviceSettings) → IsInRange settings → (before : List Event) → All IsEvent before → (major minor quantum : ℕ)
    → IsBackloggedClass major minor quantum (device_after settings before) → 1 ≤ quantum
class-quantum settings range before all major minor quantum class =
    let d : DeviceState (List Note) = device_after settings before in
    let node = class-node major minor d class.class class.there in
    let law = drr-lawful major d node.node class.class.schedule (replay-kept settings before range all) node.there node.discipline in
    subst (λ q. 1 ≤ q) class.same_quantum (has-quantum class.class.schedule.classes minor law.schedule.quanta
    (child-has minor class.class.schedule.classes (children node.node) class.class.child node.child))

-- What a link pays over an interval that ends where a poll gives nothing, and what passes from the classes of the drr beneath it, which is n at first
-- and m at last.
pub record LinkBetween (settings : DeviceSettings) (before during : List Event) (rate major : ℕ) (classes : List Class) : Type 0 where
  pub n : Node (List Note)
  pub m : Node (List Note)
  pub is : qdisc major (device_after settings before) ≡ Some n
  pub at : qdisc major (device_after settings (before ++ during)) ≡ Some m
  pub child : children (device_after settings (before ++ during)).tree.root ≡ m ∷ []
  pub spent : ℕ
  pub left : ℕ
  pub brings : rate * ((device_after settings (before ++ during)).clock - (device_after settings before).clock) ≤ spent * units_in_byte + left
  pub short : left < next_below (device_after settings (before ++ during)).clock (device_after settings (before ++ during)) * units_in_byte
  pub least : next_below (device_after settings (before ++ during)).clock (device_after settings (before ++ during)) ≤ settings.mtu
  pub passed : spent + length_held m.own.held ≤ all_sent major classes (device_after settings before) during + length_held n.own.held
  pub held : length_held n.own.held ≤ settings.mtu
  pub held_last : length_held m.own.held ≤ settings.mtu

pub link-between : (settings : DeviceSettings) → IsInRange settings → (before during : List Event) (link rate burst late major : ℕ) (classes : List Class) → All IsEvent before → All IsEvent during
    → HasRoom settings.mtu late rate burst
    → Throughout (IsLinkOver link rate burst major) settings before during → Throughout (HasClasses major classes) settings before during → IsDrained late (device_after settings before) during
    → IsPolledOut (device_after settings before) → IsPolledOut (device_after settings (before ++ during)) → LinkBetween settings before during rate major classes
link-between settings range before during link rate burst late major classes all_before all_during room over same drained polled_before polled_after =
    let start : DeviceState (List Note) = device_after settings before in
    let end : DeviceState (List Note) = device_after settings (before ++ during) in
    let along : Throughout (Stays link rate burst major classes) settings before during = λ seen later e. (over seen later e, same seen later e) in
    let s = at-start (Stays link rate burst major classes) settings before during along in
    let t = at-end (Stays link rate burst major classes) settings before during along in
    let x : TbfAt = s.0.rated.tbf.tbf in
    let y : TbfAt = t.0.rated.tbf.tbf in
    let n : Node (List Note) = s.0.drr in
    let m : Node (List Note) = t.0.drr in
    let all : All IsEvent (before ++ during) = All-append IsEvent before during all_before all_during in
    let exact =
    link-spends settings range before during link rate burst late x y all_before all_during room (λ seen later e. (over seen later e).rated)
    drained polled_before s.0.rated.tbf.there t.0.rated.tbf.there in
    let short = left-short settings range (before ++ during) link rate burst y all t.0.rated polled_after t.0.rated.tbf.there in
    let passed =
    counted (Stays link rate burst major classes) (Moves link rate burst major classes) (still link rate burst major classes)
    (more-passes link rate burst major classes) settings before during range all_before all_during along
    x y n m s.0.rated.tbf.there t.0.rated.tbf.there s.0.there t.0.there in
    let notes : exact.notes ≡ passed.notes = same-rest x.noted exact.notes passed.notes (sym exact.goes_on ∙ passed.is) in
    record {
      n = n;
      m = m;
      is = s.0.there;
      at = t.0.there;
      child = t.0.child;
      spent = bytes_spent passed.notes;
      left = level_at y.bucket end.clock;
      brings = let spent = exact.spent in omega (arith, spent, ap bytes_spent notes);
      short = short.0;
      least = short.1;
      passed = passed.passed;
      held = held-in settings range before all_before major n s.0.there;
      held_last = held-in settings range (before ++ during) all major m t.0.there;
    }

-- What a link pays in time, and that the classes of the drr beneath it send that, but for a packet.
pub link-passes : (settings : DeviceSettings) → IsInRange settings → (before during : List Event) (link rate burst late major : ℕ) (classes : List Class) → All IsEvent before → All IsEvent during
    → HasRoom settings.mtu late rate burst
    → Throughout (IsLinkOver link rate burst major) settings before during → Throughout (HasClasses major classes) settings before during → IsDrained late (device_after settings before) during
    → IsPolledOut (device_after settings before) → IsPolledOut (device_after settings (before ++ during))
    → (spent : ℕ) × (rate * ((device_after settings (before ++ during)).clock - (device_after settings before).clock) < (spent + settings.mtu) * units_in_byte)
    × (spent ≤ all_sent major classes (device_after settings before) during + settings.mtu)
link-passes settings range before during link rate burst late major classes all_before all_during room over same drained polled_before polled_after =
    let b = link-between settings range before during link rate burst late major classes all_before all_during room over same drained polled_before polled_after in
    let brings = b.brings in
    let short = b.short in
    let least = b.least in
    let passed = b.passed in
    let held = b.held in
    (b.spent, omega (arith, brings, short, least), omega (arith, passed, held))

pub share-in-time : (settings : DeviceSettings) → IsInRange settings → ClassesShareInTime settings
share-in-time settings range before during link rate burst late major i quantum classes all_before all_during room over same stays drained polled_before polled_after =
    let start : DeviceState (List Note) = device_after settings before in
    let passed = link-passes settings range before during link rate burst late major classes all_before all_during room over same drained polled_before polled_after in
    let part = classes-get-their-parts settings range before during major i quantum classes all_before all_during same stays in
    let one : 1 ≤ quantum = class-quantum settings range before all_before major i quantum (at-start (IsBackloggedClass major i quantum) settings before during stays) in
    in-time-numbers (rate * ((device_after settings (before ++ during)).clock - start.clock)) passed.0 (all_sent major classes start during)
    (class_sent major i start during) quantum (quanta_of classes) settings.mtu
    (lacks_of_bytes (length classes) quantum (quanta_of classes) settings.mtu) passed.1 passed.2 (omega (arith, part)) one
