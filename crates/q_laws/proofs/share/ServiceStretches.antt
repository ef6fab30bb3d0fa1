-- A class of a drr that stays backlogged, against each other class and against all of them, over a stretch.
use Rattle.std.proofs.Common.{◌≡◌, ◌≢◌, ℕ, ◌+◌, ◌-◌, ◌*◌, ◌<◌, ◌≤◌, false, List, [], ◌∷◌, ◌++◌, sym, ap, subst, ◌∙◌, Option, Some, arith}
use Rattle.std.specs.Prelude.{All}
use Rattle.std.specs.Option.{option_map_or}
use Rattle.std.proofs.Math.Nat.{add-mul, mul-add, mul_comm, mul_assoc, mul-le-mul_left}
use Rattle.std.proofs.lemmas.List.{append-nil, append_assoc}
use Rattle.std.proofs.lemmas.List.Elements.{All-append}
use Rattle.std.proofs.lemmas.List.Sums.{sum_by-append}
use Rattle.std.proofs.lemmas.Option.{same_Some}
use Rattle.q_drr.specs.Schedule.{Entry, Schedule, quantum_of, deficit_of}
use Rattle.q_model.specs.declared.event.Event.{Event}
use Rattle.q_model.specs.Events.{IsEvent}
use Rattle.q_model.specs.Beneath.{is_empty}
use Rattle.q_model.specs.Tally.{Note, history}
use Rattle.q_model.specs.Settings.{DeviceSettings, IsInRange}
use Rattle.q_model.specs.Step.{DeviceState, step}
use Rattle.q_model.specs.Stretches.{sent_by, bytes_sent, granted_by, grants_to, ClassAt, class_in, IsBackloggedClass}
use Rattle.q_invariants.proofs.Along.{counted}
use Rattle.q_invariants.proofs.class.AgainstTurns.{left_before, left-at-most, left-behind}
use Rattle.q_invariants.proofs.class.ClassMoves.{class-node, class-moves, same-drr, against-moves}
use Rattle.q_invariants.proofs.Replays.{IsKept}
use Rattle.q_device.specs.Sharing.{device_after}
use Rattle.q_device.proofs.ClassStretches.{at-start, at-end, same-rest, deficits-bounded}
use Rattle.q_laws.specs.share.Service.{given_so_far, class_sent, IsClass, ClassAgainstAny}

pub given-at : (major minor : ℕ) (d : DeviceState (List Note)) (x : ClassAt) → class_in major minor d ≡ Some x → given_so_far major minor d ≡ bytes_sent x.child.memory
given-at major minor d x there = ap (λ (o : Option ClassAt). option_map_or (λ (class : ClassAt). bytes_sent class.child.memory) o 0) there

module _ (major i j quantum_i quantum_j : ℕ) (apart : i ≢ j) where
  abbrev Both : DeviceState (List Note) → Type 0
  Both d = IsBackloggedClass major i quantum_i d × IsClass major j quantum_j d

  -- what both send over these events, by what the drr notes
  record Sends (d : DeviceState (List Note)) (during : List Event) (x y : ClassAt) : Type 0 where
    notes : List Note
    is : y.noted ≡ x.noted ++ notes
    share : class_sent major i d during + deficit_of i y.schedule.active ≡ grants_to i notes * quantum_i + deficit_of i x.schedule.active
    within : class_sent major j d during + left_before i j quantum_j y.schedule.active ≤ grants_to i notes * quantum_j + left_before i j quantum_j x.schedule.active

  abbrev Moves : DeviceState (List Note) → List Event → DeviceState (List Note) → Type 0
  Moves d during end = (x y : ClassAt) → class_in major i d ≡ Some x → class_in major i end ≡ Some y → Sends d during x y

  still : (d : DeviceState (List Note)) → IsKept d → Both d → Moves d [] d
  still d kept h x y is at = subst (Sends d [] x) (same_Some x y (sym is ∙ at)) (record {
    notes = [];
    is = sym (append-nil x.noted);
    share = omega arith;
    within = omega arith;
  })

  more : (d : DeviceState (List Note)) (e : Event) (during : List Event) (end : DeviceState (List Note)) → IsKept d → IsEvent e → Both d → Both (step history d e).device
      → Moves (step history d e).device during end → Moves d (e ∷ during) end
  more d e during end kept event h k on x z is at =
      let next : DeviceState (List Note) = (step history d e).device in
      let y : ClassAt = k.0.class in
      let a : ClassAt = h.1.class in
      let b : ClassAt = k.1.class in
      let same : h.0.class ≡ x = same_Some h.0.class x (sym h.0.there ∙ is) in
      let queued : is_empty x.child ≡ false = ap (λ (c : ClassAt). is_empty c.child) (sym same) ∙ h.0.queued in
      let quantum : quantum_of i x.schedule.classes ≡ quantum_i = ap (λ (c : ClassAt). quantum_of i c.schedule.classes) (sym same) ∙ h.0.same_quantum in
      let m = class-moves major i d e x y kept event is k.0.there queued k.0.queued (k.0.same_quantum ∙ sym quantum) in
      let v = against-moves major i j d e x y a b apart kept event is k.0.there h.1.there k.1.there queued k.0.queued (k.1.same_quantum ∙ sym h.1.same_quantum) in
      let rest = on y z k.0.there at in
      let notes : v.notes ≡ m.notes = same-rest x.noted v.notes m.notes (sym v.is ∙ m.is) in
      let grants : grants_to i (m.notes ++ rest.notes) ≡ grants_to i m.notes + grants_to i rest.notes = sum_by-append (granted_by i) m.notes rest.notes in
      let product_i : grants_to i (m.notes ++ rest.notes) * quantum_i ≡ grants_to i m.notes * quantum_i + grants_to i rest.notes * quantum_i =
      ap (λ g. g * quantum_i) grants ∙ add-mul (grants_to i m.notes) (grants_to i rest.notes) quantum_i in
      let product_j : grants_to i (m.notes ++ rest.notes) * quantum_j ≡ grants_to i m.notes * quantum_j + grants_to i rest.notes * quantum_j =
      ap (λ g. g * quantum_j) grants ∙ add-mul (grants_to i m.notes) (grants_to i rest.notes) quantum_j in
      let gave : given_so_far major i next - given_so_far major i d ≡ bytes_sent m.given =
      (let sent : bytes_sent y.child.memory ≡ bytes_sent x.child.memory + bytes_sent m.given = ap bytes_sent m.gives ∙ sum_by-append sent_by x.child.memory m.given in
      omega (arith, sent, given-at major i next y k.0.there, given-at major i d x is)) in
      let own : bytes_sent m.given + deficit_of i y.schedule.active ≡ grants_to i m.notes * quantum_i + deficit_of i x.schedule.active =
      (let books = m.books in omega (arith, books, ap (λ q. grants_to i m.notes * q) quantum)) in
      let other : (given_so_far major j next - given_so_far major j d) + left_before i j quantum_j y.schedule.active ≤ grants_to i m.notes * quantum_j + left_before i j quantum_j x.schedule.active =
      within-so v.notes m.notes (quantum_of j a.schedule.classes) quantum_j (given_so_far major j next) (given_so_far major j d)
      (bytes_sent b.child.memory) (bytes_sent a.child.memory) y.schedule.active x.schedule.active h.1.same_quantum notes
      (given-at major j next b k.1.there) (given-at major j d a h.1.there) v.within in
      record {
        notes = m.notes ++ rest.notes;
        is = rest.is ∙ ap (λ ns. ns ++ rest.notes) m.is ∙ append_assoc x.noted m.notes rest.notes;
        share = let later = rest.share in omega (arith, later, own, gave, product_i);
        within = let later = rest.within in omega (arith, later, other, product_j);
      }
    where
      within-so : (ns ms : List Note) (p q u v s t : ℕ) (es fs : List Entry) → p ≡ q → ns ≡ ms → u ≡ s → v ≡ t
          → (s - t) + left_before i j p es ≤ grants_to i ns * p + left_before i j p fs
          → (u - v) + left_before i j q es ≤ grants_to i ms * q + left_before i j q fs
      within-so ns ms p q u v s t es fs same noted e f h =
          subst (λ n. (n - v) + left_before i j q es ≤ grants_to i ms * q + left_before i j q fs) (sym e)
          (subst (λ n. (s - n) + left_before i j q es ≤ grants_to i ms * q + left_before i j q fs) (sym f)
          (subst (λ n. (s - t) + left_before i j q es ≤ grants_to i n * q + left_before i j q fs) noted
          (subst (λ n. (s - t) + left_before i j n es ≤ grants_to i ns * n + left_before i j n fs) same h)))

-- i sent `si` and j sent `sj` while i was granted g times, from and to these deficits
service-numbers : (si sj g a b di dj ei m : ℕ) → si + ei ≡ g * a + di → sj ≤ g * b + dj → ei < a + m → dj < b + m → sj * a ≤ si * b + 2 * (a * b) + (m - 1) * (a + b)
service-numbers si sj g a b di dj ei m share most last first =
    let p : ℕ = m - 1 in
    let low : a * sj ≤ a * (g * b + dj) = mul-le-mul_left a most in
    let low_is : a * (g * b + dj) ≡ a * (g * b) + a * dj = mul-add a (g * b) dj in
    let grants : a * (g * b) ≡ (g * a) * b = mul_comm a (g * b) ∙ mul_assoc g b a ∙ ap (λ x. g * x) (mul_comm b a) ∙ sym (mul_assoc g a b) in
    let own : b * (g * a) ≤ b * (si + ei) = mul-le-mul_left b (omega (arith, share)) in
    let own_is : b * (si + ei) ≡ b * si + b * ei = mul-add b si ei in
    let high : a * dj ≤ a * (b + p) = mul-le-mul_left a (omega (arith, first)) in
    let high_is : a * (b + p) ≡ a * b + a * p = mul-add a b p in
    let end : b * ei ≤ b * (a + p) = mul-le-mul_left b (omega (arith, last)) in
    let end_is : b * (a + p) ≡ b * a + b * p = mul-add b a p in
    let longest : p * (a + b) ≡ p * a + p * b = mul-add p a b in
    omega (arith, low, low_is, grants, own, own_is, high, high_is, end, end_is, longest, mul_comm a sj, mul_comm b si, mul_comm b (g * a), mul_comm b a, mul_comm a p, mul_comm b p)

pub class-against-any : (settings : DeviceSettings) → IsInRange settings → ClassAgainstAny settings
class-against-any settings range before during major i j quantum_i quantum_j first last apart all_before all_during stays there is at =
    let start : DeviceState (List Note) = device_after settings before in
    let m =
    counted (Both major i j quantum_i quantum_j apart) (Moves major i j quantum_i quantum_j apart) (still major i j quantum_i quantum_j apart)
    (more major i j quantum_i quantum_j apart) settings before during range all_before all_during
    (λ seen later e. (stays seen later e, there seen later e)) first last is at in
    let s = at-start (IsBackloggedClass major i quantum_i) settings before during stays in
    let t = at-end (IsBackloggedClass major i quantum_i) settings before during stays in
    let o = at-start (IsClass major j quantum_j) settings before during there in
    let last_is : t.class ≡ last = same_Some t.class last (sym t.there ∙ at) in
    let quantum : quantum_of i last.schedule.classes ≡ quantum_i = ap (λ (c : ClassAt). quantum_of i c.schedule.classes) (sym last_is) ∙ t.same_quantum in
    let same : o.class.schedule ≡ first.schedule = same-drr major i j start first o.class (class-node major i start first is) (class-node major j start o.class o.there) in
    let all : All IsEvent (before ++ during) = All-append IsEvent before during all_before all_during in
    let end : deficit_of i last.schedule.active < quantum_i + settings.mtu = (let b = deficits-bounded settings range (before ++ during) major i last all at in omega (arith, b, quantum)) in
    let begin : deficit_of j first.schedule.active < quantum_j + settings.mtu =
    (let b = deficits-bounded settings range before major j o.class all_before o.there in omega (arith, b, o.same_quantum, ap (λ (u : Schedule). deficit_of j u.active) same)) in
    let within = m.within in
    let no_more : class_sent major j start during ≤ grants_to i m.notes * quantum_j + deficit_of j first.schedule.active = omega (arith, within, left-at-most i j quantum_j first.schedule.active) in
    record {
      notes = m.notes;
      goes_on = m.is;
      share = m.share;
      no_more = no_more;
      behind = λ order. omega (arith, within, left-behind i j quantum_j first.schedule.active order);
      in_quanta =
          service-numbers (class_sent major i start during) (class_sent major j start during) (grants_to i m.notes) quantum_i quantum_j
          (deficit_of i first.schedule.active) (deficit_of j first.schedule.active)
          (deficit_of i last.schedule.active) settings.mtu m.share no_more end begin;
    }
