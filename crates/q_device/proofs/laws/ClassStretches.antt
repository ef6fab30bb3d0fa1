-- The classes of a drr over a stretch, one and two of them, from what each event comes to there.
use Rattle.std.proofs.Common.{◌≡◌, ◌≢◌, ℕ, ◌+◌, ◌*◌, ◌<◌, ◌≤◌, true, false, Bool, List, [], ◌∷◌, ◌++◌, max, refl, sym, ap, subst, ◌∙◌, Some, Ok, Err, Result, arith}
use Rattle.std.specs.Prelude.{All, drop, IsSomeAnd}
use Rattle.std.proofs.lemmas.List.Elements.{All-append}
use Rattle.std.proofs.lemmas.List.{append-nil}
use Rattle.std.proofs.lemmas.Option.{same_Some}
use Rattle.q_drr.specs.Schedule.{quantum_of, deficit_of}
use Rattle.q_drr.specs.Stretch.{stands_first}
use Rattle.std.proofs.Math.Nat.{mul_comm}
use Rattle.q_drr.proofs.FairLemmas.{fair_numbers}
use Rattle.q_drr.proofs.TakeLemmas.{has_quantum}
use Rattle.q_model.specs.declared.event.Event.{Event}
use Rattle.q_model.specs.declared.event.Event.TheVariants as event
use Rattle.q_model.specs.declared.refusal.Refusal.{Refusal}
use Rattle.q_model.specs.Edit.{Edit}
use Rattle.q_model.specs.Events.{IsEvent}
use Rattle.q_model.specs.Beneath.{is_empty}
use Rattle.q_model.specs.Node.{children, shape}
use Rattle.q_model.specs.Replay.{Replay, with_step, replay_from, nothing_yet}
use Rattle.q_model.specs.Tally.{Note, history}
use Rattle.q_model.specs.TreeState.{plan}
use Rattle.q_model.specs.Settings.{DeviceSettings, IsInRange}
use Rattle.q_model.specs.Step.{DeviceState, answered, step}
use Rattle.q_model.specs.Stretches.{bytes_sent, grants_to, ClassAt, class_in, IsBackloggedClass, Throughout}
use Rattle.q_invariants.proofs.Along.{moves}
use Rattle.q_invariants.proofs.class.ClassChildren.{child-has}
use Rattle.q_invariants.proofs.class.ClassMoves.{class-node, drr-lawful, ClassMoves, class-moves, more-class-moves, no-class-moves, PairMoves, same-noted, pair-moves, more-pair-moves, no-pair-moves, deficit-bounded, class-short, class-wakes}
use Rattle.q_invariants.proofs.class.TakeTurns.{one_if}
use Rattle.q_invariants.proofs.Replays.{IsKept, replay-kept}
use Rattle.q_device.proofs.laws.ReplayLemmas.{replay_from-append}
use Rattle.q_device.specs.Sharing.{device_after, length_shown, GrantsComeWhereShort, ClassesSendTheirShares, ClassesWakeWithAQuantum, DeficitsAreBounded, ClassesShareByQuanta}

-- ---- the mtu of the device stays

step-mtu : (d : DeviceState (List Note)) (e : Event) → (step history d e).device.tree.device.mtu ≡ d.tree.device.mtu
step-mtu d (event.Arrive p moment) = refl
step-mtu d (event.Poll moment) = refl
step-mtu d (event.Command c moment) = by (plan d.tree.device (max d.clock moment) c (shape d.tree.root))
  where
    by : (answer : Result Edit Refusal) → (answered history answer (max d.clock moment) d).device.tree.device.mtu ≡ d.tree.device.mtu
    by (Ok edit) = refl
    by (Err refusal) = refl

from-mtu : (r : Replay (List Note)) (events : List Event) → (replay_from history r events).device.tree.device.mtu ≡ r.device.tree.device.mtu
from-mtu r [] = refl
from-mtu r (e ∷ events) = from-mtu (with_step r (step history r.device e)) events ∙ step-mtu r.device e

pub mtu-stays : (settings : DeviceSettings) (events : List Event) → (device_after settings events).tree.device.mtu ≡ settings.mtu
mtu-stays settings events = from-mtu (nothing_yet history settings) events

pub deficits-bounded : (settings : DeviceSettings) → IsInRange settings → DeficitsAreBounded settings
deficits-bounded settings range events major minor class all is =
    subst (λ m. deficit_of minor class.schedule.active < quantum_of minor class.schedule.classes + m) (mtu-stays settings events)
    (deficit-bounded major minor (device_after settings events) class (replay-kept settings events range all) is)

pub grants-short : (settings : DeviceSettings) → IsInRange settings → GrantsComeWhereShort settings
grants-short settings range events e major minor k class next all event is at more =
    let on : device_after settings (events ++ e ∷ []) ≡ (step history (device_after settings events) e).device =
    ap (λ (r : Replay (List Note)). r.device) (replay_from-append history (nothing_yet history settings) events e) in
    let short = class-short major minor k (device_after settings events) e class next (replay-kept settings events range all) event is (ap (class_in major minor) (sym on) ∙ at) more in
    subst (λ (d : DeviceState (List Note)). IsSomeAnd (length_shown d.clock class.child)
    (λ len. deficit_of minor class.schedule.active + k * quantum_of minor class.schedule.classes < len)) (sym on) short

pub classes-wake : (settings : DeviceSettings) → IsInRange settings → ClassesWakeWithAQuantum settings
classes-wake settings range events e major minor class next all event is at empty queued =
    let on : device_after settings (events ++ e ∷ []) ≡ (step history (device_after settings events) e).device =
    ap (λ (r : Replay (List Note)). r.device) (replay_from-append history (nothing_yet history settings) events e) in
    class-wakes major minor (device_after settings events) e class next (replay-kept settings events range all) event is (ap (class_in major minor) (sym on) ∙ at) empty queued

-- ---- one class

-- the state at the start is one of the stretch
pub at-start : (P : DeviceState (List Note) → Type 0) (settings : DeviceSettings) (before during : List Event) → Throughout P settings before during → P (device_after settings before)
at-start P settings before during stays = subst (λ (es : List Event). P (device_after settings es)) (append-nil before) (stays [] during refl)

pub at-end : (P : DeviceState (List Note) → Type 0) (settings : DeviceSettings) (before during : List Event) → Throughout P settings before during → P (device_after settings (before ++ during))
at-end P settings before during stays = stays during [] (append-nil during)

module _ (major minor quantum : ℕ) where
  abbrev Stays : DeviceState (List Note) → Type 0
  Stays = IsBackloggedClass major minor quantum

  abbrev Moves : DeviceState (List Note) → DeviceState (List Note) → Type 0
  Moves d later = (x y : ClassAt) → class_in major minor d ≡ Some x → class_in major minor later ≡ Some y → ClassMoves minor x y

  there-is : (d : DeviceState (List Note)) (x : ClassAt) (h : Stays d) → class_in major minor d ≡ Some x → h.class ≡ x
  there-is d x h e = same_Some h.class x (sym h.there ∙ e)

  queued-in : (d : DeviceState (List Note)) (x : ClassAt) (h : Stays d) → class_in major minor d ≡ Some x → is_empty x.child ≡ false
  queued-in d x h e = ap (λ (c : ClassAt). is_empty c.child) (sym (there-is d x h e)) ∙ h.queued

  quantum-in : (d : DeviceState (List Note)) (x : ClassAt) (h : Stays d) → class_in major minor d ≡ Some x → quantum_of minor x.schedule.classes ≡ quantum
  quantum-in d x h e = ap (λ (c : ClassAt). quantum_of minor c.schedule.classes) (sym (there-is d x h e)) ∙ h.same_quantum

  still : (d : DeviceState (List Note)) → IsKept d → Stays d → Moves d d
  still d kept h x y e f = subst (λ (z : ClassAt). ClassMoves minor x z) (same_Some x y (sym e ∙ f)) (no-class-moves minor x)

  one : (d : DeviceState (List Note)) (e : Event) → IsKept d → IsEvent e → Stays d → Stays (step history d e).device → Moves d (step history d e).device
  one d e kept range h k x y is at =
      class-moves major minor d e x y kept range is at (queued-in d x h is) (queued-in (step history d e).device y k at)
      (quantum-in (step history d e).device y k at ∙ sym (quantum-in d x h is))

  more : (a b c : DeviceState (List Note)) → Stays a → Stays b → Moves a b → Moves b c → Moves a c
  more a b c h k f g x z e at =
      more-class-moves minor x k.class z (k.same_quantum ∙ sym (quantum-in a x h e)) (f x k.class e k.there) (g k.class z k.there at)

  over : (settings : DeviceSettings) (before during : List Event) → IsInRange settings → All IsEvent before → All IsEvent during → Throughout Stays settings before during
      → Moves (device_after settings before) (device_after settings (before ++ during))
  over settings before during range all_before all_during stays = moves Stays Moves still one more settings before during range all_before all_during stays

pub classes-share : (settings : DeviceSettings) → IsInRange settings → ClassesSendTheirShares settings
classes-share settings range before during major minor quantum first last all_before all_during stays is at =
    let m = over major minor quantum settings before during range all_before all_during stays first last is at in
    let q = quantum-in major minor quantum (device_after settings before) first (at-start (IsBackloggedClass major minor quantum) settings before during stays) is in
    record {
      notes = m.notes;
      given = m.given;
      goes_on = m.is;
      child_goes_on = m.gives;
      share = let books = m.books in omega (arith, books, ap (λ k. grants_to minor m.notes * k) q);
    }

-- ---- two classes

-- what two lists have behind one front
pub same-rest : (xs ys zs : List Note) → xs ++ ys ≡ xs ++ zs → ys ≡ zs
same-rest [] ys zs e = e
same-rest (x ∷ xs) ys zs e = same-rest xs ys zs (ap (drop 1) e)

module _ (major i j quantum_i quantum_j : ℕ) (apart : i ≢ j) where
  abbrev BothStay : DeviceState (List Note) → Type 0
  BothStay d = IsBackloggedClass major i quantum_i d × IsBackloggedClass major j quantum_j d

  abbrev BothMove : DeviceState (List Note) → DeviceState (List Note) → Type 0
  BothMove d later = (x y : ClassAt) → class_in major i d ≡ Some x → class_in major i later ≡ Some y → PairMoves i j x y

  pair-still : (d : DeviceState (List Note)) → IsKept d → BothStay d → BothMove d d
  pair-still d kept h x y e f = subst (λ (z : ClassAt). PairMoves i j x z) (same_Some x y (sym e ∙ f)) (no-pair-moves i j x)

  pair-one : (d : DeviceState (List Note)) (e : Event) → IsKept d → IsEvent e → BothStay d → BothStay (step history d e).device → BothMove d (step history d e).device
  pair-one d e kept range h k x y is at =
      let next : DeviceState (List Note) = (step history d e).device in
      pair-moves major i j d e x y h.1.class k.1.class apart kept range is at h.1.there k.1.there
      (queued-in major i quantum_i d x h.0 is) (queued-in major i quantum_i next y k.0 at) h.1.queued k.1.queued

  pair-more : (a b c : DeviceState (List Note)) → BothStay a → BothStay b → BothMove a b → BothMove b c → BothMove a c
  pair-more a b c h k f g x z e at = more-pair-moves i j x k.0.class z (f x k.0.class e k.0.there) (g k.0.class z k.0.there at)

  pair-over : (settings : DeviceSettings) (before during : List Event) → IsInRange settings → All IsEvent before → All IsEvent during → Throughout BothStay settings before during
      → BothMove (device_after settings before) (device_after settings (before ++ during))
  pair-over settings before during range all_before all_during stays = moves BothStay BothMove pair-still pair-one pair-more settings before during range all_before all_during stays

-- a class that is there has a quantum
has-quantum : (major minor : ℕ) (d : DeviceState (List Note)) (x : ClassAt) → IsKept d → class_in major minor d ≡ Some x → 1 ≤ quantum_of minor x.schedule.classes
has-quantum major minor d x kept e =
    let at = class-node major minor d x e in
    has_quantum minor x.schedule.classes (drr-lawful major d at.node x.schedule kept at.there at.discipline).schedule.quanta (child-has minor x.schedule.classes (children at.node) x.child at.child)

one-at-most : (b : Bool) → one_if b ≤ 1
one-at-most true = omega arith
one-at-most false = omega arith

pub pairs-share : (settings : DeviceSettings) → IsInRange settings → ClassesShareByQuanta settings
pairs-share settings range before during major i j quantum_i quantum_j first_i last_i first_j last_j apart all_before all_during stays_i stays_j is_i at_i is_j at_j =
    let start : DeviceState (List Note) = device_after settings before in
    let end : DeviceState (List Note) = device_after settings (before ++ during) in
    let kept : IsKept start = replay-kept settings before range all_before in
    let m = over major i quantum_i settings before during range all_before all_during stays_i first_i last_i is_i at_i in
    let k = over major j quantum_j settings before during range all_before all_during stays_j first_j last_j is_j at_j in
    let p = pair-over major i j quantum_i quantum_j apart settings before during range all_before all_during (λ seen later e. (stays_i seen later e, stays_j seen later e)) first_i last_i is_i at_i in
    let first_noted : first_j.noted ≡ first_i.noted = same-noted major i j start first_i first_j (class-node major i start first_i is_i) (class-node major j start first_j is_j) in
    let last_noted : last_j.noted ≡ last_i.noted = same-noted major i j end last_i last_j (class-node major i end last_i at_i) (class-node major j end last_j at_j) in
    let notes_i : m.notes ≡ p.notes = same-rest first_i.noted m.notes p.notes (sym m.is ∙ p.is) in
    let notes_j : k.notes ≡ p.notes = same-rest first_i.noted k.notes p.notes (ap (λ ns. ns ++ k.notes) (sym first_noted) ∙ sym k.is ∙ last_noted ∙ p.is) in
    let gi : grants_to i m.notes ≡ grants_to i p.notes = ap (grants_to i) notes_i in
    let gj : grants_to j k.notes ≡ grants_to j p.notes = ap (grants_to j) notes_j in
    let even = p.even in
    let qi : quantum_of i first_i.schedule.classes ≡ quantum_i = quantum-in major i quantum_i start first_i (at-start (IsBackloggedClass major i quantum_i) settings before during stays_i) is_i in
    let qj : quantum_of j first_j.schedule.classes ≡ quantum_j = quantum-in major j quantum_j start first_j (at-start (IsBackloggedClass major j quantum_j) settings before during stays_j) is_j in
    let ri : quantum_of i last_i.schedule.classes ≡ quantum_i = quantum-in major i quantum_i end last_i (at-end (IsBackloggedClass major i quantum_i) settings before during stays_i) at_i in
    let rj : quantum_of j last_j.schedule.classes ≡ quantum_j = quantum-in major j quantum_j end last_j (at-end (IsBackloggedClass major j quantum_j) settings before during stays_j) at_j in
    let pi : 1 ≤ quantum_i = subst (λ q. 1 ≤ q) qi (has-quantum major i start first_i kept is_i) in
    let pj : 1 ≤ quantum_j = subst (λ q. 1 ≤ q) qj (has-quantum major j start first_j kept is_j) in
    let share_i : bytes_sent m.given + deficit_of i last_i.schedule.active ≡ grants_to i p.notes * quantum_i + deficit_of i first_i.schedule.active =
    (let books = m.books in omega (arith, books, ap (λ g. g * quantum_i) gi, ap (λ q. grants_to i m.notes * q) qi)) in
    let share_j : bytes_sent k.given + deficit_of j last_j.schedule.active ≡ grants_to j p.notes * quantum_j + deficit_of j first_j.schedule.active =
    (let books = k.books in omega (arith, books, ap (λ g. g * quantum_j) gj, ap (λ q. grants_to j k.notes * q) qj)) in
    let di : deficit_of i first_i.schedule.active < quantum_i + settings.mtu = (let b = deficits-bounded settings range before major i first_i all_before is_i in omega (arith, b, qi)) in
    let dj : deficit_of j first_j.schedule.active < quantum_j + settings.mtu = (let b = deficits-bounded settings range before major j first_j all_before is_j in omega (arith, b, qj)) in
    let all : All IsEvent (before ++ during) = All-append IsEvent before during all_before all_during in
    let ei : deficit_of i last_i.schedule.active < quantum_i + settings.mtu = (let b = deficits-bounded settings range (before ++ during) major i last_i all at_i in omega (arith, b, ri)) in
    let ej : deficit_of j last_j.schedule.active < quantum_j + settings.mtu = (let b = deficits-bounded settings range (before ++ during) major j last_j all at_j in omega (arith, b, rj)) in
    let low : grants_to i p.notes ≤ grants_to j p.notes + 1 = omega (arith, even, one-at-most (stands_first i j first_i.schedule.active)) in
    let high : grants_to j p.notes ≤ grants_to i p.notes + 1 = omega (arith, even, one-at-most (stands_first i j last_i.schedule.active)) in
    let fair_j =
    fair_numbers (bytes_sent k.given) (bytes_sent m.given) (grants_to j p.notes) (grants_to i p.notes) quantum_j quantum_i
    (deficit_of j first_j.schedule.active) (deficit_of i first_i.schedule.active)
    (deficit_of j last_j.schedule.active) (deficit_of i last_i.schedule.active) settings.mtu share_j share_i high dj ei pi in
    let sum : settings.mtu * (quantum_j + quantum_i) ≡ settings.mtu * (quantum_i + quantum_j) = ap (λ q. settings.mtu * q) (omega arith) in
    record {
      notes = p.notes;
      given_i = m.given;
      given_j = k.given;
      goes_on = p.is;
      child_i_goes_on = m.gives;
      child_j_goes_on = k.gives;
      same_order = λ e. omega (arith, even, ap one_if e);
      overtaken = λ e f. omega (arith, even, ap one_if e, ap one_if f);
      overtakes = λ e f. omega (arith, even, ap one_if e, ap one_if f);
      no_more =
          fair_numbers (bytes_sent m.given) (bytes_sent k.given) (grants_to i p.notes) (grants_to j p.notes) quantum_i quantum_j
          (deficit_of i first_i.schedule.active) (deficit_of j first_j.schedule.active)
          (deficit_of i last_i.schedule.active) (deficit_of j last_j.schedule.active) settings.mtu share_i share_j low di ej pj;
      no_less = omega (arith, fair_j, mul_comm quantum_j quantum_i, sum);
    }
