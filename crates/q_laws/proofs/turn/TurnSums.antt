-- What the other classes of a drr send before a packet of one of them, summed over the classes.
use Rattle.std.proofs.Common.{◌≡◌, ℕ, ◌+◌, ◌-◌, ◌*◌, ◌<◌, ◌≤◌, ◌⊎◌, Bool, true, false, eqb, ◌||◌, List, [], ◌∷◌, ◌++◌, refl, Some, sym, ap, subst, ◌∙◌, inl, inr, arith}
use Rattle.std.specs.Prelude.{All, ◌==◌, sum_by, if◌then◌else◌}
use Rattle.std.specs.Int.{div_ceil}
use Rattle.std.proofs.Math.Nat.{mul-add, mul_comm, mul-le-mul_left}
use Rattle.std.proofs.lemmas.Bool.{cases_Bool, eqb-true, eqb-false, false≢true, or_parts}
use Rattle.std.proofs.lemmas.List.Elements.{All-head, All-tail, All-nil, All-cons}
use Rattle.std.proofs.lemmas.List.Sums.{sum_by-cons}
use Rattle.q_drr.specs.Schedule.{Class, Entry, has_class, quantum_of, deficit_of}
use Rattle.q_drr.specs.Waiting.{bytes_of_turn, deficit_ahead, deficits_ahead}
use Rattle.q_drr.specs.Stretch.{stands_first}
use Rattle.q_drr.proofs.DifferLemmas.{ClassesDiffer}
use Rattle.q_drr.proofs.TakeLemmas.{has_quantum}
use Rattle.q_model.specs.declared.event.Event.{Event}
use Rattle.q_model.specs.Events.{IsEvent}
use Rattle.q_model.specs.Settings.{DeviceSettings, IsInRange}
use Rattle.q_model.specs.Step.{DeviceState}
use Rattle.q_model.specs.Tally.{Note}
use Rattle.q_model.specs.Stretches.{ClassAt, class_in, grants_to, IsBackloggedClass, Throughout}
use Rattle.q_invariants.proofs.class.ClassMoves.{drr-lawful}
use Rattle.q_invariants.proofs.Replays.{replay-kept}
use Rattle.q_device.specs.Sharing.{device_after}
use Rattle.q_device.proofs.ClassStretches.{at-start}
use Rattle.q_laws.specs.share.Service.{all_sent, class_sent, HasClasses, quanta_of}
use Rattle.q_laws.specs.turn.Turn.{shown_by, ClassesWaitTheirTurn}
use Rattle.q_laws.proofs.share.LeastShare.{drr-node, is-class, classes-differ, IsOwn, own-quanta, kept-at, Stands, stands-among}
use Rattle.q_laws.proofs.share.ServiceStretches.{class-against-any}
use Rattle.q_laws.proofs.turn.TurnStretches.{few-grants, left-at-end, left-within, StaysWithin, Waits, class-waits}

-- Class i of quantum a was granted n times at most; `sent` is what each class sent, by its name.
module _ (i a n : ℕ) (active : List Entry) (sent : ℕ → ℕ) where
  -- what another class sends
  abbrev IsMost : Class → Type 0
  IsMost c = eqb i c.name ≡ false → sent c.name ≤ n * c.quantum + deficit_ahead i active c

  abbrev ahead : Class → ℕ
  ahead c = if i == c.name then 0 else deficit_ahead i active c

  ahead-other : (c : Class) → eqb i c.name ≡ false → ahead c ≡ deficit_ahead i active c
  ahead-other c e = ap (λ (t : Bool). if t then 0 else deficit_ahead i active c) e

  ahead-own : (c : Class) → eqb i c.name ≡ true → ahead c ≡ 0
  ahead-own c e = ap (λ (t : Bool). if t then 0 else deficit_ahead i active c) e

  abbrev sum : List Class → ℕ
  sum cs = sum_by (λ (c : Class). sent c.name) cs

  others-send : (cs : List Class) → All IsMost cs → has_class i cs ≡ false → sum cs ≤ n * quanta_of cs + deficits_ahead i active cs
  others-send [] h none = omega arith
  others-send (c ∷ cs) h none =
      let apart = or_parts (eqb i c.name) (has_class i cs) none in
      let first = All-head IsMost c cs h apart.0 in
      let rest = others-send cs (All-tail IsMost c cs h) apart.1 in
      let quanta : quanta_of (c ∷ cs) ≡ c.quantum + quanta_of cs = sum_by-cons (λ (k : Class). k.quantum) c cs in
      let product : n * (c.quantum + quanta_of cs) ≡ n * c.quantum + n * quanta_of cs = mul-add n c.quantum (quanta_of cs) in
      omega (arith, first, rest, sum_by-cons (λ (k : Class). sent k.name) c cs, sum_by-cons ahead c cs, ahead-other c apart.0, product, ap (λ m. n * m) quanta)

  record Total (cs : List Class) : Type 0 where
    others : ℕ
    whole : quanta_of cs ≡ a + others
    most : sum cs ≤ sent i + n * others + deficits_ahead i active cs

  all-send : (cs : List Class) → ClassesDiffer cs → All IsMost cs → All (λ (c : Class). c.name ≡ i → c.quantum ≡ a) cs → has_class i cs ≡ true → Total cs
  all-send [] differ h own has = absurd (false≢true has)
  all-send (c ∷ cs) differ h own has = elim (cases_Bool (eqb i c.name)) [
    | inl here ↦
        let name : c.name ≡ i = sym (eqb-true i c.name here) in
        let rest = others-send cs (All-tail IsMost c cs h) (ap (λ m. has_class m cs) (sym name) ∙ differ.0) in
        record {
          others = quanta_of cs;
          whole = sum_by-cons (λ (k : Class). k.quantum) c cs ∙ ap (λ m. m + quanta_of cs) (All-head (λ (c : Class). c.name ≡ i → c.quantum ≡ a) c cs own name);
          most = omega (arith, rest, sum_by-cons (λ (k : Class). sent k.name) c cs, sum_by-cons ahead c cs, ahead-own c here, ap sent name);
        }
    | inr there ↦
        let rest = all-send cs differ.1 (All-tail IsMost c cs h) (All-tail (λ (c : Class). c.name ≡ i → c.quantum ≡ a) c cs own) (sym (ap (λ t. t || has_class i cs) there) ∙ has) in
        let first = All-head IsMost c cs h there in
        let product : n * (c.quantum + rest.others) ≡ n * c.quantum + n * rest.others = mul-add n c.quantum rest.others in
        record {
          others = c.quantum + rest.others;
          whole = let sum = rest.whole in omega (arith, sum, sum_by-cons (λ (k : Class). k.quantum) c cs);
          most = let most = rest.most in omega (arith, first, most, sum_by-cons (λ (k : Class). sent k.name) c cs, sum_by-cons ahead c cs, ahead-other c there, product);
        }
  ]

-- by the deficit that counts of another class
ahead-by : (i g : ℕ) (active : List Entry) (c : Class) (s : ℕ) → s ≤ g * c.quantum + deficit_of c.name active
    → (stands_first c.name i active ≡ false → s ≤ g * c.quantum + (deficit_of c.name active - c.quantum))
    → s ≤ g * c.quantum + deficit_ahead i active c
ahead-by i g active c s most behind = by (stands_first c.name i active) refl
  where
    by : (t : Bool) → stands_first c.name i active ≡ t → s ≤ g * c.quantum + (if t then deficit_of c.name active else deficit_of c.name active - c.quantum)
    by true e = most
    by false e = behind e

-- Where it is granted only while it has sent no more than the bytes; `next` are some that it sends yet.
pub classes-send : (settings : DeviceSettings) → IsInRange settings → (before during : List Event) (major i quantum bytes : ℕ) (classes : List Class)
    (first last : ClassAt) → All IsEvent before → All IsEvent during → Throughout (HasClasses major classes) settings before during
    → Throughout (IsBackloggedClass major i quantum) settings before during → StaysWithin major i bytes 0 (device_after settings before) during
    → class_in major i (device_after settings before) ≡ Some first → class_in major i (device_after settings (before ++ during)) ≡ Some last
    → (next : ℕ) → class_sent major i (device_after settings before) during + next ≤ bytes
    → all_sent major classes (device_after settings before) during + next ≤ bytes_of_turn i quantum classes first.schedule.active bytes
classes-send settings range before during major i quantum bytes classes first last all_before all_during there stays within is at next covered =
    let n : ℕ = div_ceil (bytes - deficit_of i first.schedule.active) quantum in
    let gives : ℕ → ℕ = λ c. class_sent major c (device_after settings before) during in
    let total = all-send i quantum n first.schedule.active gives classes differ (most classes owned) (quanta-are classes owned) stands.has in
    let all = total.most in
    let whole = total.whole in
    let rest : quanta_of classes - quantum ≡ total.others = omega (arith, whole) in
    omega (arith, all, covered, ap (λ m. n * m) rest)
  where
    at_first : HasClasses major classes (device_after settings before)
    at_first = at-start (HasClasses major classes) settings before during there

    h : IsBackloggedClass major i quantum (device_after settings before)
    h = at-start (IsBackloggedClass major i quantum) settings before during stays

    stands : Stands i quantum classes
    stands = stands-among major i quantum classes (device_after settings before) at_first h

    differ : ClassesDiffer classes
    differ = classes-differ major classes (device_after settings before) (replay-kept settings before range all_before) at_first

    owned : All (IsOwn classes) classes
    owned = own-quanta classes differ

    some : 1 ≤ quantum
    some =
        let drr = drr-node major classes (device_after settings before) at_first in
        let law = drr-lawful major (device_after settings before) drr.node drr.schedule (replay-kept settings before range all_before) drr.there drr.discipline in
        subst (λ m. 1 ≤ m) stands.own (has_quantum i classes (subst (All (λ (c : Class). 1 ≤ c.quantum)) drr.same law.schedule.quanta) stands.has)

    waits : Waits major i quantum bytes (deficit_of i first.schedule.active) (0 + class_sent major i (device_after settings before) during) last
    waits = class-waits major i quantum bytes (deficit_of i first.schedule.active) settings before during range all_before all_during stays first last is at refl within

    few : (g : ℕ) → g * quantum ≡ waits.grants * quantum → g ≤ div_ceil (bytes - deficit_of i first.schedule.active) quantum
    few g same = few-grants g quantum (deficit_of i first.schedule.active) bytes some (by waits.short.short)
      where
        by : (waits.grants ≡ 0) ⊎ (waits.grants * quantum + deficit_of i first.schedule.active < bytes + quantum)
            → (g * quantum ≡ 0) ⊎ (g * quantum + deficit_of i first.schedule.active < bytes + quantum)
        by (inl none) = inl (same ∙ ap (λ m. m * quantum) none ∙ (let nothing : 0 * quantum ≡ 0 = omega arith in nothing))
        by (inr less) = inr (omega (arith, less, same))

    one : (c : Class) → IsOwn classes c → eqb i c.name ≡ false
        → class_sent major c.name (device_after settings before) during ≤ div_ceil (bytes - deficit_of i first.schedule.active) quantum * c.quantum
        + deficit_ahead i first.schedule.active c
    one c mine apart =
        let law = class-against-any settings range before during major i c.name quantum c.quantum first last (eqb-false i c.name apart) all_before all_during stays
        (λ seen later e. is-class major classes (device_after settings (before ++ seen))
        (kept-at settings range before during all_before all_during seen later e) (there seen later e) c.name c.quantum mine.0 mine.1) is at in
        let g : ℕ = grants_to i law.notes in
        let share = law.share in
        let book = waits.short.book in
        let same : g * quantum ≡ waits.grants * quantum = omega (arith, share, book) in
        let few_are : c.quantum * g ≤ c.quantum * div_ceil (bytes - deficit_of i first.schedule.active) quantum = mul-le-mul_left c.quantum (few g same) in
        let fits = ahead-by i g first.schedule.active c (class_sent major c.name (device_after settings before) during) law.no_more law.behind in
        omega (arith, fits, few_are, mul_comm c.quantum g, mul_comm c.quantum (div_ceil (bytes - deficit_of i first.schedule.active) quantum))

    most : (cs : List Class) → All (IsOwn classes) cs
        → All (λ (c : Class). eqb i c.name ≡ false → class_sent major c.name (device_after settings before) during
        ≤ div_ceil (bytes - deficit_of i first.schedule.active) quantum * c.quantum + deficit_ahead i first.schedule.active c) cs
    most [] own =
        All-nil (λ (c : Class). eqb i c.name ≡ false → class_sent major c.name (device_after settings before) during
        ≤ div_ceil (bytes - deficit_of i first.schedule.active) quantum * c.quantum + deficit_ahead i first.schedule.active c)
    most (c ∷ cs) own =
        All-cons (λ (c : Class). eqb i c.name ≡ false → class_sent major c.name (device_after settings before) during
        ≤ div_ceil (bytes - deficit_of i first.schedule.active) quantum * c.quantum + deficit_ahead i first.schedule.active c) c cs
        (one c (All-head (IsOwn classes) c cs own)) (most cs (All-tail (IsOwn classes) c cs own))

    quanta-are : (cs : List Class) → All (IsOwn classes) cs → All (λ (c : Class). c.name ≡ i → c.quantum ≡ quantum) cs
    quanta-are [] own = All-nil (λ (c : Class). c.name ≡ i → c.quantum ≡ quantum)
    quanta-are (c ∷ cs) own =
        All-cons (λ (c : Class). c.name ≡ i → c.quantum ≡ quantum) c cs
        (λ e. sym (All-head (IsOwn classes) c cs own).1 ∙ ap (λ m. quantum_of m classes) e ∙ stands.own)
        (quanta-are cs (All-tail (IsOwn classes) c cs own))

pub classes-wait : (settings : DeviceSettings) → IsInRange settings → ClassesWaitTheirTurn settings
classes-wait settings range before during major i quantum bytes classes first last t all_before all_during there stays left is at order low =
    let d : DeviceState (List Note) = device_after settings before in
    let within = left-within major i bytes d during 0 (replay-kept settings before range all_before) all_during left in
    let end = left-at-end major i quantum bytes 0 settings before during range all_before all_during stays left in
    let own = end last t at order low in
    classes-send settings range before during major i quantum bytes classes first last all_before all_during there stays within is at
    (shown_by t last) (omega (arith, own))
