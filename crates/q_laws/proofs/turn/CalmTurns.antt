-- The most that the classes of a drr send before a packet of a calm class: where others are before it, it needs a grant less.
use Rattle.std.proofs.Common.{◌≡◌, ℕ, zero, suc, ◌+◌, ◌-◌, ◌*◌, ◌<◌, ◌≤◌, Bool, true, false, eqb, ◌||◌, List, [], ◌∷◌, length, sym, ap, subst, ◌∙◌, inl, inr, refl, Some, arith}
use Rattle.std.specs.Prelude.{All, ◌==◌, if◌then◌else◌}
use Rattle.std.specs.Int.{div_ceil}
use Rattle.std.proofs.Math.Nat.{add-mul, mul-le-mul_right}
use Rattle.std.proofs.lemmas.Bool.{cases_Bool, cases_lt, eqb-false, false≢true}
use Rattle.std.proofs.lemmas.Grind.{div_ceil_times}
use Rattle.std.proofs.lemmas.List.Elements.{All-head, All-tail, All-nil, All-cons}
use Rattle.std.proofs.lemmas.List.Sums.{sum_by-cons}
use Rattle.std.proofs.lemmas.Option.{same_Some}
use Rattle.q_drr.specs.Schedule.{Class, Entry, has_class, quantum_of, deficit_of}
use Rattle.q_drr.specs.Waiting.{bytes_of_turn, deficit_ahead, deficits_ahead}
use Rattle.q_drr.specs.Stretch.{stands_first}
use Rattle.q_model.specs.declared.event.Event.{Event}
use Rattle.q_model.specs.Events.{IsEvent}
use Rattle.q_model.specs.Settings.{DeviceSettings, IsInRange}
use Rattle.q_model.specs.Step.{DeviceState}
use Rattle.q_model.specs.Stretches.{ClassAt, class_in, IsBackloggedClass}
use Rattle.q_model.specs.Tally.{Note}
use Rattle.q_invariants.proofs.class.ClassMoves.{class-node}
use Rattle.q_invariants.proofs.Replays.{replay-kept}
use Rattle.q_tree.specs.answers.Ways.{share_among}
use Rattle.q_device.specs.Sharing.{device_after}
use Rattle.q_device.proofs.ClassStretches.{at-start}
use Rattle.q_laws.specs.share.Calm.{IsCalm, most_of_calm_turn, CalmTurnsAreBounded, CalmClassesWaitAtMost}
use Rattle.q_laws.specs.share.Service.{HasClasses, quanta_of}
use Rattle.q_laws.specs.turn.MostOfTurn.{share_in}
use Rattle.q_laws.proofs.share.LeastShare.{classes-differ, IsOwn, own-quanta}
use Rattle.q_laws.proofs.turn.MostTurns.{grants-most, has-classes, there, has, quantum-some, low, turns-are-bounded}
use Rattle.q_laws.proofs.turn.TurnStretches.{few-grants}
use Rattle.q_laws.proofs.turn.TurnSums.{classes-wait}

-- ---- grants

none-needed : (q : ℕ) → 1 ≤ q → div_ceil 0 q ≡ 0
none-needed q some = by (div_ceil 0 q) (div_ceil_times 0 q (omega (arith, some))).1
  where
    by : (n : ℕ) → n * q < 0 + q → n ≡ 0
    by zero short = refl
    by (suc n) short = let parts : (n + 1) * q ≡ n * q + 1 * q = add-mul n 1 q in absurd (omega (arith, short, parts))

-- a class with a quantum needs one grant less than one with no deficit
one-less : (bytes d q : ℕ) → 1 ≤ q → 1 ≤ bytes → q ≤ d → div_ceil (bytes - d) q + 1 ≤ div_ceil bytes q
one-less bytes d q some least full =
    let n : ℕ = div_ceil (bytes - d) q in
    let short : n * q < bytes - d + q = (div_ceil_times (bytes - d) q (omega (arith, some))).1 in
    let more : (n + 1) * q ≡ n * q + 1 * q = add-mul n 1 q in
    let same : bytes - 0 ≡ bytes = omega arith in
    let within : (n + 1) * q + 0 < bytes + q =
    elim (cases_lt d bytes) [
      | inl past ↦ omega (arith, short, more, past, full)
      | inr covers ↦
          let none : bytes - d ≡ 0 = omega (arith, covers) in
          let zero : n * q ≡ 0 = ap (λ m. div_ceil m q * q) none ∙ ap (λ m. m * q) (none-needed q some) ∙ omega arith in
          omega (arith, zero, more, least)
    ] in
    subst (λ m. n + 1 ≤ div_ceil m q) same (few-grants (n + 1) q 0 bytes some (inr within))

-- ---- the deficits of the others, where none of them is before the class

module _ (i p : ℕ) (active : List Entry) where
  abbrev IsFew : Class → Type 0
  IsFew c = eqb i c.name ≡ false → deficit_ahead i active c ≤ p

  abbrev ahead : Class → ℕ
  ahead c = if i == c.name then 0 else deficit_ahead i active c

  ahead-few : (c : Class) → IsFew c → ahead c ≤ p
  ahead-few c few = elim (cases_Bool (eqb i c.name)) [
    | inl here ↦ let none : ahead c ≡ 0 = ap (λ (t : Bool). if t then 0 else deficit_ahead i active c) here in omega (arith, none)
    | inr far ↦ let all : ahead c ≡ deficit_ahead i active c = ap (λ (t : Bool). if t then 0 else deficit_ahead i active c) far in omega (arith, all, few far)
  ]

  all-few : (cs : List Class) → All IsFew cs → deficits_ahead i active cs ≤ length cs * p
  all-few [] h = omega arith
  all-few (c ∷ cs) h =
      let first = ahead-few c (All-head IsFew c cs h) in
      let rest = all-few cs (All-tail IsFew c cs h) in
      let one : (1 + length cs) * p ≡ 1 * p + length cs * p = add-mul 1 (length cs) p in
      omega (arith, first, rest, one, sum_by-cons ahead c cs)

  record FewOthers (cs : List Class) : Type 0 where
    number : ℕ
    size : length cs ≡ number + 1
    few : deficits_ahead i active cs ≤ number * p

  few-others : (cs : List Class) → All IsFew cs → has_class i cs ≡ true → FewOthers cs
  few-others [] h here = absurd (false≢true here)
  few-others (c ∷ cs) h among = elim (cases_Bool (eqb i c.name)) [
    | inl here ↦
        let none : ahead c ≡ 0 = ap (λ (t : Bool). if t then 0 else deficit_ahead i active c) here in
        let rest = all-few cs (All-tail IsFew c cs h) in
        record { number = length cs; size = omega arith; few = omega (arith, rest, none, sum_by-cons ahead c cs) }
    | inr far ↦
        let rest = few-others cs (All-tail IsFew c cs h) (sym (ap (λ t. t || has_class i cs) far) ∙ among) in
        let first = ahead-few c (All-head IsFew c cs h) in
        let one : (1 + rest.number) * p ≡ 1 * p + rest.number * p = add-mul 1 rest.number p in
        record {
          number = 1 + rest.number;
          size = let size = rest.size in omega (arith, size);
          few = let few = rest.few in omega (arith, first, few, one, sum_by-cons ahead c cs);
        }
  ]

-- ---- in each state

module _ (settings : DeviceSettings) (range : IsInRange settings) (events : List Event) (all : All IsEvent events) (major i : ℕ) (class : ClassAt)
    (is : class_in major i (device_after settings events) ≡ Some class) where
  abbrev classes : List Class
  classes = class.schedule.classes

  abbrev active : List Entry
  active = class.schedule.active

  abbrev quantum : ℕ
  quantum = quantum_of i classes

  abbrev others : ℕ
  others = quanta_of classes - quantum

  abbrev longest : ℕ
  longest = settings.mtu - 1

  positive : 1 ≤ quantum
  positive = quantum-some settings range events all major i class is

  -- the deficits of the others in any state
  deficits : deficits_ahead i active classes ≤ others + (length classes - 1) * longest
  deficits =
      let bound = turns-are-bounded settings range events major i 0 class all is in
      let none : div_ceil 0 quantum * others ≡ 0 = ap (λ n. n * others) (none-needed quantum positive) ∙ omega arith in
      omega (arith, bound, none)

  module _ (bytes : ℕ) (least : 1 ≤ bytes) where
    abbrev IsMost : Type 0
    IsMost = bytes_of_turn i quantum classes active bytes ≤ most_of_calm_turn settings.mtu bytes (share_in i class.schedule)

    full-bounded : quantum ≤ deficit_of i active → IsMost
    full-bounded full =
        let n : ℕ = div_ceil (bytes - deficit_of i active) quantum in
        let fewer : (n + 1) * others ≤ div_ceil bytes quantum * others = mul-le-mul_right others (one-less bytes (deficit_of i active) quantum positive least full) in
        let parts : (n + 1) * others ≡ n * others + 1 * others = add-mul n 1 others in
        omega (arith, fewer, parts, deficits)

    short-bounded : IsCalm i quantum active → deficit_of i active < quantum → IsMost
    short-bounded calm short =
        let owned = own-quanta classes (classes-differ major classes (device_after settings events) (replay-kept settings events range all) (there settings range events all major i class is)) in
        let o = few-others i longest active classes (every classes owned) (has settings range events all major i class is) in
        let few = o.few in
        let size = o.size in
        let number : length classes - 1 ≡ o.number = omega (arith, size) in
        let grants = mul-le-mul_right others (grants-most bytes (deficit_of i active) quantum positive) in
        omega (arith, few, grants, ap (λ m. m * longest) number)
      where
        few-ahead : (c : Class) → IsOwn classes c → eqb i c.name ≡ false → deficit_ahead i active c ≤ longest
        few-ahead c own apart = elim (cases_Bool (stands_first c.name i active)) [
          | inl front ↦ let full = calm c.name (λ same. eqb-false i c.name apart (sym same)) front in absurd (omega (arith, full, short))
          | inr behind ↦
              let left : deficit_ahead i active c ≡ deficit_of c.name active - c.quantum = ap (λ (t : Bool). if t then deficit_of c.name active else deficit_of c.name active - c.quantum) behind in
              omega (arith, left, low settings range events all major i class is c own)
        ]

        every : (cs : List Class) → All (IsOwn classes) cs → All (IsFew i longest active) cs
        every [] h = All-nil (IsFew i longest active)
        every (c ∷ cs) h = All-cons (IsFew i longest active) c cs (few-ahead c (All-head (IsOwn classes) c cs h)) (every cs (All-tail (IsOwn classes) c cs h))

    pub calm-bounded : IsCalm i quantum active → IsMost
    calm-bounded calm = elim (cases_lt (deficit_of i active) quantum) [ inl short ↦ short-bounded calm short | inr full ↦ full-bounded full ]

pub calm-turns-are-bounded : (settings : DeviceSettings) → IsInRange settings → CalmTurnsAreBounded settings
calm-turns-are-bounded settings range events major i bytes class all least is calm = calm-bounded settings range events all major i class is bytes least calm

-- ---- what is sent

abbrev IsBound : ℕ → ℕ → ℕ → List Entry → ℕ → List Class → Type 0
IsBound i mtu bytes active q cs = bytes_of_turn i q cs active bytes ≤ most_of_calm_turn mtu bytes (share_among (record { name = i; quantum = q }) cs)

pub calm-classes-wait-at-most : (settings : DeviceSettings) → IsInRange settings → CalmClassesWaitAtMost settings
calm-classes-wait-at-most settings range before during major i quantum bytes classes first last t all_before all_during least there stays is calm left at order low =
    let d : DeviceState (List Note) = device_after settings before in
    let h = at-start (IsBackloggedClass major i quantum) settings before during stays in
    let mine : h.class ≡ first = same_Some h.class first (sym h.there ∙ is) in
    let q : quantum_of i first.schedule.classes ≡ quantum = ap (λ (c : ClassAt). quantum_of i c.schedule.classes) (sym mine) ∙ h.same_quantum in
    let sent = classes-wait settings range before during major i quantum bytes classes first last t all_before all_during there stays left is at order low in
    let bound = calm-turns-are-bounded settings range before major i bytes first all_before least is (subst (λ n. IsCalm i n first.schedule.active) (sym q) calm) in
    let same : first.schedule.classes ≡ classes =
    same_Some first.schedule.classes classes (sym (has-classes major i d first (class-node major i d first is)) ∙ at-start (HasClasses major classes) settings before during there) in
    omega (
      arith,
      sent,
      subst (IsBound i settings.mtu bytes first.schedule.active quantum) same (subst (λ n. IsBound i settings.mtu bytes first.schedule.active n first.schedule.classes) q bound),
    )
