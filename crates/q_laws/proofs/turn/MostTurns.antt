-- The most that the classes of a drr send before a packet of one of them, in any state: each deficit at its greatest.
use Rattle.std.proofs.Common.{◌≡◌, ℕ, ◌+◌, ◌-◌, ◌*◌, ◌<◌, ◌≤◌, Bool, true, false, eqb, ◌||◌, List, [], ◌∷◌, ◌++◌, length, Some}
use Rattle.std.proofs.Common.{sym, ap, subst, ◌∙◌, inl, inr, arith}
use Rattle.std.specs.Prelude.{All, ◌==◌, if◌then◌else◌, option_and_then}
use Rattle.std.specs.Int.{div_ceil}
use Rattle.std.proofs.Math.Nat.{add-mul, mul-le-mul_right}
use Rattle.std.proofs.lemmas.Bool.{cases_Bool, eqb-true, false≢true}
use Rattle.std.proofs.lemmas.Grind.{div_ceil_times}
use Rattle.std.proofs.lemmas.List.Elements.{All-head, All-tail, All-nil, All-cons}
use Rattle.std.proofs.lemmas.List.Sums.{sum_by-cons}
use Rattle.std.proofs.lemmas.Option.{same_Some}
use Rattle.q_drr.specs.Schedule.{Class, Entry, Schedule, has_class, quantum_of, deficit_of}
use Rattle.q_drr.specs.Waiting.{bytes_of_turn, deficit_ahead, deficits_ahead}
use Rattle.q_drr.specs.Stretch.{stands_first}
use Rattle.q_drr.proofs.TakeLemmas.{has_quantum}
use Rattle.q_model.specs.Node.{Drr, Node, children}
use Rattle.q_model.specs.declared.event.Event.{Event}
use Rattle.q_model.specs.Events.{IsEvent}
use Rattle.q_model.specs.Settings.{DeviceSettings, IsInRange}
use Rattle.q_model.specs.Step.{DeviceState}
use Rattle.q_model.specs.Stretches.{ClassAt, class_in, qdisc, IsBackloggedClass, Throughout}
use Rattle.q_model.specs.Tally.{Note}
use Rattle.q_invariants.proofs.class.ClassChildren.{child-has}
use Rattle.q_invariants.proofs.class.ClassMoves.{ClassNode, class-node, drr-lawful, same-drr}
use Rattle.q_invariants.proofs.Replays.{IsKept, replay-kept}
use Rattle.q_tree.specs.answers.Ways.{share_among}
use Rattle.q_device.specs.promises.Worst.{most_of_turn}
use Rattle.q_device.specs.Sharing.{device_after}
use Rattle.q_device.proofs.ClassStretches.{at-start, deficits-bounded}
use Rattle.q_laws.specs.share.Service.{all_sent, class_sent, classes_of, HasClasses, quanta_of}
use Rattle.q_laws.specs.turn.MostOfTurn.{ClassesWaitAtMost, TurnsAreBounded, share_in}
use Rattle.q_laws.proofs.share.LeastShare.{is-class, classes-differ, IsOwn, own-quanta}
use Rattle.q_laws.proofs.turn.TurnStretches.{few-grants, StaysWithin}
use Rattle.q_laws.proofs.turn.TurnSums.{classes-send, classes-wait}

-- ---- the deficits of the others

-- p is a longest packet less a byte
module _ (i p : ℕ) (active : List Entry) where
  abbrev IsBelow : Class → Type 0
  IsBelow c = deficit_of c.name active ≤ c.quantum + p

  abbrev ahead : Class → ℕ
  ahead c = if i == c.name then 0 else deficit_ahead i active c

  ahead-most : (c : Class) → IsBelow c → ahead c ≤ c.quantum + p
  ahead-most c h = by (eqb i c.name) (stands_first c.name i active)
    where
      by : (own first : Bool)
          → (if own then 0 else (if first then deficit_of c.name active else deficit_of c.name active - c.quantum)) ≤ c.quantum + p
      by true first = omega arith
      by false true = h
      by false false = omega (arith, h)

  all-most : (cs : List Class) → All IsBelow cs → deficits_ahead i active cs ≤ quanta_of cs + length cs * p
  all-most [] h = omega arith
  all-most (c ∷ cs) h =
      let first = ahead-most c (All-head IsBelow c cs h) in
      let rest = all-most cs (All-tail IsBelow c cs h) in
      let one : (1 + length cs) * p ≡ 1 * p + length cs * p = add-mul 1 (length cs) p in
      omega (arith, first, rest, one, sum_by-cons ahead c cs, sum_by-cons (λ (k : Class). k.quantum) c cs)

  -- of all classes but class i, whose quantum is a
  record Others (a : ℕ) (cs : List Class) : Type 0 where
    others : ℕ
    number : ℕ
    whole : quanta_of cs ≡ a + others
    size : length cs ≡ number + 1
    most : deficits_ahead i active cs ≤ others + number * p

  others-most : (a : ℕ) (cs : List Class) → All IsBelow cs → All (λ (c : Class). c.name ≡ i → c.quantum ≡ a) cs
      → has_class i cs ≡ true → Others a cs
  others-most a [] h own has = absurd (false≢true has)
  others-most a (c ∷ cs) h own has = elim (cases_Bool (eqb i c.name)) [
    | inl here ↦
        let name : c.name ≡ i = sym (eqb-true i c.name here) in
        let rest = all-most cs (All-tail IsBelow c cs h) in
        let none : ahead c ≡ 0 = ap (λ (t : Bool). if t then 0 else deficit_ahead i active c) here in
        let quantum = All-head (λ (c : Class). c.name ≡ i → c.quantum ≡ a) c cs own name in
        record {
          others = quanta_of cs;
          number = length cs;
          whole = sum_by-cons (λ (k : Class). k.quantum) c cs ∙ ap (λ m. m + quanta_of cs) quantum;
          size = omega arith;
          most = omega (arith, rest, none, sum_by-cons ahead c cs);
        }
    | inr there ↦
        let rest = others-most a cs (All-tail IsBelow c cs h) (All-tail (λ (c : Class). c.name ≡ i → c.quantum ≡ a) c cs own)
        (sym (ap (λ t. t || has_class i cs) there) ∙ has) in
        let first = ahead-most c (All-head IsBelow c cs h) in
        let one : (1 + rest.number) * p ≡ 1 * p + rest.number * p = add-mul 1 rest.number p in
        record {
          others = c.quantum + rest.others;
          number = 1 + rest.number;
          whole = let sum = rest.whole in omega (arith, sum, sum_by-cons (λ (k : Class). k.quantum) c cs);
          size = let size = rest.size in omega (arith, size);
          most = let most = rest.most in omega (arith, first, most, one, sum_by-cons ahead c cs);
        }
  ]

-- ---- the grants

-- a class with a deficit needs no more grants than one with none
pub grants-most : (bytes d q : ℕ) → 1 ≤ q → div_ceil (bytes - d) q ≤ div_ceil bytes q
grants-most bytes d q some =
    let short : div_ceil (bytes - d) q * q < bytes - d + q = (div_ceil_times (bytes - d) q (omega (arith, some))).1 in
    let same : bytes - 0 ≡ bytes = omega arith in
    subst (λ n. div_ceil (bytes - d) q ≤ div_ceil n q) same (few-grants (div_ceil (bytes - d) q) q 0 bytes some (inr (omega (arith, short))))

-- ---- in each state

pub has-classes : (major i : ℕ) (d : DeviceState (List Note)) (x : ClassAt) → ClassNode major i d x → HasClasses major x.schedule.classes d
has-classes major i d x at = by at.node at.there at.discipline
  where
    by : (n : Node (List Note)) → qdisc major d ≡ Some n → n.own.discipline ≡ Drr x.schedule → HasClasses major x.schedule.classes d
    by n there is = ap (option_and_then (λ (n : Node (List Note)). classes_of n.own.discipline)) there ∙ ap classes_of is

module _ (settings : DeviceSettings) (range : IsInRange settings) (events : List Event) (all : All IsEvent events) where
  abbrev d : DeviceState (List Note)
  d = device_after settings events

  module _ (major i : ℕ) (class : ClassAt) (is : class_in major i d ≡ Some class) where
    abbrev classes : List Class
    classes = class.schedule.classes

    abbrev active : List Entry
    active = class.schedule.active

    abbrev quantum : ℕ
    quantum = quantum_of i classes

    kept : IsKept d
    kept = replay-kept settings events range all

    at : ClassNode major i d class
    at = class-node major i d class is

    pub there : HasClasses major classes d
    there = has-classes major i d class at

    pub has : has_class i classes ≡ true
    has = child-has i classes (children at.node) class.child at.child

    pub quantum-some : 1 ≤ quantum
    quantum-some = has_quantum i classes (drr-lawful major d at.node class.schedule kept at.there at.discipline).schedule.quanta has

    abbrev IsLow : Class → Type 0
    IsLow c = IsBelow i (settings.mtu - 1) active c

    abbrev IsSame : Class → Type 0
    IsSame c = c.name ≡ i → c.quantum ≡ quantum

    pub low : (c : Class) → IsOwn classes c → IsLow c
    low c own =
        let k = is-class major classes d kept there c.name c.quantum own.0 own.1 in
        let same : k.class.schedule ≡ class.schedule =
        same-drr major i c.name d class k.class at (class-node major c.name d k.class k.there) in
        let bound = subst (λ (s : Schedule). deficit_of c.name s.active < quantum_of c.name s.classes + settings.mtu) same
        (deficits-bounded settings range events major c.name k.class all k.there) in
        omega (arith, bound, own.1)

    all-low : (cs : List Class) → All (IsOwn classes) cs → All IsLow cs
    all-low [] h = All-nil IsLow
    all-low (c ∷ cs) h = All-cons IsLow c cs (low c (All-head (IsOwn classes) c cs h)) (all-low cs (All-tail (IsOwn classes) c cs h))

    all-same : (cs : List Class) → All (IsOwn classes) cs → All IsSame cs
    all-same [] h = All-nil IsSame
    all-same (c ∷ cs) h =
        let own = All-head (IsOwn classes) c cs h in
        All-cons IsSame c cs (λ e. sym own.1 ∙ ap (λ m. quantum_of m classes) e) (all-same cs (All-tail (IsOwn classes) c cs h))

    turn-bounded : (bytes : ℕ) → bytes_of_turn i quantum classes active bytes ≤ most_of_turn settings.mtu bytes (share_in i class.schedule)
    turn-bounded bytes =
        let owned = own-quanta classes (classes-differ major classes d kept there) in
        let o = others-most i (settings.mtu - 1) active quantum classes (all-low classes owned) (all-same classes owned) has in
        let whole = o.whole in
        let size = o.size in
        let most = o.most in
        let rest : quanta_of classes - quantum ≡ o.others = omega (arith, whole) in
        let number : length classes - 1 ≡ o.number = omega (arith, size) in
        let grants = mul-le-mul_right (quanta_of classes - quantum) (grants-most bytes (deficit_of i active) quantum quantum-some) in
        omega (arith, most, grants, rest, ap (λ m. m * (settings.mtu - 1)) number)

pub turns-are-bounded : (settings : DeviceSettings) → IsInRange settings → TurnsAreBounded settings
turns-are-bounded settings range events major i bytes class all is = turn-bounded settings range events all major i class is bytes

-- ---- what is sent

abbrev IsBound : ℕ → ℕ → ℕ → List Entry → ℕ → List Class → Type 0
IsBound i mtu bytes active q cs = bytes_of_turn i q cs active bytes ≤ most_of_turn mtu bytes (share_among (record { name = i; quantum = q }) cs)

module _ (settings : DeviceSettings) (range : IsInRange settings) (before during : List Event) (major i quantum bytes : ℕ) (classes : List Class)
    (all_before : All IsEvent before) (all_during : All IsEvent during) (there : Throughout (HasClasses major classes) settings before during)
    (stays : Throughout (IsBackloggedClass major i quantum) settings before during) where
  abbrev h : IsBackloggedClass major i quantum (device_after settings before)
  h = at-start (IsBackloggedClass major i quantum) settings before during stays

  any-state : bytes_of_turn i quantum classes h.class.schedule.active bytes ≤ most_of_turn settings.mtu bytes (share_among (record { name = i; quantum = quantum }) classes)
  any-state =
      let d : DeviceState (List Note) = device_after settings before in
      let bound = turns-are-bounded settings range before major i bytes h.class all_before h.there in
      let same : h.class.schedule.classes ≡ classes =
      same_Some h.class.schedule.classes classes (sym (has-classes major i d h.class (class-node major i d h.class h.there))
      ∙ at-start (HasClasses major classes) settings before during there) in
      subst (IsBound i settings.mtu bytes h.class.schedule.active quantum) same
      (subst (λ q. IsBound i settings.mtu bytes h.class.schedule.active q h.class.schedule.classes) h.same_quantum bound)

  -- where it is granted only while it has sent no more than the bytes
  pub classes-send-at-most : StaysWithin major i bytes 0 (device_after settings before) during
      → (last : ClassAt) → class_in major i (device_after settings (before ++ during)) ≡ Some last
      → (next : ℕ) → class_sent major i (device_after settings before) during + next ≤ bytes
      → all_sent major classes (device_after settings before) during + next
      ≤ most_of_turn settings.mtu bytes (share_among (record { name = i; quantum = quantum }) classes)
  classes-send-at-most within last at next own =
      let sent = classes-send settings range before during major i quantum bytes classes h.class last all_before all_during there stays within h.there at next own in
      omega (arith, sent, any-state)

pub classes-wait-at-most : (settings : DeviceSettings) → IsInRange settings → ClassesWaitAtMost settings
classes-wait-at-most settings range before during major i quantum bytes classes last t all_before all_during there stays left at order low =
    let h = at-start (IsBackloggedClass major i quantum) settings before during stays in
    let sent = classes-wait settings range before during major i quantum bytes classes h.class last t all_before all_during there stays left h.there
    at order low in
    omega (arith, sent, any-state settings range before during major i quantum bytes classes all_before all_during there stays)
