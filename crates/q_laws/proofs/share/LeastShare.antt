-- The least share of a class of a drr: what each class sends against it, summed over the classes.
use Rattle.std.proofs.Common.{◌≡◌, ℕ, suc, ◌+◌, ◌-◌, ◌*◌, ◌≤◌, true, false, eqb, ◌||◌, List, [], ◌∷◌, ◌++◌, map, length, refl, sym, ap, subst, ◌∙◌, inl, inr, Some, eq-eqb, arith}
use Rattle.std.specs.Prelude.{All, option_map, option_and_then, sum_by}
use Rattle.std.proofs.Math.Nat.{add-mul, mul-add}
use Rattle.std.proofs.lemmas.Bool.{cases_Bool, eqb-true, eqb-false, ne_eqb, false≢true, or_left, or_right}
use Rattle.std.proofs.lemmas.List.{length-map}
use Rattle.std.proofs.lemmas.List.Elements.{All-nil, All-cons, All-head, All-tail, All-append}
use Rattle.std.proofs.lemmas.List.Sums.{sum_by-cons}
use Rattle.std.proofs.lemmas.Option.{none-some, same_Some, option_and_then_some}
use Rattle.q_drr.specs.Schedule.{Class, Schedule, has_class, is_active, quantum_of}
use Rattle.q_drr.proofs.DifferLemmas.{ClassesDiffer, differ_from_pairs}
use Rattle.q_drr.proofs.LookupLemmas.{quantum_here, quantum_behind}
use Rattle.q_model.specs.declared.event.Event.{Event}
use Rattle.q_model.specs.Events.{IsEvent}
use Rattle.q_model.specs.Tally.{Note}
use Rattle.q_model.specs.Node.{Discipline, Fifo, Prio, Tbf, Drr, FqCodel, Node, children}
use Rattle.q_model.specs.Beneath.{beneath}
use Rattle.q_model.specs.Settings.{DeviceSettings, IsInRange}
use Rattle.q_model.specs.Step.{DeviceState}
use Rattle.q_model.specs.Stretches.{qdisc, class_of, class_in, IsBackloggedClass, Throughout}
use Rattle.q_invariants.proofs.class.ClassChildren.{child_for, child-at, child-has, here-is, there-is}
use Rattle.q_invariants.proofs.class.ClassMoves.{class-node, drr-lawful}
use Rattle.q_invariants.proofs.class.Exact.{exact-length}
use Rattle.q_invariants.proofs.Replays.{IsKept, replay-kept}
use Rattle.q_invariants.proofs.tree.Members.{All-front}
use Rattle.q_device.specs.Sharing.{device_after}
use Rattle.q_device.proofs.ClassStretches.{at-start, at-end}
use Rattle.q_laws.specs.share.Service.{class_sent, IsClass, classes_of, HasClasses, quanta_of, all_sent, ClassesGetTheirParts}
use Rattle.q_laws.proofs.share.ServiceStretches.{class-against-any}

-- ---- each class is there

child-of : {X : Type 0} (c : ℕ) (classes : List Class) (xs : List X) → length classes ≡ length xs → has_class c classes ≡ true → (x : X) × (child_for c classes xs ≡ Some x)
child-of c [] xs same has = absurd (false≢true has)
child-of c (k ∷ classes) [] same has = absurd (omega (arith, same))
child-of c (k ∷ classes) (x ∷ xs) same has = elim (cases_Bool (eqb c k.name)) [
  | inl here ↦ (x, here-is c k classes x xs here)
  | inr there ↦
      let rest = child-of c classes xs (omega (arith, same)) (sym (ap (λ t. t || has_class c classes) there) ∙ has) in
      (rest.0, there-is c k classes x xs there ∙ rest.1)
]

-- the drr of a device that has these classes
pub record DrrNode (major : ℕ) (classes : List Class) (d : DeviceState (List Note)) : Type 0 where
  pub node : Node (List Note)
  pub schedule : Schedule
  pub there : qdisc major d ≡ Some node
  pub discipline : node.own.discipline ≡ Drr schedule
  pub same : schedule.classes ≡ classes

pub drr-node : (major : ℕ) (classes : List Class) (d : DeviceState (List Note)) → HasClasses major classes d → DrrNode major classes d
drr-node major classes d e = option_and_then_some (λ (n : Node (List Note)). classes_of n.own.discipline) (qdisc major d) classes e (λ n there at. by n n.own.discipline refl there at)
  where
    by : (n : Node (List Note)) (k : Discipline) → n.own.discipline ≡ k → qdisc major d ≡ Some n → classes_of k ≡ Some classes → DrrNode major classes d
    by n (Drr s) is there at = record { node = n; schedule = s; there = there; discipline = is; same = same_Some s.classes classes at }
    by n (Fifo limit queue) is there at = absurd (none-some classes at)
    by n (Prio priomap) is there at = absurd (none-some classes at)
    by n (Tbf bucket limit) is there at = absurd (none-some classes at)
    by n (FqCodel s) is there at = absurd (none-some classes at)

pub is-class : (major : ℕ) (classes : List Class) (d : DeviceState (List Note)) → IsKept d → HasClasses major classes d → (c quantum : ℕ)
    → has_class c classes ≡ true → quantum_of c classes ≡ quantum → IsClass major c quantum d
is-class major classes d kept e c quantum has is =
    let at = drr-node major classes d e in
    let s : Schedule = at.schedule in
    let n : Node (List Note) = at.node in
    let law = drr-lawful major d n s kept at.there at.discipline in
    let size : length s.classes ≡ length (children n) = exact-length (λ c. is_active c s.active) s.classes (map beneath (children n)) law.exact ∙ length-map (children n) beneath in
    let child = child-of c s.classes (children n) size (ap (has_class c) at.same ∙ has) in
    let found : class_in major c d ≡ class_of c n (Drr s) = ap (option_and_then (λ (n : Node (List Note)). class_of c n n.own.discipline)) at.there ∙ ap (class_of c n) at.discipline in
    record {
      class = record { schedule = s; noted = n.memory; child = child.0 };
      there = found ∙ ap (option_map (λ k. record { schedule = s; noted = n.memory; child = k })) (child-at c s.classes (children n) ∙ child.1);
      same_quantum = ap (quantum_of c) at.same ∙ is;
    }

pub classes-differ : (major : ℕ) (classes : List Class) (d : DeviceState (List Note)) → IsKept d → HasClasses major classes d → ClassesDiffer classes
classes-differ major classes d kept e =
    let at = drr-node major classes d e in
    let law = drr-lawful major d at.node at.schedule kept at.there at.discipline in
    subst ClassesDiffer at.same (differ_from_pairs (λ (c : Class). c.name) at.schedule.classes law.schedule.classes_differ)

-- ---- each class has its own quantum

abbrev pub IsOwn : List Class → Class → Type 0
IsOwn classes c = (has_class c.name classes ≡ true) × (quantum_of c.name classes ≡ c.quantum)

pub own-quanta : (classes : List Class) → ClassesDiffer classes → All (IsOwn classes) classes
own-quanta [] differ = All-nil (IsOwn [])
own-quanta (k ∷ classes) differ =
    let here : eqb k.name k.name ≡ true = eq-eqb k.name k.name refl in
    All-cons (IsOwn (k ∷ classes)) k classes (or_left (eqb k.name k.name) (has_class k.name classes) here, quantum_here k.name k classes here) (behind classes (own-quanta classes differ.1))
  where
    other : (c : Class) → has_class c.name classes ≡ true → eqb c.name k.name ≡ false
    other c has = ne_eqb c.name k.name (λ same. false≢true (sym differ.0 ∙ ap (λ m. has_class m classes) (sym same) ∙ has))

    behind : (cs : List Class) → All (IsOwn classes) cs → All (IsOwn (k ∷ classes)) cs
    behind [] h = All-nil (IsOwn (k ∷ classes))
    behind (c ∷ cs) h =
        let first : IsOwn classes c = All-head (IsOwn classes) c cs h in
        let far : eqb c.name k.name ≡ false = other c first.0 in
        All-cons (IsOwn (k ∷ classes)) c cs (
          or_right (eqb c.name k.name) (has_class c.name classes) first.0,
          quantum_behind c.name k classes far ∙
              first.1,
        ) (behind cs (All-tail (IsOwn classes) c cs h))

-- ---- the sum

-- Class i has quantum a and sent `s` of the bytes `sent`, as each class did; of those `own` count, and k products with each other quantum may
-- lack. p is a longest packet less a byte.
module _ (i a s own k p : ℕ) (sent : Class → ℕ) where
  abbrev pub IsWithin : Class → Type 0
  IsWithin c = sent c * a ≤ own * c.quantum + k * (a * c.quantum) + p * (a + c.quantum)

  -- others whose quanta are R together and whose number is m
  abbrev AreWithin : ℕ → ℕ → ℕ → Type 0
  AreWithin total m R = total * a ≤ own * R + k * (a * R) + p * (m * a + R)

  one-more : (x t q m R : ℕ) → x * a ≤ own * q + k * (a * q) + p * (a + q) → AreWithin t m R → AreWithin (x + t) (suc m) (q + R)
  one-more x t q m R first rest =
      let left : (x + t) * a ≡ x * a + t * a = add-mul x t a in
      let sends : own * (q + R) ≡ own * q + own * R = mul-add own q R in
      let quanta : k * (a * (q + R)) ≡ k * (a * q) + k * (a * R) = ap (λ n. k * n) (mul-add a q R) ∙ mul-add k (a * q) (a * R) in
      let packets : p * (suc m * a + (q + R)) ≡ p * (a + q) + p * (m * a + R) = ap (λ n. p * n) (omega arith) ∙ mul-add p (a + q) (m * a + R) in
      omega (arith, first, rest, left, sends, quanta, packets)

  all-within : (cs : List Class) → All IsWithin cs → AreWithin (sum_by sent cs) (length cs) (quanta_of cs)
  all-within [] h = omega arith
  all-within (c ∷ cs) h =
      subst (λ t. AreWithin t (suc (length cs)) (quanta_of (c ∷ cs))) (sym (sum_by-cons sent c cs))
      (subst (AreWithin (sent c + sum_by sent cs) (suc (length cs))) (sym (sum_by-cons (λ (k : Class). k.quantum) c cs))
      (one-more (sent c) (sum_by sent cs) c.quantum (length cs) (quanta_of cs) (All-head IsWithin c cs h) (all-within cs (All-tail IsWithin c cs h))))

  -- the others apart from class i
  record Others (cs : List Class) : Type 0 where
    total : ℕ
    number : ℕ
    quanta : ℕ
    all : sum_by sent cs ≡ s + total
    size : length cs ≡ suc number
    whole : quanta_of cs ≡ a + quanta
    within : AreWithin total number quanta

  others-within : (cs : List Class) → All IsWithin cs → ((c : Class) → c.name ≡ i → sent c ≡ s) → All (λ (c : Class). c.name ≡ i → c.quantum ≡ a) cs → has_class i cs ≡ true → Others cs
  others-within [] h mine quantum has = absurd (false≢true has)
  others-within (c ∷ cs) h mine quantum has = elim (cases_Bool (eqb i c.name)) [
    | inl here ↦
        let name : c.name ≡ i = sym (eqb-true i c.name here) in
        record {
          total = sum_by sent cs;
          number = length cs;
          quanta = quanta_of cs;
          all = sum_by-cons sent c cs ∙ ap (λ n. n + sum_by sent cs) (mine c name);
          size = refl;
          whole = sum_by-cons (λ (k : Class). k.quantum) c cs ∙ ap (λ n. n + quanta_of cs) (All-head (λ (c : Class). c.name ≡ i → c.quantum ≡ a) c cs quantum name);
          within = all-within cs (All-tail IsWithin c cs h);
        }
    | inr there ↦
        let rest = others-within cs (All-tail IsWithin c cs h) mine (All-tail (λ (c : Class). c.name ≡ i → c.quantum ≡ a) c cs quantum) (sym (ap (λ t. t || has_class i cs) there) ∙ has) in
        record {
          total = sent c + rest.total;
          number = suc rest.number;
          quanta = c.quantum + rest.quanta;
          all = let sum = rest.all in omega (arith, sum, sum_by-cons sent c cs);
          size = ap suc rest.size;
          whole = let sum = rest.whole in omega (arith, sum, sum_by-cons (λ (k : Class). k.quantum) c cs);
          within = one-more (sent c) rest.total c.quantum rest.number rest.quanta (All-head IsWithin c cs h) rest.within;
        }
  ]

  -- what all sent is what class i did and a total of which, with what counts of class i, that is its part
  pub record Part (all size whole : ℕ) : Type 0 where
    pub total : ℕ
    pub sum : all ≡ s + total
    pub part : (own + total) * a ≤ own * whole + k * (a * (whole - a)) + p * ((size - 1) * a + (whole - a))

  part-is : (total number quanta all size whole : ℕ) → all ≡ s + total → size ≡ suc number → whole ≡ a + quanta → AreWithin total number quanta → Part all size whole
  part-is total number quanta all size whole sum count quanta_are within =
      let left : (own + total) * a ≡ own * a + total * a = add-mul own total a in
      let right : own * whole ≡ own * a + own * quanta = ap (λ n. own * n) quanta_are ∙ mul-add own a quanta in
      let rest : whole - a ≡ quanta = omega (arith, quanta_are) in
      let fewer : size - 1 ≡ number = omega (arith, count) in
      record {
        total = total;
        sum = sum;
        part = subst (λ r. (own + total) * a ≤ own * whole + k * (a * r) + p * ((size - 1) * a + r)) (sym rest)
            (subst (λ m. (own + total) * a ≤ own * whole + k * (a * quanta) + p * (m * a + quanta)) (sym fewer) (omega (arith, left, right, within)));
      }

-- ---- over a stretch

-- at each point of a stretch a device is one that is kept
pub kept-at : (settings : DeviceSettings) → IsInRange settings → (before during : List Event) → All IsEvent before → All IsEvent during
    → (seen later : List Event) → seen ++ later ≡ during → IsKept (device_after settings (before ++ seen))
kept-at settings range before during all_before all_during seen later e =
    replay-kept settings (before ++ seen) range (All-append IsEvent before seen all_before (All-front IsEvent seen later (subst (All IsEvent) (sym e) all_during)))

-- class i stands among the classes, with its quantum
pub record Stands (i quantum : ℕ) (classes : List Class) : Type 0 where
  pub has : has_class i classes ≡ true
  pub own : quantum_of i classes ≡ quantum

pub stands-among : (major i quantum : ℕ) (classes : List Class) (d : DeviceState (List Note)) → HasClasses major classes d → IsBackloggedClass major i quantum d → Stands i quantum classes
stands-among major i quantum classes d e h =
    let node = class-node major i d h.class h.there in
    let drr = drr-node major classes d e in
    let same : h.class.schedule.classes ≡ classes =
    classes-are h.class.schedule drr.schedule
    (sym node.discipline ∙ ap (λ (n : Node (List Note)). n.own.discipline) (same_Some node.node drr.node (sym node.there ∙ drr.there))
    ∙ drr.discipline) ∙ drr.same in
    record {
      has = ap (has_class i) (sym same) ∙ child-has i h.class.schedule.classes (children node.node) h.class.child node.child;
      own = ap (quantum_of i) (sym same) ∙ h.same_quantum;
    }
  where
    classes-are : (s t : Schedule) → ◌≡◌ {A = Discipline} (Drr s) (Drr t) → s.classes ≡ t.classes
    classes-are s t e = cc

module _ (settings : DeviceSettings) (range : IsInRange settings) (before during : List Event) (all_before : All IsEvent before)
    (all_during : All IsEvent during) (major i quantum : ℕ) (classes : List Class)
    (there : Throughout (HasClasses major classes) settings before during) (stays : Throughout (IsBackloggedClass major i quantum) settings before during) where
  abbrev sent : ℕ → ℕ
  sent c = class_sent major c (device_after settings before) during

  at_first : HasClasses major classes (device_after settings before)
  at_first = at-start (HasClasses major classes) settings before during there

  pub stands : Stands i quantum classes
  stands = stands-among major i quantum classes (device_after settings before) at_first (at-start (IsBackloggedClass major i quantum) settings before during stays)

  owned : All (IsOwn classes) classes
  owned = own-quanta classes (classes-differ major classes (device_after settings before) (replay-kept settings before range all_before) at_first)

  -- each class is there throughout, with its quantum
  pub all-there : (c : Class) → IsOwn classes c → Throughout (IsClass major c.name c.quantum) settings before during
  all-there c own seen later e =
      is-class major classes (device_after settings (before ++ seen)) (kept-at settings range before during all_before all_during seen later e) (there seen later e) c.name c.quantum own.0 own.1

  quanta-are : (cs : List Class) → All (IsOwn classes) cs → All (λ (c : Class). c.name ≡ i → c.quantum ≡ quantum) cs
  quanta-are [] h = All-nil (λ (c : Class). c.name ≡ i → c.quantum ≡ quantum)
  quanta-are (c ∷ cs) h =
      let own = stands.own in
      All-cons (λ (c : Class). c.name ≡ i → c.quantum ≡ quantum) c cs
      (λ e. sym (All-head (IsOwn classes) c cs h).1 ∙ ap (λ m. quantum_of m classes) e ∙ own) (quanta-are cs (All-tail (IsOwn classes) c cs h))

  -- Where so many bytes of class i count, beside which each other class has what is within them.
  module _ (own k : ℕ) where
    abbrev pub Within : Class → Type 0
    Within c = IsWithin i quantum (sent i) own k (settings.mtu - 1) (λ (c : Class). sent c.name) c

    each : ((c : Class) → IsOwn classes c → Within c) → (cs : List Class) → All (IsOwn classes) cs → All Within cs
    each one [] h = All-nil Within
    each one (c ∷ cs) h = All-cons Within c cs (one c (All-head (IsOwn classes) c cs h)) (each one cs (All-tail (IsOwn classes) c cs h))

    pub its-part : ((c : Class) → IsOwn classes c → Within c)
        → Part i quantum (sent i) own k (settings.mtu - 1) (λ (c : Class). sent c.name) (all_sent major classes (device_after settings before) during) (length classes) (quanta_of classes)
    its-part one =
        let p : ℕ = settings.mtu - 1 in
        let o = others-within i quantum (sent i) own k p (λ (c : Class). sent c.name) classes (each one classes owned) (λ c e. ap sent e) (quanta-are classes owned) stands.has in
        part-is i quantum (sent i) own k p (λ (c : Class). sent c.name) o.total o.number o.quanta
        (all_sent major classes (device_after settings before) during) (length classes) (quanta_of classes) o.all o.size
        o.whole o.within

    -- with class i itself, of which no more than two products lack
    pub own-part : (sent i * quantum ≤ own * quantum + k * (quantum * quantum) + (settings.mtu - 1) * (quantum + quantum))
        → ((c : Class) → IsOwn classes c → eqb i c.name ≡ false → Within c) → (c : Class) → IsOwn classes c → Within c
    own-part itself others c owned = elim (cases_Bool (eqb i c.name)) [
      | inl same ↦
          let name : i ≡ c.name = eqb-true i c.name same in
          let q : quantum ≡ c.quantum = sym stands.own ∙ ap (λ m. quantum_of m classes) name ∙ owned.1 in
          subst (λ m. sent m * quantum ≤ own * c.quantum + k * (quantum * c.quantum) + (settings.mtu - 1) * (quantum + c.quantum)) name
          (subst (λ m. sent i * quantum ≤ own * m + k * (quantum * m) + (settings.mtu - 1) * (quantum + m)) q itself)
      | inr apart ↦ others c owned apart
    ]

pub classes-get-their-parts : (settings : DeviceSettings) → IsInRange settings → ClassesGetTheirParts settings
classes-get-their-parts settings range before during major i quantum classes all_before all_during there stays =
    let start : DeviceState (List Note) = device_after settings before in
    let h = at-start (IsBackloggedClass major i quantum) settings before during stays in
    let k = at-end (IsBackloggedClass major i quantum) settings before during stays in
    let own : ℕ = class_sent major i start during in
    let p = its-part settings range before during all_before all_during major i quantum classes there stays own 2
    (own-part settings range before during all_before all_during major i quantum classes there stays own 2 (omega arith) (λ c owned apart.
    (class-against-any settings range before during major i c.name quantum c.quantum h.class k.class (eqb-false i c.name apart) all_before all_during stays
    (all-there settings range before during all_before all_during major i quantum classes there stays c owned) h.there k.there).in_quanta)) in
    let part = p.part in
    let same : (own + p.total) * quantum ≡ all_sent major classes start during * quantum = ap (λ n. n * quantum) (sym p.sum) in
    omega (arith, part, same)
