-- A way to a class in a device is the way of the laws: drrs beneath one another, each class with its quantum, and all backlogged where
-- something is queued at the end.
use Rattle.std.proofs.Common.{◌≡◌, ℕ, zero, suc, ◌≤◌, Bool, true, false, inl, inr, List, [], ◌∷◌, ◌++◌, map, drop, length, refl, sym, ap, subst, ◌∙◌, Option, Some, None, option_map, option_and_then, eq-eqb, arith}
use Rattle.std.specs.Prelude.{◌==◌, All, slice_get, find}
use Rattle.std.specs.List.{flat_map}
use Rattle.std.specs.Option.{option_map_or, option_or, option_to_list}
use Rattle.std.proofs.lemmas.Bool.{cases_Bool, cond-true, cond-false, ne_eqb, true≢false}
use Rattle.std.proofs.lemmas.List.{length-append}
use Rattle.std.proofs.lemmas.List.Elements.{All-nil, All-cons}
use Rattle.std.proofs.lemmas.List.Folds.{find-append}
use Rattle.std.proofs.lemmas.Option.{none-some, same_Some}
use Rattle.q_packet.specs.Descriptor.{Descriptor}
use Rattle.q_drr.specs.Schedule.{Class, Schedule, quantum_of}
use Rattle.q_drr.proofs.DifferLemmas.{differ_from_pairs}
use Rattle.q_model.specs.Beneath.{beneath_own, beneath, packets_in, is_empty}
use Rattle.q_model.specs.Conserved.{nodes_of, every_node}
use Rattle.q_model.specs.Node.{Discipline, Fifo, Prio, Tbf, Drr, FqCodel, Own, Forest, none, more, Node, nodes_in, children, each}
use Rattle.q_model.specs.Step.{DeviceState}
use Rattle.q_model.specs.Stretches.{has_major, qdisc, ClassAt, class_of, class_in, IsBackloggedClass}
use Rattle.q_model.specs.Tally.{Note}
use Rattle.q_invariants.proofs.class.ClassMoves.{drr-lawful}
use Rattle.q_invariants.proofs.edit.EditHandles.{once-apart}
use Rattle.q_invariants.proofs.Replays.{IsKept}
use Rattle.q_invariants.proofs.tree.Members.{All-at}
use Rattle.q_invariants.proofs.tree.Within.{Within, IsOf, HasHandle, found, same-node}
use Rattle.q_tree.proofs.WayLemmas.{is-at}
use Rattle.q_tree.specs.answers.Ways.{DrrClass, class_of_drr, drr_class, drrs_on, share_of}
use Rattle.q_laws.specs.share.Delivered.{IsPart, level_of, levels_of}
use Rattle.q_laws.specs.share.InTime.{IsWay, last_level}
use Rattle.q_laws.specs.share.Service.{HasClasses, classes_of, quanta_of}

-- ---- the qdisc with a handle

find-left : {X : Type 0} (test : X → Bool) (xs ys : List X) (m : X) → find test xs ≡ Some m → find test (xs ++ ys) ≡ Some m
find-left test xs ys m e = find-append test xs ys ∙ ap (λ o. option_or o (find test ys)) e

find-right : {X : Type 0} (test : X → Bool) (xs ys : List X) (m : X) → find test ys ≡ Some m → (k : X) × (find test (xs ++ ys) ≡ Some k)
find-right {X} test xs ys m e = by (find test xs) refl
  where
    by : (o : Option X) → find test xs ≡ o → (k : X) × (find test (xs ++ ys) ≡ Some k)
    by None is = (m, find-append test xs ys ∙ ap (λ p. option_or p (find test ys)) is ∙ e)
    by (Some k) is = (k, find-append test xs ys ∙ ap (λ p. option_or p (find test ys)) is)

find-next : {X : Type 0} (test : X → Bool) (x : X) (xs : List X) (m : X) → find test xs ≡ Some m → (k : X) × (find test (x ∷ xs) ≡ Some k)
find-next test x xs m e = elim (cases_Bool (test x)) [
  | inl passes ↦ (x, cond-true (test x) (Some x) (find test xs) passes)
  | inr fails ↦ (m, cond-false (test x) (Some x) (find test xs) fails ∙ e)
]

module _ (h : ℕ) where
  passes : (n : Node (List Note)) → HasHandle h n → has_major h n ≡ true
  passes n e = ap (λ (o : Option ℕ). option_map_or (λ (k : ℕ). k == h) o false) e ∙ eq-eqb h h refl

  found-within : (n : Node (List Note)) (x : Forest (List Note)) → HasHandle h n → Within n x → (m : Node (List Note)) × (find (has_major h) (nodes_of x) ≡ Some m)
  found-within n none e w = absurd w
  found-within n (more own m below others) e (inl is) =
      let c : Node (List Note) = record { own = own; memory = m; below = below } in
      (c, cond-true (has_major h c) (Some c) (find (has_major h) (nodes_of below ++ nodes_of others)) (ap (has_major h) is ∙ passes n e))
  found-within n (more own m below others) e (inr (inl w)) =
      let c : Node (List Note) = record { own = own; memory = m; below = below } in
      let rest = found-within n below e w in
      find-next (has_major h) c (nodes_of below ++ nodes_of others) rest.0 (find-left (has_major h) (nodes_of below) (nodes_of others) rest.0 rest.1)
  found-within n (more own m below others) e (inr (inr w)) =
      let c : Node (List Note) = record { own = own; memory = m; below = below } in
      let rest = found-within n others e w in
      let both = find-right (has_major h) (nodes_of below) (nodes_of others) rest.0 rest.1 in
      find-next (has_major h) c (nodes_of below ++ nodes_of others) both.0 both.1

  found-of : (n root : Node (List Note)) → HasHandle h n → IsOf n root → (m : Node (List Note)) × (find (has_major h) (every_node root) ≡ Some m)
  found-of n root e (inl is) = (root, cond-true (has_major h root) (Some root) (find (has_major h) (nodes_of root.below)) (ap (has_major h) is ∙ passes n e))
  found-of n root e (inr w) = let rest = found-within n root.below e w in find-next (has_major h) root (nodes_of root.below) rest.0 rest.1

pub qdisc-of : (h : ℕ) (d : DeviceState (List Note)) (n : Node (List Note)) → IsKept d → HasHandle h n → IsOf n d.tree.root → qdisc h d ≡ Some n
qdisc-of h d n kept e there =
    let some = found-of h n d.tree.root e there in
    let f = found h d some.0 some.1 in
    some.1 ∙ ap Some (sym (same-node h n some.0 d.tree.root there f.there e f.handle (once-apart d.tree.root h kept.handles)))

-- what is within a node that is within another
within-within : (c n : Node (List Note)) (x : Forest (List Note)) → Within c n.below → Within n x → Within c x
within-within c n none below w = absurd w
within-within c n (more own m below others) inside (inl is) = inr (inl (subst (λ (k : Node (List Note)). Within c k.below) (sym is) inside))
within-within c n (more own m below others) inside (inr (inl w)) = inr (inl (within-within c n below inside w))
within-within c n (more own m below others) inside (inr (inr w)) = inr (inr (within-within c n others inside w))

child-of : (c : Node (List Note)) (x : Forest (List Note)) (i : ℕ) → slice_get (nodes_in x) i ≡ Some c → Within c x
child-of c none i e = absurd (none-some c e)
child-of c (more own m below others) zero e = inl (same_Some (record { own = own; memory = m; below = below }) c e)
child-of c (more own m below others) (suc i) e = inr (inr (child-of c others i e))

pub of-child : (c n root : Node (List Note)) (i : ℕ) → slice_get (children n) i ≡ Some c → IsOf n root → IsOf c root
of-child c n root i e (inl is) = inr (subst (λ (k : Node (List Note)). Within c k.below) (sym is) (child-of c n.below i e))
of-child c n root i e (inr w) = inr (within-within c n root.below (child-of c n.below i e) w)

-- ---- what is queued in a child is queued at its node

below-length : (x : Forest (List Note)) (i : ℕ) (c : Node (List Note)) → slice_get (nodes_in x) i ≡ Some c → length (beneath c) ≤ length (flat_map (λ packets. packets) (each beneath_own x))
below-length none i c e = absurd (none-some c e)
below-length (more own m below others) zero c e =
    let same = ap (λ (k : Node (List Note)). length (beneath k)) (same_Some (record { own = own; memory = m; below = below }) c e) in
    let both = length-append (beneath_own own (each beneath_own below)) (flat_map (λ packets. packets) (each beneath_own others)) in
    omega (arith, same, both)
below-length (more own m below others) (suc i) c e =
    let both = length-append (beneath_own own (each beneath_own below)) (flat_map (λ packets. packets) (each beneath_own others)) in
    omega (arith, below-length others i c e, both)

pub queued-above : (n c : Node (List Note)) (i : ℕ) → slice_get (children n) i ≡ Some c → is_empty c ≡ false → is_empty n ≡ false
queued-above n c i e queued =
    let some : length (beneath c) ≡ 0 → ⊥ = λ zero_is. true≢false (sym (ap (λ k. k == 0) zero_is) ∙ queued) in
    let rest : List Descriptor = flat_map (λ packets. packets) (each beneath_own n.below) in
    let front = length-append (option_to_list n.own.held) (packets_in n.own.discipline) in
    let whole = length-append (option_to_list n.own.held ++ packets_in n.own.discipline) rest in
    let fits = below-length n.below i c e in
    ne_eqb (length (beneath n)) 0 (λ nothing. some (omega (arith, nothing, front, whole, fits)))

-- ---- one step of a way

pub record AtClass (i : ℕ) (own : Own) (d : DrrClass) : Type 0 where
  pub schedule : Schedule
  pub handle : own.handle ≡ Some d.major
  pub discipline : own.discipline ≡ Drr schedule
  pub classes : schedule.classes ≡ d.classes
  pub class : slice_get schedule.classes i ≡ Some d.class

at-class : (i : ℕ) (own : Own) (d : DrrClass) → drr_class i own ≡ Some d → AtClass i own d
at-class i own d e = by own.handle own.discipline refl refl e
  where
    from : (major : ℕ) (s : Schedule) (o : Option Class) → own.handle ≡ Some major → own.discipline ≡ Drr s → slice_get s.classes i ≡ o
        → option_map (λ (c : Class). record { major = major; class = c; classes = s.classes }) o ≡ Some d → AtClass i own d
    from major s None handle is at e = absurd (none-some d e)
    from major s (Some c) handle is at e =
        let one : DrrClass = record { major = major; class = c; classes = s.classes } in
        subst (AtClass i own) (same_Some one d e) (record { schedule = s; handle = handle; discipline = is; classes = refl; class = at })

    by : (o : Option ℕ) (k : Discipline) → own.handle ≡ o → own.discipline ≡ k → option_and_then (λ major. class_of_drr i major k) o ≡ Some d → AtClass i own d
    by None k handle is e = absurd (none-some d e)
    by (Some major) (Drr s) handle is e = from major s (slice_get s.classes i) handle is refl e
    by (Some major) (Fifo limit queue) handle is e = absurd (none-some d e)
    by (Some major) (Prio priomap) handle is e = absurd (none-some d e)
    by (Some major) (Tbf bucket limit) handle is e = absurd (none-some d e)
    by (Some major) (FqCodel s) handle is e = absurd (none-some d e)

pub record IsStep (i : ℕ) (path : List ℕ) (n : Node (List Note)) (d : DrrClass) (ds : List DrrClass) : Type 0 where
  pub at : AtClass i n.own d
  pub child : Node (List Note)
  pub there : slice_get (children n) i ≡ Some child
  pub rest : drrs_on path child ≡ Some ds

abbrev first_or : DrrClass → List DrrClass → DrrClass
first_or k [] = k
first_or k (d ∷ ds) = d

pub step-of : (i : ℕ) (path : List ℕ) (n : Node (List Note)) (d : DrrClass) (ds : List DrrClass) → drrs_on (i ∷ path) n ≡ Some (d ∷ ds) → IsStep i path n d ds
step-of i path n d ds e = by (drr_class i n.own) refl e
  where
    last : (k : DrrClass) (c : Node (List Note)) (o : Option (List DrrClass)) → drr_class i n.own ≡ Some k → slice_get (children n) i ≡ Some c → drrs_on path c ≡ o
        → option_map (λ (rest : List DrrClass). k ∷ rest) o ≡ Some (d ∷ ds) → IsStep i path n d ds
    last k c None class there is e = absurd (none-some (d ∷ ds) e)
    last k c (Some rest) class there is e =
        let same : (k ∷ rest) ≡ (d ∷ ds) = same_Some (k ∷ rest) (d ∷ ds) e in
        let first : k ≡ d = ap (first_or k) same in
        let others : rest ≡ ds = ap (λ (xs : List DrrClass). drop 1 xs) same in
        record { at = at-class i n.own d (class ∙ ap Some first); child = c; there = there; rest = is ∙ ap Some others }

    next : (k : DrrClass) (o : Option (Node (List Note))) → drr_class i n.own ≡ Some k → slice_get (children n) i ≡ o
        → option_map (λ (rest : List DrrClass). k ∷ rest) (option_and_then (drrs_on path) o) ≡ Some (d ∷ ds) → IsStep i path n d ds
    next k None class there e = absurd (none-some (d ∷ ds) e)
    next k (Some c) class there e = last k c (drrs_on path c) class there refl e

    by : (o : Option DrrClass) → drr_class i n.own ≡ o
        → option_and_then (λ (k : DrrClass). option_map (λ (rest : List DrrClass). k ∷ rest) (option_and_then (drrs_on path) (slice_get (children n) i))) o ≡ Some (d ∷ ds) → IsStep i path n d ds
    by None class e = absurd (none-some (d ∷ ds) e)
    by (Some k) class e = next k (slice_get (children n) i) class refl e

-- ---- in a device

module _ (dev : DeviceState (List Note)) (kept : IsKept dev) where
  -- a class on the way
  pub record OnWay (n child : Node (List Note)) (d : DrrClass) : Type 0 where
    pub is : qdisc d.major dev ≡ Some n
    pub has : HasClasses d.major d.classes dev
    pub class : ClassAt
    pub there : class_in d.major d.class.name dev ≡ Some class
    pub child_is : class.child ≡ child
    pub quantum : quantum_of d.class.name class.schedule.classes ≡ d.class.quantum
    pub part : IsPart (share_of d)

  pub on-way : (i : ℕ) (path : List ℕ) (n : Node (List Note)) (d : DrrClass) (ds : List DrrClass) → (s : IsStep i path n d ds) → IsOf n dev.tree.root → OnWay n s.child d
  on-way i path n d ds s within =
      let a = s.at in
      let t : Schedule = a.schedule in
      let q : qdisc d.major dev ≡ Some n = qdisc-of d.major dev n kept a.handle within in
      let law = drr-lawful d.major dev n t kept q a.discipline in
      let found_at = is-at t.classes i d.class (differ_from_pairs (λ (c : Class). c.name) t.classes law.schedule.classes_differ) a.class in
      record {
        is = q;
        has = ap (option_and_then (λ (m : Node (List Note)). classes_of m.own.discipline)) q ∙ ap classes_of a.discipline ∙ ap Some a.classes;
        class = record { schedule = t; noted = n.memory; child = s.child };
        there = ap (option_and_then (λ (m : Node (List Note)). class_of d.class.name m m.own.discipline)) q ∙ ap (class_of d.class.name n) a.discipline
            ∙ ap (λ (o : Option ℕ). option_map (λ (c : Node (List Note)). record { schedule = t; noted = n.memory; child = c }) (option_and_then (slice_get (children n)) o)) found_at.place
            ∙ ap (option_map (λ (c : Node (List Note)). record { schedule = t; noted = n.memory; child = c })) s.there;
        child_is = refl;
        quantum = found_at.quantum;
        part = record {
          positive = All-at (λ (c : Class). 1 ≤ c.quantum) t.classes i d.class law.schedule.quanta a.class;
          part = subst (λ cs. d.class.quantum ≤ quanta_of cs) a.classes found_at.part;
        };
      }

  -- The whole way, where the class at its end is backlogged: so is each class above it.
  pub record WholeWay (n : Node (List Note)) (d : DrrClass) (ds : List DrrClass) : Type 0 where
    pub way : IsWay (level_of d) (levels_of ds) dev
    pub parts : All IsPart (map share_of (d ∷ ds))
    pub queued : is_empty n ≡ false
    pub is : qdisc d.major dev ≡ Some n

  backlogged : (n child : Node (List Note)) (d : DrrClass) → OnWay n child d → is_empty child ≡ false → IsBackloggedClass d.major d.class.name d.class.quantum dev
  backlogged n child d o queued = record { class = o.class; there = o.there; same_quantum = o.quantum; queued = ap is_empty o.child_is ∙ queued }

  -- what is queued in the class at the end is queued in its child
  child-queued : (n child : Node (List Note)) (d : DrrClass) → OnWay n child d → IsBackloggedClass d.major d.class.name d.class.quantum dev → is_empty child ≡ false
  child-queued n child d o b = ap is_empty (sym o.child_is) ∙ ap (λ (c : ClassAt). is_empty c.child) (same_Some o.class b.class (sym o.there ∙ b.there)) ∙ b.queued

  pub whole-way : (path : List ℕ) (n : Node (List Note)) (d : DrrClass) (ds : List DrrClass) → drrs_on path n ≡ Some (d ∷ ds) → IsOf n dev.tree.root
      → IsBackloggedClass (last_level (level_of d) (levels_of ds)).major (last_level (level_of d) (levels_of ds)).minor (last_level (level_of d) (levels_of ds)).quantum dev → WholeWay n d ds
  whole-way [] n d ds e within b = absurd (let z = ap (λ (xs : List DrrClass). length xs) (same_Some [] (d ∷ ds) e) in omega (arith, z))
  whole-way (i ∷ path) n d [] e within b =
      let s = step-of i path n d [] e in
      let o = on-way i path n d [] s within in
      let queued = child-queued n s.child d o b in
      record {
        way = (o.has, b);
        parts = All-cons IsPart (share_of d) [] o.part (All-nil IsPart);
        queued = queued-above n s.child i s.there queued;
        is = o.is;
      }
  whole-way (i ∷ path) n d (k ∷ ds) e within b =
      let s = step-of i path n d (k ∷ ds) e in
      let o = on-way i path n d (k ∷ ds) s within in
      let rest = whole-way path s.child k ds s.rest (of-child s.child n dev.tree.root i s.there within) b in
      record {
        way = (o.has, backlogged n s.child d o rest.queued, record { class = o.class; there = o.there; child = rest.is ∙ ap Some (sym o.child_is) }, rest.way);
        parts = All-cons IsPart (share_of d) (map share_of (k ∷ ds)) o.part rest.parts;
        queued = queued-above n s.child i s.there rest.queued;
        is = o.is;
      }
