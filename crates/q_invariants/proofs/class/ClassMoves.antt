-- What one event, and then a stretch of events, comes to at a class of a drr, and at two classes of one.
use Rattle.std.proofs.Common.{◌≡◌, ◌≢◌, ℕ, ◌+◌, ◌-◌, ◌*◌, ◌<◌, ◌≤◌, true, false, eqb, not, inl, inr, List, [], ◌∷◌, ◌++◌, map, refl, sym, ap, subst, ◌∙◌, Option, Some, None, option_map, option_and_then, arith, suc}
use Rattle.std.specs.Prelude.{All, slice_get, IsSomeAnd}
use Rattle.std.proofs.Math.Nat.{add-mul}
use Rattle.std.proofs.lemmas.Bool.{cases_Bool, eqb-true}
use Rattle.std.proofs.lemmas.List.{append-nil, append_assoc}
use Rattle.std.proofs.lemmas.List.Elements.{All-head, All-tail}
use Rattle.std.proofs.lemmas.List.Sums.{sum_by-append}
use Rattle.std.proofs.lemmas.Option.{none-some, same_Some, option_and_then_some}
use Rattle.q_packet.specs.Descriptor.{Descriptor}
use Rattle.q_drr.specs.Schedule.{Class, Entry, Schedule, is_active, quantum_of, deficit_of, IsEntry}
use Rattle.q_drr.specs.Stretch.{stands_first}
use Rattle.q_drr.proofs.DifferLemmas.{differ_from_pairs}
use Rattle.q_drr.proofs.LookupLemmas.{deficit_here, deficit_behind}
use Rattle.q_model.specs.declared.event.Event.{Event}
use Rattle.q_model.specs.declared.event.Event.TheVariants as event
use Rattle.q_model.specs.Events.{IsEvent}
use Rattle.q_model.specs.Tally.{Note, history}
use Rattle.q_model.specs.Node.{Discipline, Fifo, Prio, Tbf, Drr, FqCodel, Node, children, shape, each}
use Rattle.q_model.specs.Beneath.{beneath_own, beneath, is_empty}
use Rattle.q_model.specs.Route.{class_at}
use Rattle.q_model.specs.Ask.{length_of, ask}
use Rattle.q_model.specs.Lawful.{IsLawfulDiscipline, IsLawfulDrr}
use Rattle.q_model.specs.Step.{DeviceState, step}
use Rattle.q_model.specs.Stretches.{sent_by, bytes_sent, granted_by, grants_to, qdisc, ClassAt, class_of, class_in}
use Rattle.q_invariants.specs.Kept.{IsLawfulRoot}
use Rattle.q_invariants.proofs.class.AgainstTurns.{left_before}
use Rattle.q_invariants.proofs.class.ClassAsks.{asked-step}
use Rattle.q_invariants.proofs.class.ClassChildren.{child_for, child-at}
use Rattle.q_invariants.proofs.class.ClassLooks.{active-of}
use Rattle.q_invariants.proofs.class.ClassSteps.{DrrStep, Stays, put-step, same-schedule, same-step, edited-step}
use Rattle.q_invariants.proofs.class.TakeTurns.{one_if}
use Rattle.q_invariants.proofs.edit.EditLater.{root-later}
use Rattle.q_invariants.proofs.Replays.{IsKept, step-kept}
use Rattle.q_invariants.proofs.tree.Forests.{lawful-with_memory, each-nodes}
use Rattle.q_invariants.proofs.tree.StepNodes.{Becomes, becomes, clock-rises}
use Rattle.q_invariants.proofs.tree.Within.{found, lawful-of}

-- ---- what stands in a device

pub record ClassNode (major minor : ℕ) (d : DeviceState (List Note)) (x : ClassAt) : Type 0 where
  pub node : Node (List Note)
  pub there : qdisc major d ≡ Some node
  pub discipline : node.own.discipline ≡ Drr x.schedule
  pub noted : node.memory ≡ x.noted
  pub child : child_for minor x.schedule.classes (children node) ≡ Some x.child

pub class-node : (major minor : ℕ) (d : DeviceState (List Note)) (x : ClassAt) → class_in major minor d ≡ Some x → ClassNode major minor d x
class-node major minor d x e = option_and_then_some (λ (n : Node (List Note)). class_of minor n n.own.discipline) (qdisc major d) x e (λ n there at. by n n.own.discipline refl there at)
  where
    child : (n : Node (List Note)) (s : Schedule) (o : Option (Node (List Note))) → n.own.discipline ≡ Drr s → qdisc major d ≡ Some n → option_and_then (slice_get (children n)) (class_at minor s) ≡ o
        → option_map (λ c. record { schedule = s; noted = n.memory; child = c }) o ≡ Some x → ClassNode major minor d x
    child n s None is there found at = absurd (none-some x at)
    child n s (Some c) is there found at =
        let same : record { schedule = s; noted = n.memory; child = c } ≡ x = same_Some (record { schedule = s; noted = n.memory; child = c }) x at in
        subst (ClassNode major minor d) same (record { node = n; there = there; discipline = is; noted = refl; child = sym (child-at minor s.classes (children n)) ∙ found })

    by : (n : Node (List Note)) (k : Discipline) → n.own.discipline ≡ k → qdisc major d ≡ Some n → class_of minor n k ≡ Some x → ClassNode major minor d x
    by n (Drr s) is there at = child n s (option_and_then (slice_get (children n)) (class_at minor s)) is there refl at
    by n (Fifo limit queue) is there at = absurd (none-some x at)
    by n (Prio priomap) is there at = absurd (none-some x at)
    by n (Tbf bucket limit) is there at = absurd (none-some x at)
    by n (FqCodel s) is there at = absurd (none-some x at)

-- its drr is lawful
pub drr-lawful : (major : ℕ) (d : DeviceState (List Note)) (n : Node (List Note)) (s : Schedule) → IsKept d → qdisc major d ≡ Some n
    → n.own.discipline ≡ Drr s → IsLawfulDrr d.tree.device.mtu s (map beneath (children n))
drr-lawful major d n s kept there is =
    let f = found major d n there in
    let law = (lawful-of d.tree.device.mtu d.clock n d.tree.root kept.lawful f.there).0.discipline in
    subst (λ (b : List (List Descriptor)). IsLawfulDrr d.tree.device.mtu s b) (each-nodes beneath_own n.below) (subst (IsLawfulDiscipline d.tree.device.mtu d.clock (each beneath_own n.below)) is law)

-- a class whose child has something is active
pub backlogged-active : (major minor : ℕ) (d : DeviceState (List Note)) (x : ClassAt) → IsKept d → ClassNode major minor d x → is_empty x.child ≡ false → is_active minor x.schedule.active ≡ true
backlogged-active major minor d x kept at queued =
    let law = drr-lawful major d at.node x.schedule kept at.there at.discipline in
    active-of (λ c. is_active c x.schedule.active) x.schedule.classes (children at.node) minor x.child law.exact at.child ∙ ap not queued

-- ---- one event

pub drr-step : (major : ℕ) (d : DeviceState (List Note)) (e : Event) (n after : Node (List Note)) (s t : Schedule) → IsKept d → IsEvent e
    → qdisc major d ≡ Some n → qdisc major (step history d e).device ≡ Some after
    → n.own.discipline ≡ Drr s → after.own.discipline ≡ Drr t → DrrStep (step history d e).device.clock s t n after
drr-step major d e n after s t kept range there later is now_is = by e kept_after (clock-rises d e) now_is (becomes major d e n after kept range there later)
  where
    mtu : ℕ
    mtu = d.tree.device.mtu

    kept_after : IsKept (step history d e).device
    kept_after = step-kept d e kept range

    law : IsLawfulDrr d.tree.device.mtu s (map beneath (children n))
    law = drr-lawful major d n s kept there is

    here : (now : ℕ) → d.clock ≤ now → IsLawfulRoot d.tree.device.mtu now (shape n)
    here now rises =
        let f = found major d n there in
        lawful-with_memory d.tree.device.mtu now (λ m. tt) n (lawful-of d.tree.device.mtu now n d.tree.root (root-later d.clock now rises d.tree.device.mtu d.tree.root kept.lawful) f.there)

    by : (e : Event) → IsKept (step history d e).device → d.clock ≤ (step history d e).device.clock → after.own.discipline ≡ Drr t
        → Becomes (step history d e).device.clock e n after → DrrStep (step history d e).device.clock s t n after
    by (event.Arrive p moment) kept_then rises now_is h = put-step (step history d (event.Arrive p moment)).device.clock n s is p after t now_is h
    by (event.Poll moment) kept_then rises now_is h =
        asked-step d.tree.device.mtu (step history d (event.Poll moment)).device.clock kept.least_mtu kept_then.moment n s is law.schedule
        law.longest (here (step history d (event.Poll moment)).device.clock rises) after t now_is h
    by (event.Command c moment) kept_then rises now_is (inl same) = same-step (step history d (event.Command c moment)).device.clock n s is after t now_is same
    by (event.Command c moment) kept_then rises now_is (inr edit) =
        edited-step (step history d (event.Command c moment)).device.clock n s is law.schedule (differ_from_pairs (λ (c : Class). c.name) s.classes law.schedule.classes_differ) after t now_is edit

-- ---- one class

pub record ClassMoves (minor : ℕ) (x y : ClassAt) : Type 0 where
  pub notes : List Note
  pub given : List Note
  pub is : y.noted ≡ x.noted ++ notes
  pub gives : y.child.memory ≡ x.child.memory ++ given
  pub books : bytes_sent given + deficit_of minor y.schedule.active ≡ grants_to minor notes * quantum_of minor x.schedule.classes + deficit_of minor x.schedule.active

pub class-moves : (major minor : ℕ) (d : DeviceState (List Note)) (e : Event) (x y : ClassAt) → IsKept d → IsEvent e → class_in major minor d ≡ Some x
    → class_in major minor (step history d e).device ≡ Some y
    → is_empty x.child ≡ false → is_empty y.child ≡ false → quantum_of minor y.schedule.classes ≡ quantum_of minor x.schedule.classes → ClassMoves minor x y
class-moves major minor d e x y kept range is at queued queued_then quantum =
    let a = class-node major minor d x is in
    let b = class-node major minor (step history d e).device y at in
    let s = drr-step major d e a.node b.node x.schedule y.schedule kept range a.there b.there a.discipline b.discipline in
    let stays : Stays minor x.schedule y.schedule = record {
      before = backlogged-active major minor d x kept a queued;
      after = backlogged-active major minor (step history d e).device y (step-kept d e kept range) b queued_then;
    } in
    let c = s.class minor x.child y.child a.child b.child stays quantum queued_then in
    record {
      notes = s.notes;
      given = c.given;
      is = sym b.noted ∙ s.is ∙ ap (λ ns. ns ++ s.notes) a.noted;
      gives = c.gives;
      books = c.books;
    }

pub more-class-moves : (minor : ℕ) (x y z : ClassAt) → quantum_of minor y.schedule.classes ≡ quantum_of minor x.schedule.classes → ClassMoves minor x y → ClassMoves minor y z → ClassMoves minor x z
more-class-moves minor x y z quantum a b =
    let q : ℕ = quantum_of minor x.schedule.classes in
    let grants = sum_by-append (granted_by minor) a.notes b.notes in
    let sent = sum_by-append sent_by a.given b.given in
    let product : grants_to minor (a.notes ++ b.notes) * q ≡ grants_to minor a.notes * q + grants_to minor b.notes * q =
    ap (λ k. k * q) grants ∙ add-mul (grants_to minor a.notes) (grants_to minor b.notes) q in
    let same = ap (λ k. grants_to minor b.notes * k) quantum in
    record {
      notes = a.notes ++ b.notes;
      given = a.given ++ b.given;
      is = b.is ∙ ap (λ ns. ns ++ b.notes) a.is ∙ append_assoc x.noted a.notes b.notes;
      gives = b.gives ∙ ap (λ ns. ns ++ b.given) a.gives ∙ append_assoc x.child.memory a.given b.given;
      books = let first = a.books in let second = b.books in omega (arith, product, same, sent, first, second);
    }

pub no-class-moves : (minor : ℕ) (x : ClassAt) → ClassMoves minor x x
no-class-moves minor x = record { notes = []; given = []; is = sym (append-nil x.noted); gives = sym (append-nil x.child.memory); books = omega arith }

-- ---- two classes of one drr

pub record PairMoves (i j : ℕ) (x y : ClassAt) : Type 0 where
  pub notes : List Note
  pub is : y.noted ≡ x.noted ++ notes
  pub even : grants_to i notes + one_if (stands_first i j y.schedule.active) ≡ grants_to j notes + one_if (stands_first i j x.schedule.active)

pub same-drr : (major i j : ℕ) (d : DeviceState (List Note)) (x z : ClassAt) → ClassNode major i d x → ClassNode major j d z → z.schedule ≡ x.schedule
same-drr major i j d x z a b =
    let node : b.node ≡ a.node = same_Some b.node a.node (sym b.there ∙ a.there) in
    sym (same-schedule z.schedule x.schedule (sym b.discipline ∙ ap (λ (n : Node (List Note)). n.own.discipline) node ∙ a.discipline))

pub pair-moves : (major i j : ℕ) (d : DeviceState (List Note)) (e : Event) (x y z w : ClassAt) → i ≢ j → IsKept d → IsEvent e
    → class_in major i d ≡ Some x → class_in major i (step history d e).device ≡ Some y → class_in major j d ≡ Some z → class_in major j (step history d e).device ≡ Some w
    → is_empty x.child ≡ false → is_empty y.child ≡ false → is_empty z.child ≡ false → is_empty w.child ≡ false → PairMoves i j x y
pair-moves major i j d e x y z w apart kept range is_x is_y is_z is_w queued_x queued_y queued_z queued_w =
    let next : DeviceState (List Note) = (step history d e).device in
    let kept_then : IsKept next = step-kept d e kept range in
    let a = class-node major i d x is_x in
    let b = class-node major i next y is_y in
    let f = class-node major j d z is_z in
    let g = class-node major j next w is_w in
    let s = drr-step major d e a.node b.node x.schedule y.schedule kept range a.there b.there a.discipline b.discipline in
    let first : Stays i x.schedule y.schedule = record { before = backlogged-active major i d x kept a queued_x; after = backlogged-active major i next y kept_then b queued_y } in
    let second : Stays j x.schedule y.schedule = record {
      before = ap (λ (u : Schedule). is_active j u.active) (sym (same-drr major i j d x z a f)) ∙ backlogged-active major j d z kept f queued_z;
      after = ap (λ (u : Schedule). is_active j u.active) (sym (same-drr major i j next y w b g)) ∙ backlogged-active major j next w kept_then g queued_w;
    } in
    record { notes = s.notes; is = sym b.noted ∙ s.is ∙ ap (λ ns. ns ++ s.notes) a.noted; even = s.even i j apart first second }

pub more-pair-moves : (i j : ℕ) (x y z : ClassAt) → PairMoves i j x y → PairMoves i j y z → PairMoves i j x z
more-pair-moves i j x y z a b = record {
  notes = a.notes ++ b.notes;
  is = b.is ∙ ap (λ ns. ns ++ b.notes) a.is ∙ append_assoc x.noted a.notes b.notes;
  even = let first = a.even in let second = b.even in omega (arith, sum_by-append (granted_by i) a.notes b.notes, sum_by-append (granted_by j) a.notes b.notes, first, second);
}

pub no-pair-moves : (i j : ℕ) (x : ClassAt) → PairMoves i j x x
no-pair-moves i j x = record { notes = []; is = sym (append-nil x.noted); even = refl }

-- ---- a class against another, which stays backlogged

pub record AgainstMoves (i j : ℕ) (x y z w : ClassAt) : Type 0 where
  pub notes : List Note
  pub is : y.noted ≡ x.noted ++ notes
  pub within : (bytes_sent w.child.memory - bytes_sent z.child.memory) + left_before i j (quantum_of j z.schedule.classes) y.schedule.active
      ≤ grants_to i notes * quantum_of j z.schedule.classes + left_before i j (quantum_of j z.schedule.classes) x.schedule.active

pub against-moves : (major i j : ℕ) (d : DeviceState (List Note)) (e : Event) (x y z w : ClassAt) → i ≢ j → IsKept d → IsEvent e
    → class_in major i d ≡ Some x → class_in major i (step history d e).device ≡ Some y → class_in major j d ≡ Some z → class_in major j (step history d e).device ≡ Some w
    → is_empty x.child ≡ false → is_empty y.child ≡ false → quantum_of j w.schedule.classes ≡ quantum_of j z.schedule.classes → AgainstMoves i j x y z w
against-moves major i j d e x y z w apart kept range is_x is_y is_z is_w queued_x queued_y quantum =
    let next : DeviceState (List Note) = (step history d e).device in
    let a = class-node major i d x is_x in
    let b = class-node major i next y is_y in
    let f = class-node major j d z is_z in
    let g = class-node major j next w is_w in
    let s = drr-step major d e a.node b.node x.schedule y.schedule kept range a.there b.there a.discipline b.discipline in
    let first : Stays i x.schedule y.schedule = record { before = backlogged-active major i d x kept a queued_x; after = backlogged-active major i next y (step-kept d e kept range) b queued_y } in
    let same : z.schedule ≡ x.schedule = same-drr major i j d x z a f in
    let same_then : w.schedule ≡ y.schedule = same-drr major i j next y w b g in
    let quantum_then : quantum_of j y.schedule.classes ≡ quantum_of j x.schedule.classes =
    ap (λ (u : Schedule). quantum_of j u.classes) (sym same_then) ∙ quantum ∙ ap (λ (u : Schedule). quantum_of j u.classes) same in
    let child : child_for j x.schedule.classes (children a.node) ≡ Some z.child = child-so x.schedule z.schedule a.node f.node z.child same (same_Some f.node a.node (sym f.there ∙ a.there)) f.child in
    let child_then : child_for j y.schedule.classes (children b.node) ≡ Some w.child =
    child-so y.schedule w.schedule b.node g.node w.child same_then (same_Some g.node b.node (sym g.there ∙ b.there)) g.child in
    record {
      notes = s.notes;
      is = sym b.noted ∙ s.is ∙ ap (λ ns. ns ++ s.notes) a.noted;
      within = subst (λ (u : Schedule). (bytes_sent w.child.memory - bytes_sent z.child.memory) + left_before i j (quantum_of j u.classes) y.schedule.active
          ≤ grants_to i s.notes * quantum_of j u.classes + left_before i j (quantum_of j u.classes) x.schedule.active) (sym same)
          (s.against i j z.child w.child apart first quantum_then child child_then);
    }
  where
    child-so : (s t : Schedule) (n m : Node (List Note)) (c : Node (List Note)) → t ≡ s → m ≡ n → child_for j t.classes (children m) ≡ Some c → child_for j s.classes (children n) ≡ Some c
    child-so s t n m c schedule node e = ap (λ (u : Schedule). child_for j u.classes (children n)) (sym schedule) ∙ ap (λ (k : Node (List Note)). child_for j t.classes (children k)) (sym node) ∙ e

-- ---- every deficit is below a quantum and the mtu

deficit-below : (max_len : ℕ) (classes : List Class) (c : ℕ) (es : List Entry) → 1 ≤ max_len → All (IsEntry max_len classes) es → deficit_of c es < quantum_of c classes + max_len
deficit-below max_len classes c [] least h = omega (arith, least)
deficit-below max_len classes c (e ∷ es) least h = elim (cases_Bool (eqb c e.class)) [
  | inl here ↦
      let first : IsEntry max_len classes e = All-head (IsEntry max_len classes) e es h in
      let bounded = first.bounded in
      omega (arith, bounded, deficit_here c e es here, ap (λ m. quantum_of m classes) (eqb-true c e.class here))
  | inr there ↦ subst (λ k. k < quantum_of c classes + max_len) (sym (deficit_behind c e es there)) (deficit-below max_len classes c es least (All-tail (IsEntry max_len classes) e es h))
]

pub deficit-bounded : (major minor : ℕ) (d : DeviceState (List Note)) (x : ClassAt) → IsKept d → class_in major minor d ≡ Some x
    → deficit_of minor x.schedule.active < quantum_of minor x.schedule.classes + d.tree.device.mtu
deficit-bounded major minor d x kept is =
    let a = class-node major minor d x is in
    let law = drr-lawful major d a.node x.schedule kept a.there a.discipline in
    subst (λ m. deficit_of minor x.schedule.active < quantum_of minor x.schedule.classes + m) law.longest
    (deficit-below x.schedule.max_len x.schedule.classes minor x.schedule.active (subst (λ m. 1 ≤ m) (sym law.longest) kept.least_mtu) law.schedule.entries)

pub same-noted : (major i j : ℕ) (d : DeviceState (List Note)) (x z : ClassAt) → ClassNode major i d x → ClassNode major j d z → z.noted ≡ x.noted
same-noted major i j d x z a b =
    let node : b.node ≡ a.node = same_Some b.node a.node (sym b.there ∙ a.there) in
    sym b.noted ∙ ap (λ (n : Node (List Note)). n.memory) node ∙ a.noted

-- ---- just before a grant

pub class-short : (major minor k : ℕ) (d : DeviceState (List Note)) (e : Event) (x y : ClassAt) → IsKept d → IsEvent e
    → class_in major minor d ≡ Some x → class_in major minor (step history d e).device ≡ Some y
    → grants_to minor y.noted ≡ grants_to minor x.noted + suc k
    → IsSomeAnd (length_of (ask (step history d e).device.clock (shape x.child))) (λ len. deficit_of minor x.schedule.active + k * quantum_of minor x.schedule.classes < len)
class-short major minor k d e x y kept range is at more =
    let a = class-node major minor d x is in
    let b = class-node major minor (step history d e).device y at in
    let s = drr-step major d e a.node b.node x.schedule y.schedule kept range a.there b.there a.discipline b.discipline in
    let whole : grants_to minor y.noted ≡ grants_to minor x.noted + grants_to minor s.notes =
    ap (grants_to minor) (sym b.noted ∙ s.is ∙ ap (λ ns. ns ++ s.notes) a.noted) ∙ sum_by-append (granted_by minor) x.noted s.notes in
    s.short minor k x.child a.child (omega (arith, whole, more))

-- ---- where a class wakes

pub class-wakes : (major minor : ℕ) (d : DeviceState (List Note)) (e : Event) (x y : ClassAt) → IsKept d → IsEvent e → class_in major minor d ≡ Some x
    → class_in major minor (step history d e).device ≡ Some y
    → is_empty x.child ≡ true → is_empty y.child ≡ false → deficit_of minor y.schedule.active ≡ quantum_of minor y.schedule.classes
class-wakes major minor d e x y kept range is at empty queued =
    let next : DeviceState (List Note) = (step history d e).device in
    let a = class-node major minor d x is in
    let b = class-node major minor next y at in
    let s = drr-step major d e a.node b.node x.schedule y.schedule kept range a.there b.there a.discipline b.discipline in
    let law = drr-lawful major d a.node x.schedule kept a.there a.discipline in
    let asleep : is_active minor x.schedule.active ≡ false = active-of (λ c. is_active c x.schedule.active) x.schedule.classes (children a.node) minor x.child law.exact a.child ∙ ap not empty in
    s.wakes minor asleep (backlogged-active major minor next y (step-kept d e kept range) b queued)
