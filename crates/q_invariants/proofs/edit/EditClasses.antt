-- A drr with a class more, with a class less, and with another quantum.
use Rattle.std.proofs.Common.{◌≡◌, ℕ, zero, suc, ◌+◌, ◌-◌, ◌<◌, ◌≤◌, min, Bool, true, false, eqb, ◌||◌, not, cond, ltb, List, [], ◌∷◌, ◌++◌, length, map, take, drop, get_or, refl, sym, ap, ap₂, subst, ◌∙◌, Option, Some, None, inl, inr, arith}
use Rattle.std.specs.Prelude.{IfSome, option_map, slice_get, is_some, if◌then◌else◌, ◌==◌}
use Rattle.std.specs.List.{All, list_any, position, position_or_len, remove}
use Rattle.std.proofs.lemmas.Bool.{eqb-true, eq-eqb, false≢true, cases_Bool, cases_lt, lt-ltb, le-ltb, or_from, or_left, false_from_ne_true}
use Rattle.std.proofs.lemmas.Option.{none-some, same_Some, slice_get-get_or, slice_get-map}
use Rattle.std.proofs.lemmas.List.{length-map, map-append, take_all}
use Rattle.std.proofs.lemmas.List.Elements.{All-append, All-drop, All-filter, All-map, All-push, All-take, All-weaker}
use Rattle.std.proofs.lemmas.List.Quantifiers.{position-Some}
use Rattle.q_packet.specs.Descriptor.{Descriptor}
use Rattle.q_drr.specs.Schedule.{Class, Entry, Schedule, has_class, is_active, cut, added, removed, with_quantum, IsEntry}
use Rattle.q_drr.proofs.DifferLemmas.{ClassesDiffer, differ_from_pairs}
use Rattle.q_drr.proofs.NameLemmas.{eqb_swap}
use Rattle.q_drr.proofs.KeyLemmas.{others, has_push, has_others, has_map}
use Rattle.q_drr.proofs.ChangeLemmas.{quantum_set, added_lawful, removed_lawful, with_quantum_lawful}
use Rattle.q_model.specs.declared.class_id.ClassId.{ClassId}
use Rattle.q_model.specs.declared.filter.Filter.{Filter}
use Rattle.q_model.specs.Numbers.{IsMinor, IsQuantum}
use Rattle.q_model.specs.Filters.{names_class}
use Rattle.q_model.specs.Tally.{Note, history}
use Rattle.q_model.specs.Node.{Drr, Own, Node, Shape, Discipline, children, shape}
use Rattle.q_model.specs.Beneath.{packets_in, beneath}
use Rattle.q_model.specs.Conserved.{held_beneath}
use Rattle.q_model.specs.Find.{class_in}
use Rattle.q_model.specs.Edit.{keeps}
use Rattle.q_model.specs.QdiscCommands.{all_kept}
use Rattle.q_model.specs.ClassCommands.{with_new_quantum}
use Rattle.q_model.specs.Lawful.{IsLawfulDiscipline, IsLawfulDrr, IsLawfulOwn}
use Rattle.q_invariants.specs.Kept.{IsCountedRoot, IsLawfulRoot}
use Rattle.q_invariants.specs.Weights.{weigh}
use Rattle.q_invariants.proofs.class.ClassChildren.{all-stay}
use Rattle.q_invariants.proofs.class.Exact.{AreExact, exact-length, exact-others}
use Rattle.q_invariants.proofs.edit.EditChildren.{kids, kids_removed, removed_keeps, removed_goes, gone_one}
use Rattle.q_invariants.proofs.edit.EditFront.{front_and_new, leaves, front, front_fewer, remakes_front}
use Rattle.q_invariants.proofs.edit.EditNew.{IsNew, new_beneath, held-le-beneath}
use Rattle.q_invariants.proofs.edit.EditRemade.{waits, holds, times_in, own_changed, Remakes}
use Rattle.q_invariants.proofs.edit.EditRetuned.{own_lawful, children_lawful, children_counted, remakes_retuned}
use Rattle.q_invariants.proofs.edit.EditSuits.{gone_from, length-shape}
use Rattle.q_invariants.proofs.sums.Joined.{weigh-joined-cons}
use Rattle.q_invariants.proofs.tree.Members.{fails-at}

-- ---- a class that is there

none_passes : {X : Type 0} (test : X → Bool) (xs : List X) → ((k : ℕ) (d : X) → k < length xs → test (get_or xs k d) ≡ false) → list_any test xs ≡ false
none_passes test [] h = refl
none_passes test (x ∷ xs) h = or_from (test x) (list_any test xs) (h zero x (omega arith)) (none_passes test xs (λ k d lt. h (suc k) d (omega arith)))

position_before : {X : Type 0} (test : X → Bool) (xs : List X) → ltb (position_or_len test xs) (length xs) ≡ list_any test xs
position_before test [] = le-ltb 0 0 (omega arith)
position_before test (x ∷ xs) = elim (cases_Bool (test x)) [
  | inl t ↦
      let first : position_or_len test (x ∷ xs) ≡ 0 = ap (λ (b : Bool). cond (not b) (1 + position_or_len test xs) 0) t in
      lt-ltb (position_or_len test (x ∷ xs)) (suc (length xs)) (omega (arith, first)) ∙ sym (ap (λ b. b || list_any test xs) t)
  | inr f ↦
      let first : position_or_len test (x ∷ xs) ≡ 1 + position_or_len test xs = ap (λ (b : Bool). cond (not b) (1 + position_or_len test xs) 0) f in
      same_test (position_or_len test (x ∷ xs)) (position_or_len test xs) (length xs) first ∙ position_before test xs ∙ sym (ap (λ b. b || list_any test xs) f)
]
  where
    same_test : (a b n : ℕ) → a ≡ 1 + b → ltb a (suc n) ≡ ltb b n
    same_test a b n e = elim (cases_lt b n) [
      | inl lt ↦ lt-ltb a (suc n) (omega arith) ∙ sym (lt-ltb b n lt)
      | inr ge ↦ le-ltb a (suc n) (omega arith) ∙ sym (le-ltb b n ge)
    ]

position_there : {X : Type 0} (test : X → Bool) (xs : List X) → is_some (position test xs) ≡ list_any test xs
position_there test xs = of_test (ltb (position_or_len test xs) (length xs)) (position_or_len test xs) ∙ position_before test xs
  where
    of_test : (t : Bool) (n : ℕ) → is_some (cond t (Some n) None) ≡ t
    of_test true n = refl
    of_test false n = refl

pub class_known : (bands minor : ℕ) (s : Schedule) → is_some (class_in bands minor (Drr s)) ≡ has_class minor s.classes
class_known bands minor s = position_there (λ (c : Class). minor == c.name) s.classes

-- ---- one more

exact_push : (active : ℕ → Bool) (classes : List Class) (below : List (List Descriptor)) (c : Class) (ps : List Descriptor) → AreExact active classes below
    → active c.name ≡ not (length ps == 0) → AreExact active (classes ++ c ∷ []) (below ++ ps ∷ [])
exact_push active [] [] c ps h e = (e, tt)
exact_push active [] (qs ∷ below) c ps h e = absurd h
exact_push active (x ∷ classes) [] c ps h e = absurd h
exact_push active (x ∷ classes) (qs ∷ below) c ps h e = (h.0, exact_push active classes below c ps h.1 e)

-- only a class that is there is active
never_active : (s : Schedule) (n : ℕ) → All (IsEntry s.max_len s.classes) s.active → has_class n s.classes ≡ false → is_active n s.active ≡ false
never_active s n h absent =
    none_passes (λ (e : Entry). n == e.class) s.active
    (λ k d lt. false_from_ne_true (eqb n (get_or s.active k d).class)
    (λ e. false≢true (sym absent ∙ ap (λ m. has_class m s.classes) (eqb-true n (get_or s.active k d).class e) ∙ (h k d lt).there)))

pub added_drr : (mtu : ℕ) (s : Schedule) (below : List (List Descriptor)) (n quantum : ℕ) → IsLawfulDrr mtu s below → has_class n s.classes ≡ false → IsMinor n → 1 ≤ quantum
    → IsLawfulDrr mtu (added n quantum s) (below ++ [] ∷ [])
added_drr mtu s below n quantum h absent minor positive = record {
  schedule = added_lawful s n quantum h.schedule absent positive;
  longest = h.longest;
  minors = All-push (λ (c : Class). IsMinor c.name) s.classes (record { name = n; quantum = quantum }) h.minors minor;
  exact = exact_push (λ m. is_active m s.active) s.classes below (record { name = n; quantum = quantum }) [] h.exact (never_active s n h.schedule.entries absent ∙ empty);
}
  where
    empty : false ≡ not (0 == 0)
    empty = ap not (sym (eq-eqb 0 0 refl))

pub remakes_class_added : (mtu now : ℕ) (leaf : Shape) (new : IsNew mtu now None leaf) (old : Node (List Note)) (lawful : IsLawfulRoot mtu now old) (counted : IsCountedRoot old)
    (s : Schedule) (n quantum : ℕ) → old.own.discipline ≡ Drr s → has_class n s.classes ≡ false → IsMinor n → 1 ≤ quantum
    → let k : ℕ = length (children (shape old)) in
    Remakes mtu now (gone_from (front_and_new k 1 leaf) old) old (record old.own { discipline = Drr (added n quantum s) }) (kids history (children old) (front_and_new k 1 leaf))
remakes_class_added mtu now leaf new old lawful counted s n quantum is absent minor positive =
    let k : ℕ = length (children (shape old)) in
    let most : k ≤ length (children old) = omega (arith, length-shape old) in
    let own : Own = record old.own { discipline = Drr (added n quantum s) } in
    let below : List (List Descriptor) = map beneath (children old) in
    let kept : List (Node (List Note)) = front mtu now leaf new old lawful counted k 1 most in
    let was : IsLawfulOwn mtu now old.own below = own_lawful mtu now old lawful counted in
    let schedule : IsLawfulDrr mtu s below = subst (IsLawfulDiscipline mtu now below) is was.discipline in
    let all : take k (children old) ≡ children old = take_all k (children old) (omega (arith, length-shape old)) in
    let left_is : map beneath kept ≡ below ++ [] ∷ [] =
    map-append beneath (take k (children old)) (leaves mtu now leaf new 1)
    ∙ ap₂ (λ (a : List (List Descriptor)) (b : List Descriptor). a ++ b ∷ []) (ap (map beneath) all) (new_beneath mtu now None leaf new) in
    remakes_front mtu now leaf new old lawful counted k 1 most own refl refl (ap packets_in (sym is))
    (own_changed mtu now old.own own below (map beneath kept) was refl (ap packets_in (sym is)) (front_fewer mtu now leaf new old lawful counted k 1 most)
    (subst (λ (b : List (List Descriptor)). IsLawfulDrr mtu (added n quantum s) b) (sym left_is) (added_drr mtu s below n quantum schedule absent minor positive))
    (λ c. tt) was.filters was.in_order
    (λ j d lt.
    let f : Filter = get_or old.own.filters j d in
    let there : has_class f.minor s.classes ≡ true =
    sym (class_known (length below) f.minor s) ∙ ap (λ (x : Discipline). is_some (class_in (length below) f.minor x)) (sym is) ∙ was.named j d lt in
    class_known (length (map beneath kept)) f.minor (added n quantum s) ∙ has_push (λ (c : Class). c.name) f.minor (record { name = n; quantum = quantum }) s.classes
    ∙ or_left (has_class f.minor s.classes) (eqb f.minor n) there))

-- ---- another quantum

module _ (n q : ℕ) where
  same_name : (c : Class) → (quantum_set n q c).name ≡ c.name
  same_name c = elim (n == c.name) as (λ (t : Bool). (if t then record c { quantum = q } else c).name ≡ c.name) [ true ↦ refl | false ↦ refl ]

  same_class : (max_len : ℕ) (e : Entry) → (cut n q max_len e).class ≡ e.class
  same_class max_len e =
      elim (n == e.class) as (λ (t : Bool). (if t then record e { deficit = min e.deficit (q + max_len - 1) } else e).class ≡ e.class) [ true ↦ refl | false ↦ refl ]

  exact_mapped : (old new : ℕ → Bool) → ((m : ℕ) → new m ≡ old m) → (classes : List Class) (below : List (List Descriptor))
      → AreExact old classes below → AreExact new (map (quantum_set n q) classes) below
  exact_mapped old new same [] [] h = tt
  exact_mapped old new same [] (ps ∷ below) h = absurd h
  exact_mapped old new same (c ∷ classes) [] h = absurd h
  exact_mapped old new same (c ∷ classes) (ps ∷ below) h = (ap new (same_name c) ∙ same c.name ∙ h.0, exact_mapped old new same classes below h.1)

  quantum_drr : (mtu : ℕ) (s : Schedule) (below : List (List Descriptor)) → IsLawfulDrr mtu s below → 1 ≤ q → IsLawfulDrr mtu (with_quantum n q s) below
  quantum_drr mtu s below h positive = record {
    schedule = with_quantum_lawful s n q h.schedule positive;
    longest = h.longest;
    minors = All-map (λ (c : Class). IsMinor c.name) (quantum_set n q) s.classes
        (All-weaker (λ (c : Class). IsMinor c.name) (λ (c : Class). IsMinor (quantum_set n q c).name) (λ c m. subst IsMinor (sym (same_name c)) m) s.classes h.minors);
    exact = exact_mapped (λ m. is_active m s.active) (λ m. is_active m (with_quantum n q s).active)
        (λ m. has_map (λ (e : Entry). e.class) (cut n q s.max_len) (same_class s.max_len) m s.active) s.classes below h.exact;
  }

  quantum_classes : (m : ℕ) (s : Schedule) → has_class m (with_quantum n q s).classes ≡ has_class m s.classes
  quantum_classes m s = has_map (λ (c : Class). c.name) (quantum_set n q) same_name m s.classes

changed_drr : (mtu : ℕ) (class : ClassId) (quantum : Option ℕ) (s : Schedule) (below : List (List Descriptor)) → IsLawfulDrr mtu s below → IfSome quantum IsQuantum
    → IsLawfulDrr mtu (with_new_quantum class quantum s) below
changed_drr mtu class None s below h range = h
changed_drr mtu class (Some q) s below h range = quantum_drr class.minor q mtu s below h range.0

changed_classes : (class : ClassId) (quantum : Option ℕ) (m : ℕ) (s : Schedule) → has_class m (with_new_quantum class quantum s).classes ≡ has_class m s.classes
changed_classes class None m s = refl
changed_classes class (Some q) m s = quantum_classes class.minor q m s

pub remakes_class_changed : (mtu now : ℕ) (old : Node (List Note)) (lawful : IsLawfulRoot mtu now old) (counted : IsCountedRoot old) (s : Schedule) (class : ClassId) (quantum : Option ℕ)
    → old.own.discipline ≡ Drr s → IfSome quantum IsQuantum
    → Remakes mtu now (gone_from (all_kept (shape old)) old) old (record old.own { discipline = Drr (with_new_quantum class quantum s) }) (kids history (children old) (all_kept (shape old)))
remakes_class_changed mtu now old lawful counted s class quantum is range =
    let below : List (List Descriptor) = map beneath (children old) in
    let was : IsLawfulOwn mtu now old.own below = own_lawful mtu now old lawful counted in
    let schedule : IsLawfulDrr mtu s below = subst (IsLawfulDiscipline mtu now below) is was.discipline in
    let new : Schedule = with_new_quantum class quantum s in
    remakes_retuned mtu now old lawful counted (Drr new) (ap packets_in (sym is)) (changed_drr mtu class quantum s below schedule range) (λ c. tt)
    (λ j d lt.
    let f : Filter = get_or old.own.filters j d in
    class_known (length below) f.minor new ∙ changed_classes class quantum f.minor s ∙ sym (class_known (length below) f.minor s)
    ∙ ap (λ (x : Discipline). is_some (class_in (length below) f.minor x)) (sym is) ∙ was.named j d lt)

-- ---- one less

module _ (old new : ℕ → Bool) (n : ℕ) (same : (m : ℕ) → (m == n) ≡ false → new m ≡ old m) where
  exact_removed : (classes : List Class) (below : List (List Descriptor)) (i : ℕ) (c : Class) → ClassesDiffer classes → slice_get classes i ≡ Some c → c.name ≡ n
      → AreExact old classes below → AreExact new (others (λ (c : Class). c.name) n classes) (remove below i)
  exact_removed [] below i c differ e name h = absurd (none-some c e)
  exact_removed (x ∷ classes) [] i c differ e name h = absurd h
  exact_removed (x ∷ classes) (ps ∷ below) zero c differ e name h =
      let is : x.name ≡ n = ap (λ (k : Class). k.name) (same_Some x c e) ∙ name in
      let absent : has_class n classes ≡ false = ap (λ m. has_class m classes) (sym is) ∙ differ.0 in
      let left : others (λ (c : Class). c.name) n (x ∷ classes) ≡ classes =
      ap (λ (t : Bool). if not t then x ∷ others (λ (c : Class). c.name) n classes else others (λ (c : Class). c.name) n classes) (eq-eqb n x.name (sym is)) ∙ all-stay n classes absent in
      subst (λ (cs : List Class). AreExact new cs below) (sym left) (exact-others old new n classes below absent same h.1)
  exact_removed (x ∷ classes) (ps ∷ below) (suc i) c differ e name h =
      let apart : eqb x.name n ≡ false = ap (eqb x.name) (sym name) ∙ fails-at (λ (k : Class). x.name == k.name) classes i c differ.0 e in
      let left : others (λ (c : Class). c.name) n (x ∷ classes) ≡ x ∷ others (λ (c : Class). c.name) n classes =
      ap (λ (t : Bool). if not t then x ∷ others (λ (c : Class). c.name) n classes else others (λ (c : Class). c.name) n classes) (eqb_swap x.name n apart) in
      subst (λ (cs : List Class). AreExact new cs (ps ∷ remove below i)) (sym left) (same x.name apart ∙ h.0, exact_removed classes below i c differ.1 e name h.1)

pub removed_drr : (mtu : ℕ) (s : Schedule) (below : List (List Descriptor)) (n i : ℕ) (c : Class) → IsLawfulDrr mtu s below → slice_get s.classes i ≡ Some c → c.name ≡ n
    → IsLawfulDrr mtu (removed n s) (remove below i)
removed_drr mtu s below n i c h e name = record {
  schedule = removed_lawful s n h.schedule;
  longest = h.longest;
  minors = All-filter (λ (c : Class). not (n == c.name)) (λ (c : Class). IsMinor c.name) s.classes h.minors;
  exact = exact_removed (λ m. is_active m s.active) (λ m. is_active m (removed n s).active) n (λ m apart. has_others (λ (e : Entry). e.class) m n s.active (eqb_swap m n apart))
      s.classes below i c (differ_from_pairs (λ (c : Class). c.name) s.classes h.schedule.classes_differ) e name h.exact;
}

-- nodes side by side without one
module _ (w : Descriptor → ℕ) where
  waits-remove : (ns : List (Node (List Note))) (i : ℕ) (c : Node (List Note)) → slice_get ns i ≡ Some c → waits w ns ≡ waits w (remove ns i) + weigh w (beneath c)
  waits-remove [] i c e = absurd (none-some c e)
  waits-remove (n ∷ ns) zero c e = omega (arith, weigh-joined-cons w (beneath n) (map beneath ns), ap (λ (k : Node (List Note)). weigh w (beneath k)) (same_Some n c e))
  waits-remove (n ∷ ns) (suc i) c e =
      omega (arith, weigh-joined-cons w (beneath n) (map beneath ns), weigh-joined-cons w (beneath n) (map beneath (remove ns i)), waits-remove ns i c e)

  holds-remove : (ns : List (Node (List Note))) (i : ℕ) (c : Node (List Note)) → slice_get ns i ≡ Some c → holds w ns ≡ holds w (remove ns i) + weigh w (held_beneath c)
  holds-remove [] i c e = absurd (none-some c e)
  holds-remove (n ∷ ns) zero c e = omega (arith, weigh-joined-cons w (held_beneath n) (map held_beneath ns), ap (λ (k : Node (List Note)). weigh w (held_beneath k)) (same_Some n c e))
  holds-remove (n ∷ ns) (suc i) c e =
      omega (arith, weigh-joined-cons w (held_beneath n) (map held_beneath ns), weigh-joined-cons w (held_beneath n) (map held_beneath (remove ns i)), holds-remove ns i c e)

times-remove : (h : ℕ) (ns : List (Node (List Note))) (i : ℕ) → times_in h (remove ns i) ≤ times_in h ns
times-remove h [] zero = omega arith
times-remove h [] (suc i) = omega arith
times-remove h (n ∷ ns) zero = omega arith
times-remove h (n ∷ ns) (suc i) = omega (arith, times-remove h ns i)

map-remove : (ns : List (Node (List Note))) (i : ℕ) → map beneath (remove ns i) ≡ remove (map beneath ns) i
map-remove [] zero = refl
map-remove [] (suc i) = refl
map-remove (n ∷ ns) zero = refl
map-remove (n ∷ ns) (suc i) = ap (λ (o : List (List Descriptor)). beneath n ∷ o) (map-remove ns i)

pub member_at : {X : Type 0} (xs : List X) (i : ℕ) → i < length xs → (x : X) × (slice_get xs i ≡ Some x)
member_at [] i lt = absurd (omega arith)
member_at (x ∷ xs) zero lt = (x, refl)
member_at (x ∷ xs) (suc i) lt = member_at xs i (omega arith)

pub remakes_class_removed : (mtu now : ℕ) (old : Node (List Note)) (lawful : IsLawfulRoot mtu now old) (counted : IsCountedRoot old) (s : Schedule) (n i : ℕ)
    → old.own.discipline ≡ Drr s → position (λ (c : Class). n == c.name) s.classes ≡ Some i → list_any (names_class n) old.own.filters ≡ false
    → Remakes mtu now (gone_from (remove (all_kept (shape old)) i) old) old (record old.own { discipline = Drr (removed n s) }) (kids history (children old) (remove (all_kept (shape old)) i))
remakes_class_removed mtu now old lawful counted s n i is found busy =
    let cs : List (Node (List Note)) = children old in
    let below : List (List Descriptor) = map beneath cs in
    let k : ℕ = length (children (shape old)) in
    let own : Own = record old.own { discipline = Drr (removed n s) } in
    let was : IsLawfulOwn mtu now old.own below = own_lawful mtu now old lawful counted in
    let schedule : IsLawfulDrr mtu s below = subst (IsLawfulDiscipline mtu now below) is was.discipline in
    let none : Class = record { name = 0; quantum = 0 } in
    let at = position-Some (λ (c : Class). n == c.name) s.classes i none found in
    let class : slice_get s.classes i ≡ Some (get_or s.classes i none) = slice_get-get_or s.classes i none at.0 in
    let name : (get_or s.classes i none).name ≡ n = sym (eqb-true n (get_or s.classes i none).name at.1) in
    let size : length s.classes ≡ length below = exact-length (λ m. is_active m s.active) s.classes below schedule.exact in
    let within : i < length cs = omega (arith, at.0, size, length-map cs beneath) in
    let child = member_at cs i within in
    let there : slice_get below i ≡ Some (beneath child.0) =
    slice_get-map beneath cs i ∙ ap (option_map beneath) child.1 in
    let same : kids history cs (remove (all_kept (shape old)) i) ≡ remove cs i = kids_removed history cs k i (length-shape old) (omega (arith, within, length-shape old)) in
    let purged : (w : Descriptor → ℕ) → weigh w (gone_from (remove (all_kept (shape old)) i) old) ≡ weigh w (beneath child.0) = λ w.
    gone_one w (λ j. list_any (keeps j) (remove (all_kept (shape old)) i)) 0 i below (beneath child.0) there
    (λ j le lt apart. removed_keeps k i j (omega (arith, within, length-shape old)) (omega (arith, lt, length-map cs beneath, length-shape old)) (λ e. apart (omega arith)))
    (ap (λ j. list_any (keeps j) (remove (all_kept (shape old)) i)) {x = 0 + i} {y = i} (omega arith) ∙ removed_goes k i (omega (arith, within, length-shape old))) in
    let fewer : (w : Descriptor → ℕ) → waits w (remove cs i) ≤ waits w cs = λ w. omega (arith, waits-remove w cs i child.0 child.1) in
    subst (Remakes mtu now (gone_from (remove (all_kept (shape old)) i) old) old own) (sym same) (record {
      handle = refl;
      held = refl;
      packets = ap packets_in (sym is);
      lawful = own_changed mtu now old.own own below (map beneath (remove cs i)) was refl (ap packets_in (sym is)) fewer
          (subst (λ (b : List (List Descriptor)). IsLawfulDrr mtu (removed n s) b) (sym (map-remove cs i)) (removed_drr mtu s below n i (get_or s.classes i none) schedule class name))
          (λ c. tt) was.filters was.in_order
          (λ j d lt.
          let f : Filter = get_or old.own.filters j d in
          let apart : eqb n f.minor ≡ false = eqb_swap f.minor n (fails-at (names_class n) old.own.filters j f busy (slice_get-get_or old.own.filters j d lt)) in
          class_known (length (map beneath (remove cs i))) f.minor (removed n s) ∙ has_others (λ (c : Class). c.name) f.minor n s.classes apart
          ∙ sym (class_known (length below) f.minor s) ∙ ap (λ (x : Discipline). is_some (class_in (length below) f.minor x)) (sym is) ∙ was.named j d lt);
      lawful_below = All-append (IsLawfulRoot mtu now) (take i cs) (drop (suc i) cs) (All-take (IsLawfulRoot mtu now) i cs (children_lawful mtu now old lawful counted))
          (All-drop (IsLawfulRoot mtu now) (suc i) cs (children_lawful mtu now old lawful counted));
      counted_below = All-append IsCountedRoot (take i cs) (drop (suc i) cs) (All-take IsCountedRoot i cs (children_counted mtu now old lawful counted))
          (All-drop IsCountedRoot (suc i) cs (children_counted mtu now old lawful counted));
      waiting = λ w. omega (arith, waits-remove w cs i child.0 child.1, purged w);
      held_below = λ w. omega (arith, holds-remove w cs i child.0 child.1, purged w, held-le-beneath w child.0);
      handles_below = λ h. times-remove h cs i;
    })
