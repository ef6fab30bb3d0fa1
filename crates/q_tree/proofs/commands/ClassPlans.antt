-- What the model plans of a command for a class of a drr, and that the edit of the code is this plan.
use Rattle.std.proofs.Common.{◌≡◌, ℕ, zero, suc, ◌+◌, ◌<◌, ◌≤◌, ◌∙◌, List, [], ◌∷◌, ◌++◌, append-nil, length, map, refl, sym, ap, ap₂, Option, Some, None, option_map, option_and_then, Result, Ok, Err, arith}
use Rattle.std.specs.Prelude.{Bool, true, false, not, is_some, slice_get, ◌==◌, if◌then◌else◌}
use Rattle.std.specs.List.{list_any, remove}
use Rattle.std.specs.Option.{option_map_or}
use Rattle.std.proofs.lemmas.Bool.{not-false, or_left}
use Rattle.std.proofs.lemmas.List.{length-map}
use Rattle.std.proofs.lemmas.Option.{none-some, same_Some, slice_get-map}
use Rattle.q_drr.specs.Schedule as schedule
use Rattle.q_drr.specs.Schedule.{Schedule, added, has_class, with_quantum}
use Rattle.q_packet.specs.Descriptor.{Descriptor}
use Rattle.q_model.specs.declared.class_id.ClassId.{ClassId}
use Rattle.q_model.specs.declared.refusal.Refusal.{Refusal}
use Rattle.q_model.specs.declared.refusal.Refusal.TheVariants.{NoClass, NoParent, NoQdisc}
use Rattle.q_model.specs.Beneath.{beneath}
use Rattle.q_model.specs.ClassCommands.{at_drr, class_add_checks, class_change_checks, class_changed, is_there, of_schedule, with_new_quantum}
use Rattle.q_model.specs.Edit as model
use Rattle.q_model.specs.Edit.{New, Remake, beneath_removed, keeps, remade}
use Rattle.q_model.specs.Find.{class_in, class_place, count_nodes, path_of}
use Rattle.q_model.specs.Make.{Device, implicit_pfifo}
use Rattle.q_model.specs.Node.{Discipline, Fifo, Prio, Tbf, Drr, FqCodel, Own, Node, Shape, blank, children, shape}
use Rattle.q_model.specs.QdiscCommands.{all_kept, at_target, retuned}
use Rattle.q_model.specs.Refusals.{Check, done_unless, is_so, refuse}
use Rattle.q_invariants.specs.Sizes.{sizes}
use Rattle.q_invariants.proofs.edit.EditChildren.{any-append, gone, gone_is, gone_none, kept_there, kids, kids-append, kids_all, kids_removed, removed_goes, removed_keeps}
use Rattle.q_invariants.proofs.edit.EditClasses.{class_known}
use Rattle.q_invariants.proofs.edit.EditSuits.{beneath-children, check_passed, done_is, length-shape}
use Rattle.q_invariants.proofs.sizes.MadeSizes.{count-shape}
use Rattle.q_tree.specs.commands.Commands.{class_add_sized, drr_answer}
use Rattle.q_tree.specs.commands.DisciplineChanges.{can_join, children_after, class_child, discipline_after, lost_with, place_in, requantum, rescheduled}
use Rattle.q_tree.specs.commands.Making.{IsNewNode}
use Rattle.q_tree.specs.Kept.{Kept, kept}
use Rattle.q_tree.specs.declared.commands.discipline_change.DisciplineChange.TheVariants.{AddClass, RemoveClass}
use Rattle.q_tree.proofs.commands.Plans.{all-passed, same-refusal}

-- ---- the drr whose class it is

pub at-class : (parent : Option ℕ) (class : ClassId) (f : List ℕ → Shape → Schedule → Result model.Edit Refusal) (root : Shape) → is_so (λ major. not (major == class.major)) parent ≡ false
    → at_drr parent class f root ≡ at_target NoQdisc (path_of class.major root) (λ path n. of_schedule (f path n) n.own.discipline) root
at-class parent class f root e = ap (λ b. if b then Err NoParent else at_target NoQdisc (path_of class.major root) (λ path n. of_schedule (f path n) n.own.discipline) root) e

pub drr-refused : (checks : List Check) (g : Schedule → model.Edit) (refusal : Refusal) (d : Discipline) → drr_answer checks d ≡ Err refusal
    → of_schedule (λ s. done_unless checks (g s)) d ≡ Err refusal
drr-refused checks g refusal (Drr s) e = same-refusal checks tt (g s) refusal e
drr-refused checks g refusal (Fifo limit queue) e = cc
drr-refused checks g refusal (Prio priomap) e = cc
drr-refused checks g refusal (Tbf bucket limit) e = cc
drr-refused checks g refusal (FqCodel s) e = cc

-- it is a drr, of which no check holds
pub record IsPassed (checks : List Check) (d : Discipline) : Type 0 where
  pub own : Schedule
  pub is : d ≡ Drr own
  pub passed : ◌≡◌ {A = Result (Unit {0}) Refusal} (done_unless checks tt) (Ok tt)

pub drr-passed : (checks : List Check) (d : Discipline) → drr_answer checks d ≡ Ok tt → IsPassed checks d
drr-passed checks (Drr s) e = record { own = s; is = refl; passed = e }
drr-passed checks (Fifo limit queue) e = absurd cc
drr-passed checks (Prio priomap) e = absurd cc
drr-passed checks (Tbf bucket limit) e = absurd cc
drr-passed checks (FqCodel s) e = absurd cc

pub drr-done : (checks : List Check) (g : Schedule → model.Edit) (d : Discipline) (h : IsPassed checks d) → of_schedule (λ s. done_unless checks (g s)) d ≡ Ok (g h.own)
drr-done checks g d h = ap (of_schedule (λ s. done_unless checks (g s))) h.is ∙ all-passed checks tt (g h.own) h.passed

-- the checks of size count the nodes of the tree, not of its shape
pub sized-is : (class : ClassId) (steps : ℕ) (n : Shape) (root : Node Kept) (k : ℕ) → k ≡ steps → (d : Discipline)
    → drr_answer (class_add_checks class n ++ sizes (steps + 2) (suc (count_nodes (shape root)))) d ≡ drr_answer (class_add_sized class k n root) d
sized-is class steps n root k same d =
    let nodes : suc (count_nodes (shape root)) ≡ count_nodes root + 1 = omega (arith, count-shape root) in
    ap₂ (λ l m. drr_answer (class_add_checks class n ++ sizes (l + 2) m) d) (sym same) nodes

-- the first check of those that pass
pub first-passed : (check : Check) (checks : List Check) → ◌≡◌ {A = Result (Unit {0}) Refusal} (done_unless (check ∷ checks) tt) (Ok tt) → check.holds ≡ false
first-passed check checks e = (check_passed check checks (done_is (check ∷ checks) tt tt e).0).0

-- ---- another quantum

requantum-is : (class : ClassId) (quantum : Option ℕ) (s : Schedule) → has_class class.minor s.classes ≡ true → with_new_quantum class quantum s ≡ requantum class.minor quantum s
requantum-is class None s there = refl
requantum-is class (Some q) s there = sym (ap (λ b. if b then with_quantum class.minor q s else s) there)

pub there-known : (class : ClassId) (n : Node Kept) (s : Schedule) → n.own.discipline ≡ Drr s → is_there class (shape n) ≡ has_class class.minor s.classes
there-known class n s is = ap (λ d. is_some (class_in (length (children (shape n))) class.minor d)) is ∙ class_known (length (children (shape n))) class.minor s

pub change-done : (class : ClassId) (quantum : Option ℕ) (path : List ℕ) (n : Node Kept) → drr_answer (class_change_checks class (shape n)) n.own.discipline ≡ Ok tt
    → of_schedule (class_changed class quantum path (shape n)) n.own.discipline
    ≡ Ok (Remake path (record n.own { discipline = rescheduled (requantum class.minor quantum) n.own.discipline }) (all_kept (shape n)))
change-done class quantum path n e =
    let h : IsPassed (class_change_checks class (shape n)) n.own.discipline = drr-passed (class_change_checks class (shape n)) n.own.discipline e in
    let there : has_class class.minor h.own.classes ≡ true =
    sym (there-known class n h.own h.is) ∙ not-false (is_there class (shape n)) (first-passed (refuse NoClass (not (is_there class (shape n)))) [] h.passed) in
    drr-done (class_change_checks class (shape n)) (λ s. retuned (shape n) path (Drr (with_new_quantum class quantum s))) n.own.discipline h
    ∙ ap (λ t. Ok (Remake path (record n.own { discipline = Drr t }) (all_kept (shape n)))) (requantum-is class quantum h.own there)
    ∙ sym (ap (λ d. Ok (Remake path (record n.own { discipline = rescheduled (requantum class.minor quantum) d }) (all_kept (shape n)))) h.is)

-- ---- a class more

module _ (n : Node Kept) (s : Schedule) (is : n.own.discipline ≡ Drr s) (class quantum : ℕ) (leaf : Node Kept) (d : Device)
    (new : IsNewNode leaf (implicit_pfifo d)) (absent : has_class class s.classes ≡ false) where
  abbrev pub one_more : List model.Child
  one_more = all_kept (shape n) ++ New (implicit_pfifo d) ∷ []

  joins : can_join class n.own.discipline ≡ true
  joins = ap (can_join class) is ∙ ap not absent

  pub own-joined : ◌≡◌ {A = Own} (record n.own { discipline = discipline_after (AddClass class quantum leaf) n.own.discipline (children n) })
      (record n.own { discipline = Drr (added class quantum s) })
  own-joined =
      ap (λ b. record n.own { discipline = if b then rescheduled (added class quantum) n.own.discipline else n.own.discipline }) joins
      ∙ ap (λ x. record n.own { discipline = rescheduled (added class quantum) x }) is

  pub kids-joined : children_after (AddClass class quantum leaf) n.own.discipline (children n) ≡ kids kept (children n) one_more
  kids-joined =
      ap (λ b. if b then children n ++ leaf ∷ [] else children n) joins
      ∙ ap (λ x. children n ++ x ∷ []) new
      ∙ sym (kids-append kept (children n) (all_kept (shape n)) (New (implicit_pfifo d) ∷ [])
      ∙ ap (λ xs. xs ++ blank kept (implicit_pfifo d) ∷ []) (kids_all kept (children n) (length (children (shape n))) (length-shape n)))

  pub none-lost : ◌≡◌ {A = List Descriptor} [] (beneath_removed one_more (shape n))
  none-lost = sym (gone_is (λ j. list_any (keeps j) one_more) 0 (children (shape n))
      ∙ gone_none (λ j. list_any (keeps j) one_more) 0 (map beneath (children (shape n)))
      (λ j le lt.
      any-append (keeps j) (all_kept (shape n)) (New (implicit_pfifo d) ∷ [])
      ∙ or_left (list_any (keeps j) (all_kept (shape n))) (list_any (keeps j) (New (implicit_pfifo d) ∷ []))
      (kept_there j 0 (length (children (shape n))) le (omega (arith, lt, length-map (children (shape n)) beneath)))))

-- ---- a class less

-- one of them alone goes
gone_only : (keep : ℕ → Bool) (a i : ℕ) (below : List (List Descriptor)) (ps : List Descriptor) → slice_get below i ≡ Some ps
    → ((j : ℕ) → a ≤ j → j < a + length below → (j ≡ a + i → ⊥) → keep j ≡ true) → keep (a + i) ≡ false → gone keep a below ≡ ps
gone_only keep a i [] ps e stay go = absurd (none-some ps e)
gone_only keep a zero (qs ∷ below) ps e stay go =
    ap₂ (λ x y. x ++ y) (ap (λ (t : Bool). if t then [] else qs) (ap keep (omega arith) ∙ go) ∙ same_Some qs ps e)
    (gone_none keep (a + 1) below (λ j le lt. stay j (omega arith) (omega arith) (λ s. omega arith)))
    ∙ append-nil ps
gone_only keep a (suc i) (qs ∷ below) ps e stay go =
    ap (λ (t : Bool). (if t then [] else qs) ++ gone keep (a + 1) below) (stay a (omega arith) (omega arith) (λ s. omega arith))
    ∙ gone_only keep (a + 1) i below ps e (λ j le lt apart. stay j (omega arith) (omega arith) (λ s. apart (omega arith))) (ap keep (omega arith) ∙ go)

module _ (n : Node Kept) (s : Schedule) (is : n.own.discipline ≡ Drr s) (class i : ℕ) (c : Node Kept) (place : class_place class (shape n) ≡ Some i)
    (there : slice_get (children n) i ≡ Some c) (within : i < length (children (shape n))) where
  abbrev pub one_less : List model.Child
  one_less = remove (all_kept (shape n)) i

  found : class_child class n.own.discipline (children n) ≡ Some (i, c)
  found =
      ap (λ o. option_and_then (λ j. option_map {U = ℕ × Node Kept} (λ (x : Node Kept). (j, x)) (slice_get (children n) j)) o)
      (ap (place_in class) is ∙ sym (ap (class_in (length (children (shape n))) class) is) ∙ place)
      ∙ ap (option_map {U = ℕ × Node Kept} (λ (x : Node Kept). (i, x))) there

  pub own-left : ◌≡◌ {A = Own} (record n.own { discipline = discipline_after (RemoveClass class) n.own.discipline (children n) }) (record n.own { discipline = Drr (schedule.removed class s) })
  own-left =
      ap (λ o. record n.own { discipline = option_map_or (λ (x : ℕ × Node Kept). rescheduled (schedule.removed class) n.own.discipline) o n.own.discipline }) found
      ∙ ap (λ x. record n.own { discipline = rescheduled (schedule.removed class) x }) is

  pub kids-left : children_after (RemoveClass class) n.own.discipline (children n) ≡ kids kept (children n) one_less
  kids-left =
      ap (λ o. option_map_or (λ (x : ℕ × Node Kept). remove (children n) x.0) o (children n)) found
      ∙ sym (kids_removed kept (children n) (length (children (shape n))) i (length-shape n) within)

  pub one-lost : lost_with (RemoveClass class) n.own.discipline (children n) ≡ beneath_removed one_less (shape n)
  one-lost =
      ap (λ o. option_map_or (λ (x : ℕ × Node Kept). beneath x.1) o []) found
      ∙ sym (gone_is (λ j. list_any (keeps j) one_less) 0 (children (shape n))
      ∙ gone_only (λ j. list_any (keeps j) one_less) 0 i (map beneath (children (shape n))) (beneath c)
      (ap (λ xs. slice_get xs i) (beneath-children n) ∙ slice_get-map beneath (children n) i ∙ ap (option_map beneath) there)
      (λ j le lt apart. removed_keeps (length (children (shape n))) i j within (omega (arith, lt, length-map (children (shape n)) beneath)) (λ e. apart (omega (arith, e))))
      (ap (λ j. list_any (keeps j) one_less) {x = 0 + i} {y = i} (omega arith) ∙ removed_goes (length (children (shape n))) i within))
