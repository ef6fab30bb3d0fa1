-- `tc class add`, `change` and `del`: which edit of the tree each is, and when it is refused.
-- tc-drr(8); a new class has an implicit pfifo, and a class that goes loses what is below it.
use Rattle.std.specs.Prelude.{ℕ, Bool, not, ◌==◌, if◌then◌else◌, List, [], ◌∷◌, ◌++◌, Option, Some, Result, Err, is_some, unwrap_or}
use Rattle.std.specs.List.{list_any, remove}
use Rattle.std.specs.Option.{option_map_or}
use Rattle.q_drr.specs.Schedule.{Schedule, added, removed, with_quantum}
use Rattle.q_model.specs.declared.class_id.ClassId.{ClassId}
use Rattle.q_model.specs.declared.refusal.Refusal.{Refusal}
use Rattle.q_model.specs.declared.refusal.Refusal.TheVariants.{NoParent, Exists, NoQdisc, NotClassful, NoClass, Busy, CannotChange}
use Rattle.q_model.specs.Filters.{names_class}
use Rattle.q_model.specs.Node.{Discipline, Fifo, Prio, Tbf, Drr, FqCodel, Shape}
use Rattle.q_model.specs.Make.{Device, implicit_pfifo}
use Rattle.q_model.specs.Find.{path_of, class_place}
use Rattle.q_model.specs.Edit.{New, Edit, Remake}
use Rattle.q_model.specs.Refusals.{Check, refuse, done_unless, is_so}
use Rattle.q_model.specs.QdiscCommands.{at_target, all_kept, retuned}

-- the schedule of a drr; no other discipline has one
abbrev pub of_schedule : (Schedule → Result Edit Refusal) → Discipline → Result Edit Refusal
of_schedule f (Drr s) = f s
of_schedule f (Fifo limit queue) = Err NotClassful
of_schedule f (FqCodel s) = Err NotClassful
of_schedule f (Prio priomap) = Err CannotChange
of_schedule f (Tbf bucket limit) = Err CannotChange

-- an edit of the drr whose class it is, given the path to it, itself, and its schedule
abbrev pub at_drr : Option ℕ → ClassId → (List ℕ → Shape → Schedule → Result Edit Refusal) → Shape → Result Edit Refusal
at_drr parent class f root =
    if is_so (λ major. not (major == class.major)) parent then Err NoParent
    else at_target NoQdisc (path_of class.major root) (λ path n. of_schedule (f path n) n.own.discipline) root

-- a class is there already, or is not there
abbrev pub is_there : ClassId → Shape → Bool
is_there class n = is_some (class_place class.minor n)

abbrev pub class_add_checks : ClassId → Shape → List Check
class_add_checks class n = refuse Exists (is_there class n) ∷ []

abbrev pub class_change_checks : ClassId → Shape → List Check
class_change_checks class n = refuse NoClass (not (is_there class n)) ∷ []

abbrev pub class_del_checks : ClassId → Shape → List Check
class_del_checks class n = refuse NoClass (not (is_there class n)) ∷ refuse Busy (list_any (names_class class.minor) n.own.filters) ∷ []

-- a class more at the end, with an implicit pfifo
abbrev pub with_class : Device → List ℕ → Shape → Schedule → Edit
with_class d path n s = Remake path (record n.own { discipline = Drr s }) (all_kept n ++ New (implicit_pfifo d) ∷ [])

-- its quantum is the mtu where none is given
abbrev pub class_added : Device → ClassId → Option ℕ → List ℕ → Shape → Schedule → Result Edit Refusal
class_added d class quantum path n s =
    done_unless (class_add_checks class n) (with_class d path n (added class.minor (unwrap_or quantum d.mtu) s))

abbrev pub class_add : Device → ℕ → ClassId → Option ℕ → Shape → Result Edit Refusal
class_add d parent class quantum root = at_drr (Some parent) class (class_added d class quantum) root

-- another quantum, where one is given
abbrev pub with_new_quantum : ClassId → Option ℕ → Schedule → Schedule
with_new_quantum class quantum s = option_map_or (λ q. with_quantum class.minor q s) quantum s

abbrev pub class_changed : ClassId → Option ℕ → List ℕ → Shape → Schedule → Result Edit Refusal
class_changed class quantum path n s = done_unless (class_change_checks class n) (retuned n path (Drr (with_new_quantum class quantum s)))

abbrev pub class_change : Option ℕ → ClassId → Option ℕ → Shape → Result Edit Refusal
class_change parent class quantum root = at_drr parent class (class_changed class quantum) root

-- the child at place i goes, with all that is below it
abbrev pub without_class : ℕ → List ℕ → Shape → Schedule → Edit
without_class i path n s = Remake path (record n.own { discipline = Drr s }) (remove (all_kept n) i)

abbrev pub class_removed : ClassId → List ℕ → Shape → Schedule → Result Edit Refusal
class_removed class path n s =
    done_unless (class_del_checks class n) (without_class (unwrap_or (class_place class.minor n) 0) path n (removed class.minor s))

abbrev pub class_del : Option ℕ → ClassId → Shape → Result Edit Refusal
class_del parent class root = at_drr parent class (class_removed class) root
