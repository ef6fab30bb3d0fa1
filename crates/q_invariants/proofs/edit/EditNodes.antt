-- Which node a planned edit is of, and what its checks have passed.
use Rattle.std.proofs.Common.{◌≡◌, ℕ, Bool, true, false, not, List, [], ◌∷◌, ◌++◌, refl, sym, ap, ◌∙◌, Option, Some, None, Ok, Err}
use Rattle.std.specs.Prelude.{option_map, ◌==◌, Result, if◌then◌else◌}
use Rattle.std.proofs.lemmas.Option.{none-some, same_Some}
use Rattle.q_drr.specs.Schedule.{Schedule}
use Rattle.q_model.specs.declared.class_id.ClassId.{ClassId}
use Rattle.q_model.specs.declared.refusal.Refusal.{Refusal}
use Rattle.q_model.specs.declared.refusal.Refusal.TheVariants.{NoParent, NoQdisc, NotClassful, CannotChange}
use Rattle.q_model.specs.Tally.{Note}
use Rattle.q_model.specs.Node.{Discipline, Fifo, Prio, Tbf, Drr, FqCodel, Node, Shape, shape}
use Rattle.q_model.specs.Find.{path_of, node_at}
use Rattle.q_model.specs.Edit.{Edit}
use Rattle.q_model.specs.Refusals.{Check, first_refusal, is_so}
use Rattle.q_model.specs.QdiscCommands.{at_target}
use Rattle.q_model.specs.ClassCommands.{of_schedule, at_drr}
use Rattle.q_invariants.proofs.edit.EditSuits.{node_at-shape, refused_not_done, check_passed, AtTarget, target_there}

pub same_edit : (a b : Edit) → ◌≡◌ {A = Result Edit Refusal} (Ok a) (Ok b) → a ≡ b
same_edit a b e = cc

-- the node itself, with what it remembers
pub record AtNode (f : List ℕ → Shape → Result Edit Refusal) (root : Node (List Note)) (edit : Edit) : Type 0 where
  pub path : List ℕ
  pub node : Node (List Note)
  pub node_is : node_at path root ≡ Some node
  pub edit_is : f path (shape node) ≡ Ok edit

mapped_from : {A B : Type 0} (f : A → B) (o : Option A) (y : B) → option_map f o ≡ Some y → (x : A) × (o ≡ Some x) × (f x ≡ y)
mapped_from f None y e = absurd (none-some y e)
mapped_from f (Some x) y e = (x, refl, same_Some (f x) y e)

pub node_there : (refusal : Refusal) (found : Option (List ℕ)) (f : List ℕ → Shape → Result Edit Refusal) (root : Node (List Note)) (edit : Edit)
    → at_target refusal found f (shape root) ≡ Ok edit → AtNode f root edit
node_there refusal found f root edit e =
    let at : AtTarget found f (shape root) edit = target_there refusal found f (shape root) edit e in
    let real = mapped_from shape (node_at at.path root) at.node (sym (node_at-shape at.path root) ∙ at.node_is) in
    record { path = at.path; node = real.0; node_is = real.1; edit_is = ap (f at.path) real.2 ∙ at.edit_is }

-- ---- a drr

pub record AtSchedule (f : Schedule → Result Edit Refusal) (d : Discipline) (edit : Edit) : Type 0 where
  pub schedule : Schedule
  pub is : d ≡ Drr schedule
  pub edit_is : f schedule ≡ Ok edit

pub schedule_there : (f : Schedule → Result Edit Refusal) (d : Discipline) (edit : Edit) → of_schedule f d ≡ Ok edit → AtSchedule f d edit
schedule_there f (Drr s) edit e = record { schedule = s; is = refl; edit_is = e }
schedule_there f (Fifo limit queue) edit e = absurd (refused_not_done NotClassful edit e)
schedule_there f (FqCodel s) edit e = absurd (refused_not_done NotClassful edit e)
schedule_there f (Prio priomap) edit e = absurd (refused_not_done CannotChange edit e)
schedule_there f (Tbf b limit) edit e = absurd (refused_not_done CannotChange edit e)

pub drr_there : (parent : Option ℕ) (class : ClassId) (f : List ℕ → Shape → Schedule → Result Edit Refusal) (root : Node (List Note)) (edit : Edit)
    → at_drr parent class f (shape root) ≡ Ok edit → AtNode (λ path n. of_schedule (f path n) n.own.discipline) root edit
drr_there parent class f root edit e =
    go (is_so (λ major. not (major == class.major)) parent) e
  where
    found : Result Edit Refusal
    found = at_target NoQdisc (path_of class.major (shape root)) (λ path n. of_schedule (f path n) n.own.discipline) (shape root)

    go : (t : Bool) → (if t then Err NoParent else found) ≡ Ok edit → AtNode (λ path n. of_schedule (f path n) n.own.discipline) root edit
    go true e = absurd (refused_not_done NoParent edit e)
    go false e = node_there NoQdisc (path_of class.major (shape root)) (λ path n. of_schedule (f path n) n.own.discipline) root edit e

-- ---- checks

pub later_passed : (xs ys : List Check) → first_refusal (xs ++ ys) ≡ None → first_refusal ys ≡ None
later_passed [] ys e = e
later_passed (x ∷ xs) ys e = later_passed xs ys (check_passed x (xs ++ ys) e).1
