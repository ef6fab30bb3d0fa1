-- What the model plans of a command that names a qdisc by its handle, and that an edit of the code is this plan.
use Rattle.std.proofs.Common.{◌≡◌, ℕ, ◌≤◌, ◌∙◌, List, [], ◌∷◌, length, map, refl, sym, ap, subst, Option, Some, None, option_map, option_and_then, Result, Ok, Err, arith}
use Rattle.std.specs.Prelude.{IfErr, OnErr, OnOk, Bool, is_none, is_some, not, slice_get, true, false, ◌||◌}
use Rattle.std.specs.List.{list_any}
use Rattle.std.specs.Option.{option_map_or}
use Rattle.std.specs.Result.{IsErrAnd}
use Rattle.std.proofs.lemmas.Bool.{false≢true}
use Rattle.std.proofs.lemmas.List.{length-map}
use Rattle.std.proofs.lemmas.Option.{same_Some}
use Rattle.q_codel.specs.Losses.{IsTold, SinkState}
use Rattle.q_codel.proofs.SinkLemmas.{told_nothing}
use Rattle.q_packet.specs.declared.cause.Cause.TheVariants.{Purged}
use Rattle.q_invariants.proofs.ask.Answer.{one}
use Rattle.q_invariants.proofs.sums.Weights.{weigh-count}
use Rattle.q_tree.specs.commands.Purging.{purged}
use Rattle.q_tree.proofs.commands.EditLemmas.{edited-loses, told-purged}
use Rattle.q_model.specs.declared.command.Command.{Command}
use Rattle.q_model.specs.declared.refusal.Refusal.{Refusal}
use Rattle.q_model.specs.declared.refusal.Refusal.TheVariants.{Memory, NoClass, NotClassful, TooMany}
use Rattle.q_model.specs.Beneath.{beneath}
use Rattle.q_model.specs.Edit as model
use Rattle.q_model.specs.Edit.{Remake, above, edited_at, keeps, lost_by, packets_removed, beneath_removed, remade}
use Rattle.q_model.specs.Find.{count_nodes, depth, node_at}
use Rattle.q_model.specs.Node.{Discipline, Own, Node, Shape, children, shape, side_by_side}
use Rattle.q_model.specs.Make.{Device}
use Rattle.q_model.specs.QdiscCommands.{all_kept}
use Rattle.q_model.proofs.ShrinkSteps.{with_edit-stands}
use Rattle.q_model.specs.Refusals.{Check, done_unless, first_refusal, most_levels, most_nodes, refuse}
use Rattle.q_model.specs.Step.{DeviceState, losses_in}
use Rattle.q_model.specs.Tally.{Note, Tally, noted, totals}
use Rattle.q_model.specs.Ranges.{IsCommand}
use Rattle.q_model.specs.TreeState.{plan, with_edit}
use Rattle.q_model.specs.Work.{losses_of}
use Rattle.q_invariants.proofs.edit.EditChildren.{gone_is, gone_none, kept_there, kids, kids_all}
use Rattle.q_invariants.proofs.edit.EditSuits.{done_is, length-shape, node_at-shape}
use Rattle.q_invariants.proofs.sizes.MadeSizes.{count-shape, depth-shape}
use Rattle.q_invariants.proofs.tree.Forests.{side-nodes}
use Rattle.q_tree.specs.commands.Commands.{IsAnswered, IsBounded, IsDone, IsPlanned, IsPlannedFor, IsPlanOf, IsRefused, device_edited, told}
use Rattle.q_tree.specs.commands.DisciplineChanges.{KeepsAll, children_after, discipline_after, lost_with}
use Rattle.q_tree.specs.commands.Editing.{IsReady, LosesNothing, TakesMemory, edited_by, effect, removed, removed_at}
use Rattle.q_tree.specs.commands.Planning.{IsLawful, root_of}
use Rattle.q_tree.specs.Kept.{Kept, kept}
use Rattle.q_tree.specs.TreeSeen.{IsKeptDevice, numbers, tree_numbers}
use Rattle.q_tree.specs.declared.commands.edit.Edit.{Edit}
use Rattle.q_tree.specs.declared.commands.edit.Edit.TheVariants.{Graft, AddFilter, RemoveFilters, DisciplineChange}
use Rattle.q_tree.specs.declared.commands.discipline_change.DisciplineChange as shapes
use Rattle.q_tree.specs.declared.commands.discipline_change.DisciplineChange.TheVariants.{Nothing, SetLimit, SetBands, SetBucket, SetOptions, AddClass, SetQuantum, RemoveClass}
use Rattle.q_tree.specs.declared.commands.planned.Planned.{Planned}
use Rattle.q_tree.specs.declared.commands.planner.Planner.{Planner}
use Rattle.q_tree.specs.declared.tree.Tree.TheInside.{Inside}
use Rattle.q_tree.proofs.TreeLemmas.{same-shape, stands}
use Rattle.q_tree.specs.answers.Showing.{IsNumbered}
use Rattle.q_tree.proofs.arrival.TreePuts.{levels}

-- ---- the answer

-- a device that was edited is the one of the plan
edited-is : (e : Edit) (path : List ℕ) (now : ℕ) (d : DeviceState Kept) (p : IsPlanned e path now d.tree.device d.tree.root)
    → device_edited e path now d ≡ record { clock = now; tree = with_edit kept p.edit d.tree }
edited-is e path now d p = λ i. record {
  clock = now;
  tree = record { device = d.tree.device; top = ap (λ ps. noted kept d.tree.top (losses_of Purged ps)) p.lost i; root = p.same i };
}

-- and its numbers are those of the plan
pub done-numbers : (now : ℕ) (edit : model.Edit) (d after : DeviceState Kept) → after ≡ record { clock = now; tree = with_edit kept edit d.tree }
    → numbers after ≡ record { clock = now; tree = with_edit totals edit (tree_numbers d.tree) }
done-numbers now edit d after is = ap numbers is ∙ ap (λ t. record { clock = now; tree = t }) (with_edit-stands kept totals (λ (k : Kept). k.counts) stands edit d.tree)

pub numbers-after : (e : Edit) (path : List ℕ) (now : ℕ) (d after : DeviceState Kept) (p : IsPlanned e path now d.tree.device d.tree.root) → after ≡ device_edited e path now d
    → numbers after ≡ record { clock = now; tree = with_edit totals p.edit (tree_numbers d.tree) }
numbers-after e path now d after p is = done-numbers now p.edit d after (is ∙ edited-is e path now d p)

-- a refusal that `?` passes on
pub err-passed : {T : Type 0} (r : Result T Refusal) (e : Refusal) (P : Result T Refusal → Type 0) → IsErrAnd r (λ q. q ≡ e) → P (Err e) → P r
err-passed (Ok t) e P same p = absurd same
err-passed (Err q) e P same p = subst (λ x. P (Err x)) (sym same) p

module _ (memory : Type 0) (command : Command) (d : DeviceState Kept) (now : ℕ) (answer : Result Planned Refusal) (is_plan : IsPlanOf memory command now d.tree.device d.tree.root answer) where
  abbrev planned : Result model.Edit Refusal
  planned = plan d.tree.device now command (shape d.tree.root)

  module _ (p : Planned) (is : answer ≡ Ok p) where
    pub tree-planned : IsPlannedFor memory command p now d.tree.device d.tree.root
    tree-planned = subst (IsPlanOf memory command now d.tree.device d.tree.root) is is_plan

    tree-plan : planned ≡ Ok tree-planned.planned.edit
    tree-plan = ap (λ c. plan d.tree.device now c (shape d.tree.root)) (sym tree-planned.asked) ∙ tree-planned.planned.planned

    pub tree-answered : (after : DeviceState Kept) (result : Result (Unit {0}) Refusal) → OnOk result (after ≡ device_edited p.edit p.path.items now d)
        → IfErr result (λ why. (why ≡ Memory) × TakesMemory p.edit) → OnErr result (after ≡ d) → IsAnswered memory now planned d after result
    tree-answered after (Ok done) edited memory_refused unchanged = subst (λ q. IsDone now q d after) (sym tree-plan) (edited ∙ edited-is p.edit p.path.items now d tree-planned.planned)
    tree-answered after (Err why) edited memory_refused unchanged =
        (subst (λ q. IsRefused memory q why) (sym tree-plan) (memory_refused.0, tree-planned.takes memory_refused.1), unchanged)

    -- the losses that are told are those of the plan
    pub tree-room-for : length (removed_at p.edit p.path.items d.tree.root) ≤ length (beneath d.tree.root)
    tree-room-for =
        let loses = edited-loses p.edit p.path.items d.tree.root tree-planned.planned.ready tree-planned.planned.there in
        omega (arith, loses.conserved one, weigh-count (beneath d.tree.root), weigh-count (removed_at p.edit p.path.items d.tree.root))

    told-done : told planned (shape d.tree.root) (Ok tt) ≡ purged (removed_at p.edit p.path.items d.tree.root)
    told-done =
        ap (λ q. told q (shape d.tree.root) (Ok tt)) tree-plan
        ∙ ap (λ ps. losses_in (losses_of Purged ps)) (sym tree-planned.planned.lost)
        ∙ told-purged (removed_at p.edit p.path.items d.tree.root)

    told-none : (why : Refusal) → told planned (shape d.tree.root) (Err why) ≡ []
    told-none why = ap (λ q. told q (shape d.tree.root) (Err why)) tree-plan

    pub tree-told : (before after : SinkState) (result : Result (Unit {0}) Refusal)
        → OnOk result (IsTold (purged (removed_at p.edit p.path.items d.tree.root)) before after) → OnErr result (after ≡ before)
        → IsTold (told planned (shape d.tree.root) result) before after
    tree-told before after (Ok done) ok err = subst (λ xs. IsTold xs before after) (sym told-done) ok
    tree-told before after (Err why) ok err =
        subst (λ s. IsTold (told planned (shape d.tree.root) (Err why)) before s) (sym err)
        (subst (λ xs. IsTold xs before before) (sym (told-none why)) (told_nothing before))

-- an edit that loses nothing
quiet-lost : (r : shapes.DisciplineChange) (d : Discipline) (ns : List (Node Kept)) → KeepsAll r → lost_with r d ns ≡ []
quiet-lost Nothing d ns h = refl
quiet-lost (SetLimit limit) d ns h = refl
quiet-lost (SetBands options leaves) d ns h = absurd h
quiet-lost (SetBucket bucket limit) d ns h = refl
quiet-lost (SetOptions options) d ns h = refl
quiet-lost (AddClass class quantum leaf) d ns h = refl
quiet-lost (SetQuantum class quantum) d ns h = refl
quiet-lost (RemoveClass class) d ns h = absurd h

pub quiet-removed : (e : Edit) (path : List ℕ) (n : Node Kept) → LosesNothing e → removed_at e path n ≡ []
quiet-removed (Graft new) path n h = absurd h
quiet-removed (AddFilter f) path n h = by (node_at path n) where
  by : (o : Option (Node Kept)) → option_map_or (removed (AddFilter f)) o [] ≡ []
  by None = refl
  by (Some m) = refl
quiet-removed (RemoveFilters prio) path n h = by (node_at path n) where
  by : (o : Option (Node Kept)) → option_map_or (removed (RemoveFilters prio)) o [] ≡ []
  by None = refl
  by (Some m) = refl
quiet-removed (DisciplineChange r) path n h = by (node_at path n) where
  by : (o : Option (Node Kept)) → option_map_or (removed (DisciplineChange r)) o [] ≡ []
  by None = refl
  by (Some m) = quiet-lost r m.own.discipline (children m) h

-- ---- a node that is made anew

-- an edit is told by what it makes of the node at the end of its way
edited-end : {M : Type 0} (t : Tally M) (notes : List Note) (f g : Node M → Node M) (path : List ℕ) (root n : Node M) → node_at path root ≡ Some n
    → f n ≡ g n → edited_at t notes f path root ≡ edited_at t notes g path root
edited-end t notes f g [] root n at same = ap f (same_Some root n at) ∙ same ∙ sym (ap g (same_Some root n at))
edited-end {M} t notes f g (i ∷ path) root n at same = by (slice_get (children root) i) at (λ c there. edited-end t notes f g path c n there same) where
  by : (o : Option (Node M)) → option_and_then (node_at path) o ≡ Some n → ((c : Node M) → node_at path c ≡ Some n → edited_at t notes f path c ≡ edited_at t notes g path c)
      → option_map_or (λ child. above t notes i (edited_at t notes f path child) root) o root ≡ option_map_or (λ child. above t notes i (edited_at t notes g path child) root) o root
  by None there on = refl
  by (Some c) there on = ap (λ x. above t notes i x root) (on c there)

-- an edit that gives the node at the end of its way other settings and children
module _ (device : Device) (root : Node Kept) (p : Planned) (ready : IsReady p.edit) (n : Node Kept) (there : node_at p.path.items root ≡ Some n) (own : Own) (below : List model.Child)
    (lost_is : removed p.edit n ≡ beneath_removed below (shape n))
    (does : effect p.edit n ≡ remade kept own below (losses_of Purged (removed p.edit n)) n)
    (command : Command) (ranges : IsCommand command) (now : ℕ)
    (plan-is : plan device now command (shape root) ≡ Ok (Remake p.path.items own below)) where
  abbrev remake : model.Edit
  remake = Remake p.path.items own below

  abbrev notes : List Note
  notes = losses_of Purged (removed_at p.edit p.path.items root)

  here : removed_at p.edit p.path.items root ≡ removed p.edit n
  here = ap (λ o. option_map_or (removed p.edit) o []) there

  remade-lost : removed_at p.edit p.path.items root ≡ packets_removed remake (shape root)
  remade-lost = here ∙ lost_is ∙ sym (ap (λ o. option_map_or (beneath_removed below) o []) (node_at-shape p.path.items root ∙ ap (option_map shape) there))

  remade-same : edited_by p.edit p.path.items root ≡ model.edited kept (lost_by remake (shape root)) remake root
  remade-same =
      edited-end kept notes (effect p.edit) (remade kept own below notes) p.path.items root n there (does ∙ ap (λ ps. remade kept own below (losses_of Purged ps) n) (sym here))
      ∙ ap (λ ps. edited_at kept (losses_of Purged ps) (remade kept own below (losses_of Purged ps)) p.path.items root) remade-lost

  pub remade-planned : (memory : Type 0) → (TakesMemory p.edit → memory) → IsPlannedFor memory command p now device root
  remade-planned memory takes = record {
    planned = record {
      command = command;
      ranges = ranges;
      edit = remake;
      planned = plan-is;
      lost = remade-lost;
      same = remade-same;
      there = ap is_some there;
      ready = ready;
    };
    asked = refl;
    takes = takes;
  }

-- other settings alone: all children stay
module _ (n : Node Kept) where
  pub all-stay : beneath_removed (all_kept (shape n)) (shape n) ≡ []
  all-stay =
      gone_is (λ j. list_any (keeps j) (all_kept (shape n))) 0 (children (shape n))
      ∙ gone_none (λ j. list_any (keeps j) (all_kept (shape n))) 0 (map beneath (children (shape n)))
      (λ j le lt. kept_there j 0 (length (children (shape n))) le (omega (arith, lt, length-map (children (shape n)) beneath)))

  pub own-lost : (e : Edit) → removed e n ≡ [] → removed e n ≡ beneath_removed (all_kept (shape n)) (shape n)
  own-lost e nothing_lost = nothing_lost ∙ sym all-stay

  pub own-does : (e : Edit) (own : Own) → effect e n ≡ record n { own = own } → removed e n ≡ [] → effect e n ≡ remade kept own (all_kept (shape n)) (losses_of Purged (removed e n)) n
  own-does e own does nothing_lost = does ∙ sym (λ i. record {
    own = own;
    memory = noted kept n.memory (losses_of Purged (nothing_lost i));
    below = (ap side_by_side (kids_all kept (children n) (length (children (shape n))) (length-shape n)) ∙ side-nodes n.below) i;
  })

-- ---- the bounds of a tree

pub bounded : (a : Inside) (k : IsKeptDevice a) → IsBounded a.root
bounded a k = record {
  levels = levels a k;
  nodes = omega (arith, k.keeps.few, count-shape k.history.root, count-shape a.root, ap (λ (s : Shape). count_nodes s) (same-shape a k));
}

-- those of the tree over which a command is planned
pub bounded-by : (p : Planner) → IsBounded (root_of p)
bounded-by p = record { levels = p.qdiscs.levels; nodes = p.qdiscs.nodes }

pub numbered-by : (p : Planner) → IsLawful p → IsNumbered (root_of p)
numbered-by p lawful = record { mtu = p.mtu; clock = p.moment; lawful = lawful }

module _ (root : Node Kept) (h : IsBounded root) where
  pub shallow : depth (shape root) ≤ most_levels
  shallow = omega (arith, h.levels, depth-shape root)

  pub few : count_nodes (shape root) ≤ most_nodes
  few = omega (arith, h.nodes, count-shape root)

-- ---- the checks of a new filter

abbrev pub add_answer : Bool → Bool → Bool → Bool → Result (Unit {0}) Refusal
add_answer classful other_class no_class many =
    done_unless (refuse NotClassful (not classful) ∷ refuse NoClass (other_class || no_class) ∷ refuse TooMany many ∷ []) tt

pub none-is : (o : Option ℕ) → is_some o ≡ false → is_none o ≡ true
none-is None e = refl
none-is (Some k) e = absurd (false≢true (sym e))

pub some-is : (o : Option ℕ) → is_some o ≡ true → is_none o ≡ false
some-is None e = absurd (false≢true e)
some-is (Some k) e = refl

-- checks that pass for one thing pass for another
pub same-refusal : {A B : Type 0} (checks : List Check) (a : A) (b : B) (refusal : Refusal) → done_unless checks a ≡ Err refusal → done_unless checks b ≡ Err refusal
same-refusal {A} {B} checks a b refusal e = by (first_refusal checks) e where
  by : (o : Option Refusal) → ◌≡◌ {A = Result A Refusal} (option_map_or (λ r. Err r) o (Ok a)) (Err refusal) → ◌≡◌ {A = Result B Refusal} (option_map_or (λ r. Err r) o (Ok b)) (Err refusal)
  by None e = absurd cc
  by (Some r) e = cc

pub all-passed : {A B : Type 0} (checks : List Check) (a : A) (b : B) → done_unless checks a ≡ Ok a → done_unless checks b ≡ Ok b
all-passed checks a b e = ap (λ o. option_map_or (λ r. Err r) o (Ok b)) (done_is checks a a e).0

-- ---- the plan of a line that gives a qdisc other settings

pub refused-plan : (memory : Type 0) (plan : Result model.Edit Refusal) (refusal : Refusal) → plan ≡ Err refusal → IsRefused memory plan refusal
refused-plan memory plan refusal e = subst (λ p. IsRefused memory p refusal) (sym e) refl

pub own-kept : (r : shapes.DisciplineChange) (n : Node Kept) → lost_with r n.own.discipline (children n) ≡ [] → children_after r n.own.discipline (children n) ≡ children n
    → effect (DisciplineChange r) n ≡ record n { own = record n.own { discipline = discipline_after r n.own.discipline (children n) } }
own-kept r n nothing_lost all = λ i. record {
  own = record n.own { discipline = discipline_after r n.own.discipline (children n) };
  memory = noted kept n.memory (losses_of Purged (nothing_lost i));
  below = (ap side_by_side all ∙ side-nodes n.below) i;
}

-- children that are named by what becomes of them
pub change-does : (r : shapes.DisciplineChange) (n : Node Kept) (own : Own) (below : List model.Child)
    → ◌≡◌ {A = Own} (record n.own { discipline = discipline_after r n.own.discipline (children n) }) own
    → children_after r n.own.discipline (children n) ≡ kids kept (children n) below → effect (DisciplineChange r) n ≡ remade kept own below (losses_of Purged (removed (DisciplineChange r) n)) n
change-does r n own below own_is kids_is = λ i. record {
  own = own_is i;
  memory = noted kept n.memory (losses_of Purged (lost_with r n.own.discipline (children n)));
  below = side_by_side (kids_is i);
}

pub own-planned : (device : Device) (root : Node Kept) (p : Planned) → IsReady p.edit → (n : Node Kept) → node_at p.path.items root ≡ Some n
    → (own : Own) → effect p.edit n ≡ record n { own = own } → removed p.edit n ≡ []
    → (command : Command) → IsCommand command → (now : ℕ) → plan device now command (shape root) ≡ Ok (Remake p.path.items own (all_kept (shape n)))
    → (memory : Type 0) → (TakesMemory p.edit → memory) → IsPlannedFor memory command p now device root
own-planned device root p ready n there own does nothing_lost command ranges now plan-is memory takes =
    remade-planned device root p ready n there own (all_kept (shape n)) (own-lost n p.edit nothing_lost) (own-does n p.edit own does nothing_lost) command ranges now plan-is memory takes
