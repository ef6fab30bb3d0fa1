-- What a command comes to (tc(8)): the model's plan says whether it is refused, and why, or which edit of the tree is done.
use Rattle.std.specs.Prelude.{◌≡◌, ◌≤◌, ◌+◌, ◌++◌, ℕ, List, [], IsSome, Result, Ok, Err}
use Rattle.q_codel.specs.declared.loss.Loss.{Loss}
use Rattle.q_model.specs.declared.class_id.ClassId.{ClassId}
use Rattle.q_model.specs.declared.command.Command.{Command}
use Rattle.q_model.specs.declared.refusal.Refusal.{Refusal}
use Rattle.q_model.specs.declared.refusal.Refusal.TheVariants.{CannotChange, Memory, NotClassful}
use Rattle.q_model.specs.ClassCommands.{class_add_checks}
use Rattle.q_model.specs.Edit as model
use Rattle.q_model.specs.Find.{node_at, depth, count_nodes}
use Rattle.q_model.specs.Make.{Device}
use Rattle.q_model.specs.Node.{Discipline, Fifo, Prio, Tbf, Drr, FqCodel, Node, Shape, shape}
use Rattle.q_model.specs.Ranges.{IsCommand}
use Rattle.q_model.specs.Refusals.{Check, done_unless, most_levels, most_nodes}
use Rattle.q_model.specs.Step.{DeviceState, losses_in}
use Rattle.q_model.specs.Tally.{noted}
use Rattle.q_model.specs.TreeState.{plan, with_edit}
use Rattle.q_invariants.specs.Sizes.{sizes}
use Rattle.q_tree.specs.commands.Editing.{removed_at, notes_of, edited_by, IsReady, TakesMemory}
use Rattle.q_tree.specs.Kept.{Kept, kept}
use Rattle.q_tree.specs.declared.commands.edit.Edit.{Edit}
use Rattle.q_tree.specs.declared.commands.planned.Planned.{Planned}

-- what the model plans for a command
abbrev pub plan_of : Command → ℕ → DeviceState Kept → Result model.Edit Refusal
plan_of command now d = plan d.tree.device now command (shape d.tree.root)

-- whether a command takes memory
abbrev pub takes_memory : Type 0
takes_memory = Unit {0}

abbrev pub takes_none : Type 0
takes_none = ⊥

-- the first refusal that holds; where none does, an allocation failure, of a command that takes memory
abbrev pub IsRefused : Type 0 → Result model.Edit Refusal → Refusal → Type 0
IsRefused memory (Err first) refusal = refusal ≡ first
IsRefused memory (Ok edit) refusal = (refusal ≡ Memory) × memory

-- The edit of the plan is done. A queue that stays has the places that it had, and a new one has none.
abbrev pub IsDone : ℕ → Result model.Edit Refusal → DeviceState Kept → DeviceState Kept → Type 0
IsDone now (Ok edit) before after = after ≡ record { clock = now; tree = with_edit kept edit before.tree }
IsDone now (Err refusal) before after = ⊥

-- a command that is refused changes nothing
abbrev pub IsAnswered : Type 0 → ℕ → Result model.Edit Refusal → DeviceState Kept → DeviceState Kept → Result (Unit {0}) Refusal → Type 0
IsAnswered memory now plan before after (Ok done) = IsDone now plan before after
IsAnswered memory now plan before after (Err refusal) = IsRefused memory plan refusal × (after ≡ before)

-- what is lost by a command: nothing where it is refused
abbrev pub told : Result model.Edit Refusal → Shape → Result (Unit {0}) Refusal → List Loss
told (Ok edit) root (Ok done) = losses_in (model.lost_by edit root)
told (Ok edit) root (Err refusal) = []
told (Err first) root answer = []

-- the device after an edit at the end of this path
abbrev pub device_edited : Edit → List ℕ → ℕ → DeviceState Kept → DeviceState Kept
device_edited e path now d = record {
  clock = now;
  tree = record d.tree { top = noted kept d.tree.top (notes_of e path d.tree.root); root = edited_by e path d.tree.root };
}

-- an edit of the code is the one that the model plans for a command, whose numbers are in their ranges
pub record IsPlanned (e : Edit) (path : List ℕ) (now : ℕ) (device : Device) (root : Node Kept) : Type 0 where
  pub command : Command
  pub ranges : IsCommand command
  pub edit : model.Edit
  pub planned : plan device now command (shape root) ≡ Ok edit
  pub lost : removed_at e path root ≡ model.packets_removed edit (shape root)
  pub same : edited_by e path root ≡ model.edited kept (model.lost_by edit (shape root)) edit root
  pub there : IsSome (node_at path root)
  pub ready : IsReady e

-- and it is the edit for this command, which takes no more memory
pub record IsPlannedFor (memory : Type 0) (command : Command) (p : Planned) (now : ℕ) (device : Device) (root : Node Kept) : Type 0 where
  pub planned : IsPlanned p.edit p.path.items now device root
  pub asked : planned.command ≡ command
  pub takes : TakesMemory p.edit → memory

-- what is found out about a command before anything is changed
abbrev pub IsPlanOf : Type 0 → Command → ℕ → Device → Node Kept → Result Planned Refusal → Type 0
IsPlanOf memory command now device root (Ok p) = IsPlannedFor memory command p now device root
IsPlanOf memory command now device root (Err refusal) = IsRefused memory (plan device now command (shape root)) refusal

-- a tree within its bounds
pub record IsBounded (root : Node Kept) : Type 0 where
  pub levels : depth root ≤ most_levels
  pub nodes : count_nodes root ≤ most_nodes

-- the answer of a qdisc whose classes are added, changed and removed by themselves, as a drr's are (tc-drr(8))
abbrev pub drr_answer : List Check → Discipline → Result (Unit {0}) Refusal
drr_answer checks (Drr s) = done_unless checks tt
drr_answer checks (Fifo limit queue) = Err NotClassful
drr_answer checks (FqCodel s) = Err NotClassful
drr_answer checks (Prio priomap) = Err CannotChange
drr_answer checks (Tbf bucket limit) = Err CannotChange

-- the refusals of a class more, in a tree that has one node more then, one level below the qdisc
abbrev pub class_add_sized : ClassId → ℕ → Shape → Node Kept → List Check
class_add_sized class steps n root = class_add_checks class n ++ sizes (steps + 2) (count_nodes root + 1)
