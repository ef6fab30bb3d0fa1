-- Over what a command is planned (tc(8)): a tree, the device that lends to its qdiscs (ip-link(8)), and a time.
use Rattle.std.specs.Prelude.{Result}
use Rattle.q_invariants.specs.Kept.{IsLawfulRoot}
use Rattle.q_model.specs.declared.command.Command.{Command}
use Rattle.q_model.specs.declared.command.Command.TheVariants.{QdiscAdd, QdiscChange, QdiscDel, ClassAdd, ClassChange, ClassDel, FilterAdd, FilterDel}
use Rattle.q_model.specs.declared.refusal.Refusal.{Refusal}
use Rattle.q_model.specs.Edit as model
use Rattle.q_model.specs.Make.{Device}
use Rattle.q_model.specs.Node.{Node, shape}
use Rattle.q_model.specs.TreeState.{plan}
use Rattle.q_tree.specs.commands.Commands.{IsPlanOf}
use Rattle.q_tree.specs.Kept.{Kept}
use Rattle.q_tree.specs.declared.commands.planned.Planned.{Planned}
use Rattle.q_tree.specs.declared.commands.planner.Planner.{Planner}

abbrev pub device_of : Planner → Device
device_of p = record { mtu = p.mtu; txqueuelen = p.txqueuelen }

abbrev pub root_of : Planner → Node Kept
root_of p = p.qdiscs.root.now

-- all disciplines of the tree are lawful at that time
abbrev pub IsLawful : Planner → Type 0
IsLawful p = IsLawfulRoot p.mtu p.moment (root_of p)

-- what the model plans there
abbrev pub planned_by : Planner → Command → Result model.Edit Refusal
planned_by p command = plan (device_of p) p.moment command (shape (root_of p))

-- what is found out about a command there, before anything is changed
abbrev pub IsPlanBy : Planner → Type 0 → Command → Result Planned Refusal → Type 0
IsPlanBy p memory command answer = IsPlanOf memory command p.moment (device_of p) (root_of p) answer

-- the commands that lose nothing, whatever is queued
abbrev pub IsLossless : Command → Type 0
IsLossless (QdiscAdd place handle kind) = ⊥
IsLossless (QdiscChange place handle kind) = ⊥
IsLossless (QdiscDel place handle) = ⊥
IsLossless (ClassAdd parent class quantum) = Unit {0}
IsLossless (ClassChange parent class quantum) = Unit {0}
IsLossless (ClassDel parent class) = ⊥
IsLossless (FilterAdd parent major filter) = Unit {0}
IsLossless (FilterDel parent prio) = Unit {0}
