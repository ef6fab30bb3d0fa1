-- Which commands may want memory: those that make nodes or filters (tc(8), `add`), and a change of a prio.
use Rattle.std.specs.Prelude.{Result}
use Rattle.q_model.specs.declared.command.Command.{Command}
use Rattle.q_model.specs.declared.command.Command.TheVariants.{QdiscAdd, QdiscChange, QdiscDel, ClassAdd, ClassChange, ClassDel, FilterAdd, FilterDel}
use Rattle.q_model.specs.declared.kind.Kind.{Kind}
use Rattle.q_model.specs.declared.kind.Kind.TheVariants as kind
use Rattle.q_model.specs.declared.refusal.Refusal.{Refusal}
use Rattle.q_model.specs.Edit as model
use Rattle.q_tree.specs.commands.Changing.{NeedsMore}
use Rattle.q_tree.specs.commands.Commands.{takes_memory, takes_none}
use Rattle.q_tree.specs.commands.Making.{NeedsMemory}

-- a command that the tree plans so may want memory
abbrev pub WantsMemory : Command → Result model.Edit Refusal → Type 0
WantsMemory (QdiscAdd place handle kind) plan = NeedsMemory kind
WantsMemory (QdiscChange place handle kind) plan = NeedsMore kind plan
WantsMemory (QdiscDel place handle) plan = takes_none
WantsMemory (ClassAdd parent class quantum) plan = takes_memory
WantsMemory (ClassChange parent class quantum) plan = takes_none
WantsMemory (ClassDel parent class) plan = takes_none
WantsMemory (FilterAdd parent major filter) plan = takes_memory
WantsMemory (FilterDel parent prio) plan = takes_none

-- the same, so far as the line says it: a prio may get more bands
abbrev pub MayGetBands : Kind → Type 0
MayGetBands (kind.Pfifo limit) = ⊥
MayGetBands (kind.Bfifo limit) = ⊥
MayGetBands (kind.Prio options) = Unit {0}
MayGetBands (kind.Tbf rate burst limit) = ⊥
MayGetBands kind.Drr = ⊥
MayGetBands (kind.FqCodel options) = ⊥

abbrev pub MayTakeMemory : Command → Type 0
MayTakeMemory (QdiscAdd place handle kind) = NeedsMemory kind
MayTakeMemory (QdiscChange place handle kind) = MayGetBands kind
MayTakeMemory (QdiscDel place handle) = takes_none
MayTakeMemory (ClassAdd parent class quantum) = takes_memory
MayTakeMemory (ClassChange parent class quantum) = takes_none
MayTakeMemory (ClassDel parent class) = takes_none
MayTakeMemory (FilterAdd parent major filter) = takes_memory
MayTakeMemory (FilterDel parent prio) = takes_none
