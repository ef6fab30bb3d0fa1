-- How deep a new qdisc is and how many nodes it brings, and the checks of depth and of number from the tree as it stands, so that the
-- edited tree need not be built (tc(8), `add`, `change`). That a tree has a most of each is this project's own.
use Rattle.std.specs.Prelude.{ℕ, suc, ◌+◌, ◌-◌, List, [], ◌∷◌, ◌++◌, Result, drop, length, map, nat_lt}
use Rattle.std.specs.List.{sum}
use Rattle.q_model.specs.declared.kind.Kind.{Kind}
use Rattle.q_model.specs.declared.kind.Kind.TheVariants as kind
use Rattle.q_model.specs.declared.refusal.Refusal.{Refusal}
use Rattle.q_model.specs.declared.refusal.Refusal.TheVariants.{TooDeep, TooMany}
use Rattle.q_model.specs.Edit.{Edit}
use Rattle.q_model.specs.Find.{count_nodes}
use Rattle.q_model.specs.Make.{Device}
use Rattle.q_model.specs.Node.{Discipline, Prio, Shape, children}
use Rattle.q_model.specs.QdiscCommands.{bands_check, change_of, rebanded}
use Rattle.q_model.specs.Refusals.{Check, done_unless, most_levels, most_nodes, refuse}

-- prio and tbf have leaves beneath them
abbrev pub levels_made : Kind → ℕ
levels_made (kind.Prio s) = 2
levels_made (kind.Tbf rate burst limit) = 2
levels_made (kind.Pfifo limit) = 1
levels_made (kind.Bfifo limit) = 1
levels_made kind.Drr = 1
levels_made (kind.FqCodel options) = 1

abbrev pub nodes_made : Kind → ℕ
nodes_made (kind.Prio s) = suc s.bands
nodes_made (kind.Tbf rate burst limit) = 2
nodes_made (kind.Pfifo limit) = 1
nodes_made (kind.Bfifo limit) = 1
nodes_made kind.Drr = 1
nodes_made (kind.FqCodel options) = 1

-- a tree of so many levels and nodes, and one of which the number alone can be too large
abbrev pub sizes : ℕ → ℕ → List Check
sizes levels nodes = refuse TooDeep (nat_lt most_levels levels) ∷ refuse TooMany (nat_lt most_nodes nodes) ∷ []

abbrev pub numbers : ℕ → List Check
numbers nodes = refuse TooMany (nat_lt most_nodes nodes) ∷ []

abbrev pub counts : List Shape → List ℕ
counts ns = map count_nodes ns

-- the nodes of a tree once a prio in it has so many bands: each new one is a leaf, and one that goes takes along what is beneath it
abbrev pub nodes_rebanded : Shape → Shape → ℕ → ℕ
nodes_rebanded root n bands = count_nodes root + (bands - length (children n)) - sum (counts (drop bands (children n)))

abbrev pub change_sized : Device → ℕ → Shape → Shape → List ℕ → Discipline → Kind → Result Edit Refusal
change_sized d now root n path (Prio old) (kind.Prio s) = done_unless (bands_check s.bands n ++ numbers (nodes_rebanded root n s.bands)) (rebanded d n path s.bands s.priomap)
change_sized d now root n path was other = change_of d now n path was other
