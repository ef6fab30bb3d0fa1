-- How a command is refused: the first refusal that holds, in the order in which they are listed.
-- The refusals and their order are this project's choice.
use Rattle.std.specs.Prelude.{ℕ, Bool, true, false, nat_lt, if◌then◌else◌, List, [], ◌∷◌, Option, Some, None, Result, Ok, Err}
use Rattle.std.specs.Option.{option_map_or}
use Rattle.q_model.specs.declared.refusal.Refusal.{Refusal}
use Rattle.q_model.specs.declared.refusal.Refusal.TheVariants.{TooDeep, TooMany}
use Rattle.q_model.specs.Node.{Discipline, Fifo, Prio, Tbf, Drr, FqCodel, Node}
use Rattle.q_model.specs.Find.{depth, count_nodes}

-- a refusal, and whether it holds
pub record Check : Type 0 where
  pub holds : Bool
  pub refusal : Refusal

abbrev pub refuse : Refusal → Bool → Check
refuse refusal holds = record { holds = holds; refusal = refusal }

abbrev pub first_refusal : List Check → Option Refusal
first_refusal [] = None
first_refusal (c ∷ checks) = if c.holds then Some c.refusal else first_refusal checks

-- what is done where no refusal holds
abbrev pub done_unless : {A : Type 0} → List Check → A → Result A Refusal
done_unless checks a = option_map_or (λ refusal. Err refusal) (first_refusal checks) (Ok a)

-- a test of what may not be there
abbrev pub is_so : {A : Type 0} → (A → Bool) → Option A → Bool
is_so test found = option_map_or test found false

-- the bounds on a tree: eight levels of qdiscs, and 256 of them with implicit leaves
abbrev pub most_levels : ℕ
most_levels = 8

abbrev pub most_nodes : ℕ
most_nodes = 256

-- the most filters of one node
abbrev pub most_filters : ℕ
most_filters = 256

-- pfifo, bfifo and fq_codel have no classes
abbrev pub is_classless : Discipline → Bool
is_classless (Fifo limit queue) = true
is_classless (FqCodel s) = true
is_classless (Prio priomap) = false
is_classless (Tbf bucket limit) = false
is_classless (Drr s) = false

-- filters choose among the classes of prio and drr
abbrev pub has_filters : Discipline → Bool
has_filters (Prio priomap) = true
has_filters (Drr s) = true
has_filters (Fifo limit queue) = false
has_filters (Tbf bucket limit) = false
has_filters (FqCodel s) = false

-- the refusals that are tested last, since they speak of the tree that would result: it is too deep, or has too many nodes
abbrev pub size_checks : {M : Type 0} → Node M → List Check
size_checks root = refuse TooDeep (nat_lt most_levels (depth root)) ∷ refuse TooMany (nat_lt most_nodes (count_nodes root)) ∷ []
