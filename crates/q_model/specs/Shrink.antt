-- A tree where each node remembers something else: totals in place of its history, above all.
-- The rules read no memory, so it makes no difference whether a tree is shrunk before a step or after it.
use Rattle.std.specs.Prelude.{◌≡◌, List}
use Rattle.q_model.specs.Tally.{Tally, Note, Counts, counts_in}
use Rattle.q_model.specs.Node.{with_memory}
use Rattle.q_model.specs.TreeState.{TreeState}

-- one way to remember stands for another: for nothing, and for one note more
pub record StandsFor {M N : Type 0} (t : Tally M) (u : Tally N) (f : M → N) : Type 0 where
  pub nothing : f t.none ≡ u.none
  pub one_more : (m : M) (n : Note) → f (t.more m n) ≡ u.more (f m) n

abbrev pub remembering : {M N : Type 0} → (M → N) → TreeState M → TreeState N
remembering f s = record { device = s.device; top = f s.top; root = with_memory f s.root }

-- totals in place of histories
abbrev pub shrunk : TreeState (List Note) → TreeState Counts
shrunk s = remembering counts_in s
