-- A fifo with nothing queued, which holds nothing, so that nobody has to ask it (tc-pfifo(8), tc-bfifo(8)).
use Rattle.std.specs.Prelude.{◌≡◌, length, None}
use Rattle.q_model.specs.Node as spec
use Rattle.q_tree.specs.Kept.{Kept}

abbrev pub IsEmptyIn : spec.Discipline → Type 0
IsEmptyIn (spec.Fifo limit packets) = length packets ≡ 0
IsEmptyIn (spec.FqCodel s) = ⊥
IsEmptyIn (spec.Prio priomap) = ⊥
IsEmptyIn (spec.Tbf bucket limit) = ⊥
IsEmptyIn (spec.Drr s) = ⊥

pub record IsEmptyFifo (n : spec.Node Kept) : Type 0 where
  pub free : n.own.held ≡ None
  pub empty : IsEmptyIn n.own.discipline
  pub alone : n.below ≡ spec.none
