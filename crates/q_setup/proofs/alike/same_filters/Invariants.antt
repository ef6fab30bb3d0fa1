use Rattle.std.proofs.Common.{◌≡◌, ◌≤◌, drop, length}
use Rattle.q_model.specs.Views.{filter_views}
use Rattle.q_setup.proofs.alike.same_filters.Given as goal

-- where they go on alike, all are alike; and as many were compared
abbrev pub invariant-loop-j : goal.invariant-loop-j
invariant-loop-j l = record {
  alike : drop l.j (filter_views l.wanted.1) ≡ drop l.j (filter_views l.node.1) → filter_views l.wanted.1 ≡ filter_views l.node.1;
  few : l.j ≤ length (filter_views l.wanted.1);
}
