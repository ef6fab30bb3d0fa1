use Rattle.std.proofs.Common.{◌≡◌, ◌≤◌, drop, length}
use Rattle.std.specs.List.{list_any}
use Rattle.q_model.specs.Views.{class_views}
use Rattle.q_setup.specs.Alike.{same_share}
use Rattle.q_setup.proofs.alike.has_class.Given as goal

-- it is among all just where it is among those that are left
abbrev pub invariant-loop-j : goal.invariant-loop-j
invariant-loop-j l = record {
  left : list_any (same_share l.class) (drop l.j (class_views l.node.1)) ≡ list_any (same_share l.class) (class_views l.node.1);
  few : l.j ≤ length (class_views l.node.1);
}
