use Rattle.std.proofs.Common.{◌≡◌, ◌≤◌, drop, length}
use Rattle.q_model.specs.Views.{class_views}
use Rattle.q_setup.specs.Alike.{has_classes}
use Rattle.q_setup.proofs.alike.has_classes.Given as goal

-- all are there just where those that are left are
abbrev pub invariant-loop-j : goal.invariant-loop-j
invariant-loop-j l = record {
  left : has_classes (drop l.j (class_views l.of.1)) (class_views l.node.1) ≡ has_classes (class_views l.of.1) (class_views l.node.1);
  few : l.j ≤ length (class_views l.of.1);
}
