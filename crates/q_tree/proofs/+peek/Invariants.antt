use Rattle.std.proofs.Common.{◌≡◌, ◌+◌, ◌*◌}
use Rattle.std.specs.List.{sum_by}
use Rattle.q_drr.specs.Schedule.{quantum_of}
use Rattle.q_drr.specs.Take.{need}
use Rattle.q_model.specs.Node.{side_by_side}
use Rattle.q_tree.specs.departure.AskSteps.{IsToldOf, answers, signals_of}
use Rattle.q_tree.specs.NodeCode.{node_size, forest_size}
use Rattle.q_tree.specs.Seen.{children_seen}
use Rattle.q_tree.proofs.disciplines.AskBands.{AreBandsAsked, told_to}
use Rattle.q_tree.proofs.disciplines.RoundsServed.{IsInRound}
use Rattle.q_tree.proofs.disciplines.ServeLemmas.{AreClassesAsked, heads_of}
use Rattle.q_tree.proofs.+peek.Given as goal

abbrev pub invariant-disciplines::drr::meet_class-loop-place : goal.invariant-disciplines::drr::meet_class-loop-place
invariant-disciplines::drr::meet_class-loop-place g l =
    AreClassesAsked l.fn.now l.fn.active l.active l.fn.classes l.classes l.unasked l.shown (g.S.Sink.state l.fn.sink) (g.S.Sink.state l.sink)
    × g.S.Sink.keeps l.fn.sink l.sink
    × (l.signals ≡ signals_of l.shown)
    × IsInRound l.fn.now l.fn.active l.active l.fn.classes l.unasked l.round

-- each grant lowers one class's need of grants by one
abbrev pub decreases-disciplines::drr::meet_class-loop-place : goal.decreases-disciplines::drr::meet_class-loop-place
decreases-disciplines::drr::meet_class-loop-place g l = sum_by (need (λ m. quantum_of m l.active.classes) (heads_of l.fn.now l.fn.active l.fn.classes)) l.active.active

abbrev pub invariant-disciplines::prio::peek_bands-loop-place : goal.invariant-disciplines::prio::peek_bands-loop-place
invariant-disciplines::prio::peek_bands-loop-place g l =
    AreBandsAsked l.fn.now l.fn.bands l.bands l.place l.shown
    × IsToldOf (told_to l.place (answers l.fn.now l.fn.bands)) (g.S.Sink.state l.fn.sink) (g.S.Sink.state l.sink)
    × g.S.Sink.keeps l.fn.sink l.sink
    × (l.signals ≡ signals_of l.shown)

-- each call goes further down the tree
abbrev pub decreases-node::Node::peek : goal.decreases-node::Node::peek
decreases-node::Node::peek g l = 4 * node_size l.self.now + 1

abbrev pub decreases-node::Node::peek_further : goal.decreases-node::Node::peek_further
decreases-node::Node::peek_further g l = 4 * node_size l.self.now

abbrev pub decreases-node::Discipline::ask : goal.decreases-node::Discipline::ask
decreases-node::Discipline::ask g l = 4 * forest_size (side_by_side (children_seen l.self.now)) + 3

abbrev pub decreases-node::Node::peek_after_counts : goal.decreases-node::Node::peek_after_counts
decreases-node::Node::peek_after_counts g l = 4 * node_size l.self.now + 2

abbrev pub decreases-node::Node::peek_after : goal.decreases-node::Node::peek_after
decreases-node::Node::peek_after g l = 4 * node_size l.self.now + 3

abbrev pub decreases-disciplines::prio::peek_bands : goal.decreases-disciplines::prio::peek_bands
decreases-disciplines::prio::peek_bands g l = 4 * forest_size (side_by_side l.bands.now) + 2

abbrev pub decreases-disciplines::tbf::peek_child : goal.decreases-disciplines::tbf::peek_child
decreases-disciplines::tbf::peek_child g l = 4 * node_size l.child.now + 3

abbrev pub decreases-disciplines::tbf::allow_child : goal.decreases-disciplines::tbf::allow_child
decreases-disciplines::tbf::allow_child g l = 4 * node_size l.child.now + 2

abbrev pub decreases-disciplines::drr::peek_classes : goal.decreases-disciplines::drr::peek_classes
decreases-disciplines::drr::peek_classes g l = 4 * forest_size (side_by_side l.classes.now) + 2

abbrev pub decreases-disciplines::drr::peek_class : goal.decreases-disciplines::drr::peek_class
decreases-disciplines::drr::peek_class g l = 4 * node_size l.class.now + 4

abbrev pub decreases-disciplines::drr::meet_class : goal.decreases-disciplines::drr::meet_class
decreases-disciplines::drr::meet_class g l = 4 * forest_size (side_by_side l.classes.now) + 1
