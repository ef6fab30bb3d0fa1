use Rattle.std.proofs.Common.{◌≡◌}
use Rattle.q_tree.specs.departure.AskSteps.{IsToldOf, answers, signals_of}
use Rattle.q_tree.proofs.disciplines.AskBands.{AreBandsAsked, told_to}
use Rattle.q_tree.proofs.disciplines.prio.dequeue_bands.Given as goal

abbrev pub invariant-loop-place : goal.invariant-loop-place
invariant-loop-place g l =
    AreBandsAsked l.now l.initial.bands l.bands l.place l.shown
    × IsToldOf (told_to l.place (answers l.now l.initial.bands)) (g.S.Sink.state l.initial.sink) (g.S.Sink.state l.sink)
    × g.S.Sink.keeps l.initial.sink l.sink
    × (l.signals ≡ signals_of l.shown)
    × (l.out ≡ l.initial.out)
