use Rattle.std.proofs.Common.{◌≡◌, ◌≤◌}
use Rattle.q_tree.specs.arrival.KeepSteps.{no_sink}
use Rattle.q_tree.specs.departure.AskSteps.{IsToldOf, answers}
use Rattle.q_tree.specs.departure.GiveSteps.{HasFirstHead, nothing_shown}
use Rattle.q_tree.proofs.disciplines.AskBands.{AreBandsAsked, told_to}
use Rattle.q_tree.proofs.departure.giving.give_from_bands.Given as goal

abbrev pub invariant-loop-place : goal.invariant-loop-place
invariant-loop-place l =
    AreBandsAsked l.fn.now l.initial.bands l.bands l.place nothing_shown
    × IsToldOf (told_to l.place (answers l.fn.now l.initial.bands)) no_sink no_sink
    × (l.bands ≡ l.initial.bands)
    × (l.out ≡ l.initial.out)
    × ((h : HasFirstHead l.initial.bands) → l.place ≤ h.place)
