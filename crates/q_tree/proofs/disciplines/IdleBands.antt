-- A band of a prio that is a fifo with nothing queued may be passed over: asking it comes to nothing, and leaves it as it is.
use Rattle.std.proofs.Common.{◌≡◌, ℕ, ◌+◌, List, set, ap, subst, Some}
use Rattle.std.specs.Prelude.{is_some, slice_get}
use Rattle.q_codel.specs.Losses.{SinkState}
use Rattle.q_model.specs.Node.{Node}
use Rattle.q_tree.specs.departure.AskSteps.{CanAskEach, IsToldOf, answers}
use Rattle.q_tree.specs.departure.Shown.{Shown}
use Rattle.q_tree.specs.disciplines.EmptyFifo.{IsEmptyFifo}
use Rattle.q_tree.specs.Kept.{Kept}
use Rattle.q_tree.proofs.departure.Asking.{set-same, still-there}
use Rattle.q_tree.proofs.disciplines.AskBands.{AreBandsAsked, band-before, bands-go-on, peeked_to, told_to}
use Rattle.q_tree.proofs.disciplines.EmptyFifo.{idle-asked}

module _ (now : ℕ) (ns ms : List (Node Kept)) (i : ℕ) (s : Shown) (each : CanAskEach now ns) (h : AreBandsAsked now ns ms i s) (c : Node Kept)
    (at : slice_get ns i ≡ Some c) (empty : IsEmptyFifo c) where
  still : set ms i c ≡ ms
  still = set-same ms i c (still-there now ns ms (peeked_to i (answers now ns)) (told_to i (answers now ns)) h.asking i c at (band-before now ns ms i s each h c at))

  pub band-idle : (sink sink_so_far : SinkState) → IsToldOf (told_to i (answers now ns)) sink sink_so_far
      → AreBandsAsked now ns ms (i + 1) s × IsToldOf (told_to (i + 1) (answers now ns)) sink sink_so_far
  band-idle sink sink_so_far so_far =
      let goes = bands-go-on now ns ms i s each h c at c s (idle-asked now c empty s h.nothing sink_so_far) sink so_far (ap is_some h.nothing) in
      (subst (λ (xs : List (Node Kept)). AreBandsAsked now ns xs (i + 1) s) still goes.0, goes.1)
