use Rattle.std.proofs.Common.{◌≡◌, ℕ, ◌<◌, ◌≤◌, get_or}
use Rattle.q_drr.specs.Links.{no_link}
use Rattle.q_drr.proofs.GapLemmas.{link_moved}
use Rattle.q_drr.proofs.ring.move_links_down.Given as goal

abbrev pub invariant-loop-link : goal.invariant-loop-link
invariant-loop-link l =
    ((k : ℕ) → k < l.link-index → get_or l.links k no_link ≡ link_moved l.gap (get_or l.initial.links k no_link))
    × ((k : ℕ) → l.link-index ≤ k → get_or l.links k no_link ≡ get_or l.initial.links k no_link)
