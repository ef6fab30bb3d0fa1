use Rattle.std.proofs.Common.{◌≡◌, ℕ, ◌+◌, ◌*◌, ◌/◌, length, ap, ◌∙◌, arith}
use Rattle.std.proofs.lemmas.List.{length-replicate}
use Rattle.q_fqcodel.specs.Winners.{rank_at}
use Rattle.q_fqcodel.proofs.WinnerLemmas.{bytes_none}
use Rattle.q_fqcodel.proofs.winners.Winners.new.Goals as goal

pub returns : goal.returns
returns c =
    let n : ℕ = c.args.flows in
    let first : length c.in_ok-ranks.ranks.items ≡ 2 * n = ap length (c.in_ok-ranks.ensures.items_if_clones_equal (λ y h. h)) ∙ length-replicate (2 * n) 0 in
    let even : length c.play.new.ranks.items ≡ 2 * n = c.play.ensures.len ∙ first in
    let half : length c.in_ok-ranks.ranks.items / 2 ≡ n = omega (arith, first) in
    bytes_none c.play.new.ranks.items n even
    (λ i h. ap (λ (m : ℕ). rank_at c.play.new.ranks.items (m + i)) (omega (arith, half)) ∙ c.play.ensures.leaves i (omega (arith, h, half)))
