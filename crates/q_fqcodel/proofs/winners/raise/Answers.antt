use Rattle.std.proofs.Common.{◌≡◌, ◌≢◌, ℕ, ◌/◌, ◌<◌, ◌≤◌, List, length, set, refl, ap, ◌∙◌, arith, ⊎_elim}
use Rattle.std.proofs.lemmas.Bool.{cases_eq}
use Rattle.std.proofs.lemmas.List.{length-set, drop-set-lt}
use Rattle.q_fqcodel.specs.Winners.{rank_at, above}
use Rattle.q_fqcodel.proofs.WinnerLemmas.{step_right, past_kept, greater_above, stays_above}
use Rattle.q_fqcodel.proofs.winners.raise.Goals as goal

pub loop-ranks-init : goal.loop-ranks-init
loop-ranks-init c =
    let ranks : List ℕ = c.args.ranks.now in
    let leaf : ℕ = c.args.leaf in
    let rank : ℕ = c.args.rank in
    let r = c.requires.ranks in
    let some : 1 ≤ leaf = omega (arith, r.low, r.high, r.even) in
    let right = λ (k : ℕ) (low : 1 ≤ k) (high : k < length ranks / 2) (ne : k ≢ leaf). r.each k low high (λ e. absurd (omega (arith, e, low))) in
    let fits : rank ≤ above = omega (arith, c.ranges.rank.fits) in
    let len : length (set ranks leaf rank) ≡ length ranks = length-set ranks leaf rank in
    let low : leaf / 2 < length ranks / 2 = omega (arith, r.high, r.even) in
    record {
      low = omega (arith, low, len);
      len = len;
      past = past_kept ranks leaf rank some r.high right r.past fits c.requires.grown low;
      leaves = refl;
      right = step_right ranks leaf rank some r.high right (λ h. absurd (omega (arith, h, r.low)));
      greater = greater_above ranks leaf rank some r.high right r.past fits c.requires.grown low;
      stays = stays_above ranks leaf rank some r.high right r.past fits c.requires.grown low;
    }

pub loop-ranks-preserved : goal.loop-ranks-preserved
loop-ranks-preserved c =
    let i = c.loop-ranks.invariant in
    let ranks : List ℕ = c.loop-ranks.ranks in
    let node : ℕ = c.loop-ranks.node in
    let rank : ℕ = c.args.rank in
    let less : rank_at ranks node < rank = c.loop-ranks-test.true in
    let fits : rank ≤ above = omega (arith, c.ranges.rank.fits) in
    let some : 1 ≤ node = ⊎_elim (λ (e : node ≡ 0). absurd (omega (arith, ap (rank_at ranks) e, i.past, less, fits))) (λ (ne : node ≢ 0). omega (arith, ne)) (cases_eq node 0) in
    let within : node < length ranks = omega (arith, i.low) in
    let grown : rank_at ranks node ≤ rank = omega (arith, less) in
    let low : node / 2 < length ranks / 2 = omega (arith, i.low) in
    let len : length (set ranks node rank) ≡ length ranks = length-set ranks node rank in
    record {
      low = omega (arith, low, len);
      len = len ∙ i.len;
      past = past_kept ranks node rank some within i.right i.past fits grown low;
      leaves = drop-set-lt (length c.args.ranks.now / 2) ranks node rank (omega (arith, i.low, i.len)) ∙ i.leaves;
      right = step_right ranks node rank some within i.right (λ _. i.greater less);
      greater = greater_above ranks node rank some within i.right i.past fits grown low;
      stays = stays_above ranks node rank some within i.right i.past fits grown low;
    }
