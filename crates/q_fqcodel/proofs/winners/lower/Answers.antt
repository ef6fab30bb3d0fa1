use Rattle.std.proofs.Common.{◌≡◌, ◌≢◌, ℕ, ◌+◌, ◌-◌, ◌*◌, ◌/◌, ◌<◌, ◌≤◌, max, List, length, drop, set, ap, ◌∙◌, arith, ⊎_elim}
use Rattle.std.proofs.lemmas.Bool.{cases_eq, cases_lt}
use Rattle.std.proofs.lemmas.List.{length-set, get_or-set_other, drop-set-lt}
use Rattle.q_fqcodel.specs.Winners.{rank_at, above}
use Rattle.q_fqcodel.proofs.WinnerLemmas.{beside_kept, above_kept, above_was, above_is, step_right}
use Rattle.q_fqcodel.proofs.winners.lower.Goals as goal

-- the leaves once the rank stands at its own: the climb writes no other one
leaves_written : (was ranks : List ℕ) (leaf node rank best : ℕ) → node < length was → (length was / 2 ≤ node → (node ≡ leaf) × (ranks ≡ was) × (best ≡ rank))
    → (node < length was / 2 → drop (length was / 2) ranks ≡ drop (length was / 2) (set was leaf rank)) → drop (length was / 2) (set ranks node best) ≡ drop (length was / 2) (set was leaf rank)
leaves_written was ranks leaf node rank best within first leaves =
    let n : ℕ = length was / 2 in
    ⊎_elim
    (λ (inner : node < n). drop-set-lt n ranks node best inner ∙ leaves inner)
    (λ (outer : n ≤ node).
    let f = first outer in
    ap (λ (l : List ℕ). drop n (set l node best)) f.1 ∙ ap (λ (m : ℕ). drop n (set was m best)) f.0 ∙ ap (λ (v : ℕ). drop n (set was leaf v)) f.2)
    (cases_lt node n)

pub loop-ranks-preserved : goal.loop-ranks-preserved
loop-ranks-preserved c =
    let i = c.loop-ranks.invariant in
    let ranks : List ℕ = c.loop-ranks.ranks in
    let node : ℕ = c.loop-ranks.node in
    let rank : ℕ = c.loop-ranks.best in
    let old : ℕ = rank_at c.args.ranks.now c.args.leaf in
    let here : rank_at ranks node ≡ old = c.loop-ranks-test.true in
    let some : 1 ≤ node = ⊎_elim (λ (e : node ≡ 0). absurd (omega (arith, ap (rank_at ranks) e, i.past, here, c.requires.below))) (λ (ne : node ≢ 0). omega (arith, ne)) (cases_eq node 0) in
    let fallen : rank ≤ old = i.fallen here in
    let len : length (set ranks node rank) ≡ length ranks = length-set ranks node rank in
    let kept : rank_at (set ranks node rank) (node / 2) ≡ rank_at ranks (node / 2) = above_kept ranks node rank some i.high i.right in
    let was = above_was ranks node rank some i.high i.right in
    let past : rank_at (set ranks node rank) 0 ≡ above = get_or-set_other ranks node 0 rank 0 (λ e. absurd (omega (arith, e, some))) ∙ i.past in
    let next : c.max-best.result ≡ max rank (rank_at ranks (4 * (node / 2) + 1 - node)) =
    c.max-best.ensures ∙ ap (λ (k : ℕ). max rank (rank_at (set ranks node rank) k)) c.beside.ensures ∙ ap (max rank) (beside_kept ranks node rank some i.high i.right) in
    record {
      high = omega (arith, len, i.high);
      len = len ∙ i.len;
      past = past;
      first = λ h. absurd (omega (arith, h, i.high, i.len, c.requires.ranks.even));
      leaves = λ h. leaves_written c.args.ranks.now ranks c.args.leaf node c.args.rank rank (omega (arith, i.high, i.len)) i.first i.leaves;
      right = step_right ranks node rank some i.high i.right (λ h. i.best (omega (arith, h, i.len)));
      best = λ h. next ∙ above_is ranks node rank some i.high i.right;
      fallen = λ h.
          ⊎_elim
          (λ (e : node / 2 ≡ 0). absurd (omega (arith, ap (rank_at (set ranks node rank)) e, past, h, c.requires.below)))
          (λ (ne : node / 2 ≢ 0). omega (arith, next, kept, h, was (omega (arith, ne)) (omega (arith, i.high, i.len, c.requires.ranks.even)), here, fallen))
          (cases_eq (node / 2) 0);
      stays = λ h low high. omega (arith, next, kept, h, was low (omega (arith, high, i.len)), here, fallen);
    }
