-- Bands that go one after the other, from the first behind those that stay.
use Rattle.std.proofs.Common.{◌≡◌, ℕ, zero, suc, ◌+◌, ◌<◌, ◌∙◌, List, [], ◌∷◌, ◌++◌, append_assoc, take, drop, length, refl, sym, ap, arith}
use Rattle.std.specs.Prelude.{slice_index_or}
use Rattle.std.specs.List.{remove}
use Rattle.std.proofs.lemmas.List.{drop_more, length-append}
use Rattle.std.proofs.lemmas.List.Sums.{sum_by-append}
use Rattle.q_codel.specs.Losses.{IsTold, SinkState}
use Rattle.q_packet.specs.Descriptor.{Descriptor}
use Rattle.q_model.specs.declared.totals.Totals.{Totals}
use Rattle.q_model.specs.Beneath.{beneath, totals_in}
use Rattle.q_model.specs.Node.{Node}
use Rattle.q_tree.specs.arrival.Arrivals.{plus}
use Rattle.q_tree.specs.arrival.PutSteps.{packets_beneath}
use Rattle.q_tree.specs.commands.Purging.{purged}
use Rattle.q_tree.specs.Kept.{Kept}
use Rattle.q_tree.proofs.commands.PurgeLemmas.{told-both}
use Rattle.q_tree.proofs.counters.Rows.{same-totals}

drop-removed : (ns : List (Node Kept)) (i : ℕ) → drop i (remove ns i) ≡ drop (suc i) ns
drop-removed [] zero = refl
drop-removed [] (suc i) = refl
drop-removed (n ∷ ns) zero = refl
drop-removed (n ∷ ns) (suc i) = drop-removed ns i

take-removed : (ns : List (Node Kept)) (i : ℕ) → take i (remove ns i) ≡ take i ns
take-removed [] zero = refl
take-removed [] (suc i) = refl
take-removed (n ∷ ns) zero = refl
take-removed (n ∷ ns) (suc i) = ap (λ xs. n ∷ xs) (take-removed ns i)

pub record IsGoing (count : ℕ) (before ns : List (Node Kept)) (lost : Totals) (sink_before sink : SinkState) : Type 0 where
  pub gone : List Descriptor
  pub front : take count ns ≡ take count before
  pub back : packets_beneath (drop count before) ≡ gone ++ packets_beneath (drop count ns)
  pub totals : lost ≡ totals_in gone
  pub told : IsTold (purged gone) sink_before sink

totals-append : (ps qs : List Descriptor) → plus (totals_in ps) (totals_in qs) ≡ totals_in (ps ++ qs)
totals-append ps qs = same-totals (plus (totals_in ps) (totals_in qs)) (totals_in (ps ++ qs)) (omega (arith, length-append ps qs)) (omega (arith, sum_by-append (λ (p : Descriptor). p.len) ps qs))

module _ (count : ℕ) (before ns : List (Node Kept)) (lost : Totals) (sink_before sink : SinkState) (h : IsGoing count before ns lost sink_before sink) where
  module _ (x : Node Kept) (lt : count < length ns) (at : x ≡ slice_index_or ns count x) where
    split : packets_beneath (drop count ns) ≡ beneath x ++ packets_beneath (drop (suc count) ns)
    split = ap packets_beneath (drop_more ns count x lt ∙ ap (λ y. y ∷ drop (count + 1) ns) (sym at) ∙ ap (λ k. x ∷ drop k ns) {x = count + 1} {y = suc count} (omega arith))

    whole : packets_beneath (drop count before) ≡ (h.gone ++ beneath x) ++ packets_beneath (drop (suc count) ns)
    whole = h.back ∙ ap (λ ps. h.gone ++ ps) split ∙ sym (append_assoc h.gone (beneath x) (packets_beneath (drop (suc count) ns)))

    pub one-goes : (sum : Totals) → sum ≡ plus lost (totals_in (beneath x)) → (after : SinkState) → IsTold (purged (beneath x)) sink after
        → IsGoing count before (remove ns count) sum sink_before after
    one-goes sum sum_is after told = record {
      gone = h.gone ++ beneath x;
      front = take-removed ns count ∙ h.front;
      back = whole ∙ ap (λ xs. (h.gone ++ beneath x) ++ packets_beneath xs) (sym (drop-removed ns count));
      totals = sum_is ∙ ap (λ t. plus t (totals_in (beneath x))) h.totals ∙ totals-append h.gone (beneath x);
      told = told-both h.gone (beneath x) sink_before sink after h.told told;
    }
