use Rattle.std.proofs.Common.{◌≡◌, ◌<◌, drop, length, true, sym, ap, refl, ◌∙◌, length-drop, arith}
use Rattle.std.proofs.lemmas.Bool.{lt-ltb, le-ltb}
use Rattle.q_packet.proofs.LeastLemmas.{least_is, least_none}
use Rattle.q_words.specs.Addresses.{begins_with_two, gap_at}
use Rattle.q_words.proofs.GroupLemmas.{two_there}
use Rattle.q_words.proofs.Splits.{rest_is}
use Rattle.q_words.proofs.ipv6.first_gap.Goals as goal

pub returns-then-begins_with_two-clause-there : goal.returns-then-begins_with_two-clause-there
returns-then-begins_with_two-clause-there c =
    let h : begins_with_two (drop c.loop-at.at c.args.word.now) ≡ true = ap begins_with_two (sym (rest_is c.args.word.now c.loop-at.at)) ∙ sym c.begins_with_two.ensures ∙ c.if-begins_with_two.true in
    let two = two_there (drop c.loop-at.at c.args.word.now) h in
    omega (arith, length-drop c.loop-at.at c.args.word.now)

pub returns-then-begins_with_two-clause-value : goal.returns-then-begins_with_two-clause-value
returns-then-begins_with_two-clause-value c =
    let w = c.args.word.now in
    let h : begins_with_two (drop c.loop-at.at w) ≡ true = ap begins_with_two (sym (rest_is c.args.word.now c.loop-at.at)) ∙ sym c.begins_with_two.ensures ∙ c.if-begins_with_two.true in
    let below : c.loop-at.at < length w = omega arith in
    let e : gap_at w ≡ c.loop-at.at = least_is (λ i. begins_with_two (drop i w)) (length w) c.loop-at.at (omega arith) (λ _. h) c.loop-at.invariant in
    rw (e, lt-ltb c.loop-at.at (length w) below) refl

pub returns-clause-value : goal.returns-clause-value
returns-clause-value c =
    let w = c.args.word.now in
    let e : gap_at w ≡ length w = least_none (λ i. begins_with_two (drop i w)) (length w) (λ i below. c.loop-at.invariant i (omega arith)) in
    rw (e, le-ltb (length w) (length w) (omega arith)) refl
