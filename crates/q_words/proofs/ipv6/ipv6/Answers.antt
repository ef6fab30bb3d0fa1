use Rattle.std.proofs.Common.{◌∙◌, sym, ap, take, drop, suc, length, nat_lt}
use Rattle.q_words.specs.Addresses.{groups_in, gap_at}
use Rattle.q_words.specs.Parts.{address_from, groups_of}
use Rattle.q_words.proofs.GroupLemmas.{bad_left, bad_right, both_good}
use Rattle.q_words.proofs.ipv6.ipv6.Goals as goal

pub returns-in_default : goal.returns-in_default
returns-in_default c =
    let w = c.args.word.now in
    sym (bad_left (groups_in (take (gap_at w) w)) (groups_in (drop (suc (suc (gap_at w))) w)) (nat_lt (gap_at w) (length w))
    (ap (λ b. groups_of (groups_in b)) (sym c.halves-gap.ensures.left) ∙ sym c.in_default.ensures.value))

pub returns-in_default-read_groups : goal.returns-in_default-read_groups
returns-in_default-read_groups c =
    let w = c.args.word.now in
    sym (bad_right (groups_in (take (gap_at w) w)) (groups_in (drop (suc (suc (gap_at w))) w)) (nat_lt (gap_at w) (length w))
    (ap (λ b. groups_of (groups_in b)) (sym c.halves-gap.ensures.right) ∙ sym c.in_default-read_groups.ensures.value))

pub returns : goal.returns
returns c =
    let w = c.args.word.now in
    c.joined.ensures ∙ ap (address_from c.in-Some.high c.in-Some-read_groups.low) c.halves-gap.ensures.gap
    ∙ sym (both_good (groups_in (take (gap_at w) w)) (groups_in (drop (suc (suc (gap_at w))) w)) (nat_lt (gap_at w) (length w)) c.in-Some.high c.in-Some-read_groups.low
    (ap (λ b. groups_of (groups_in b)) (sym c.halves-gap.ensures.left) ∙ sym c.in-Some.ensures.value)
    (ap (λ b. groups_of (groups_in b)) (sym c.halves-gap.ensures.right) ∙ sym c.in-Some-read_groups.ensures.value))
