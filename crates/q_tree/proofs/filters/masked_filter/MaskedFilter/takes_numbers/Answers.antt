use Rattle.std.proofs.Common.{◌∙◌, ap, subst}
use Rattle.std.specs.Prelude.{◌==◌, bit_and}
use Rattle.q_packet.specs.Key.{IsKey}
use Rattle.q_model.specs.Ranges.{IsFilter}
use Rattle.q_tree.specs.filters.Matching.{mask_of, wanted_of, word_of}
use Rattle.q_tree.proofs.filters.MatchingLemmas.{one-comparison}
use Rattle.q_tree.proofs.filters.masked_filter.MaskedFilter.takes_numbers.Goals as goal

pub returns : goal.returns
returns c =
    let f = c.args.self.now in
    let k = c.args.key.now in
    let kept = c.self.invariant in
    let key : IsKey k = subst IsKey c.key.view_is c.key.invariant in
    let range : IsFilter f = subst IsFilter c.self.view_is kept.2 in
    ap (λ w. bit_and w c.self.inside.mask == c.self.inside.wanted) c.requires
    ∙ ap (λ m. bit_and (word_of k) m == c.self.inside.wanted) (kept.0 ∙ ap mask_of c.self.view_is)
    ∙ ap (λ w. bit_and (word_of k) (mask_of f) == w) (kept.1 ∙ ap wanted_of c.self.view_is)
    ∙ one-comparison f k range key
