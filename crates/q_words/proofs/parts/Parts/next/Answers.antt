use Rattle.std.proofs.Common.{◌+◌, ◌==◌, sym, ◌∙◌}
use Rattle.q_words.proofs.Splits.{split_some, split_none, rest_is}
use Rattle.q_words.proofs.parts.Parts.next.Goals as goal

pub returns-in-Some : goal.returns-in-Some
returns-in-Some c = let more = c.if-not-self.false in
    let word = c.args.self.now.rest.now in
    rw (more, rest_is word (c.in-Some.at + 1)) (split_some (λ b. b == c.args.self.now.mark) word c.in-Some.at (sym c.first_mark.ensures ∙ c.in-Some.is))

pub returns-in-None : goal.returns-in-None
returns-in-None c = let more = c.if-not-self.false in
    rw more (split_none (λ b. b == c.args.self.now.mark) c.args.self.now.rest.now (sym c.first_mark.ensures ∙ c.in-None.is))
