use Rattle.std.proofs.Common.{◌≡◌, suc, length}
use Rattle.q_words.specs.Words.{words_in}
use Rattle.q_line.specs.Grammar.{rest_of}
use Rattle.q_line.specs.Drafts.{of_qdisc, no_head}
use Rattle.q_line.specs.Positions.{head}
use Rattle.q_line.proofs.qdisc_head.qdisc_head.Given as goal

-- what is left to read says what all of it says
abbrev pub invariant-loop-word : goal.invariant-loop-word
invariant-loop-word l =
    rest_of (head (of_qdisc l.verb) l.head) (suc l.words.taken) (words_in l.words.rest.now)
    ≡ rest_of (head (of_qdisc l.fn.verb) no_head) (suc l.fn.words.taken) (words_in l.fn.words.rest.now)

abbrev pub decreases-loop-word : goal.decreases-loop-word
decreases-loop-word l = length (words_in l.words.rest.now)
