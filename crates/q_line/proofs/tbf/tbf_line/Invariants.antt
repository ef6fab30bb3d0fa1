use Rattle.std.proofs.Common.{◌≡◌, suc, length}
use Rattle.q_words.specs.Words.{words_in}
use Rattle.q_line.specs.Grammar.{rest_of}
use Rattle.q_line.specs.Drafts.{no_options}
use Rattle.q_line.specs.Positions.{options}
use Rattle.q_line.specs.Reading.{tbf_draft}
use Rattle.q_line.specs.declared.kind_name.KindName.TheVariants.{Tbf}
use Rattle.q_line.proofs.tbf.tbf_line.Given as goal

-- what is left to read says what all of it says
abbrev pub invariant-loop-word : goal.invariant-loop-word
invariant-loop-word l =
    rest_of (options l.verb l.head Tbf (tbf_draft l.draft)) (suc l.words.taken) (words_in l.words.rest.now)
    ≡ rest_of (options l.fn.verb l.fn.head Tbf no_options) (suc l.fn.words.taken) (words_in l.fn.words.rest.now)

abbrev pub decreases-loop-word : goal.decreases-loop-word
decreases-loop-word l = length (words_in l.words.rest.now)
