use Rattle.std.proofs.Common.{◌≡◌, ◌==◌, None, Some, suc, length, if◌then◌else◌}
use Rattle.q_words.specs.Words.{words_in}
use Rattle.q_line.specs.Grammar.{rest_of}
use Rattle.q_line.specs.Positions.{options, priomap}
use Rattle.q_line.specs.Reading.{prio_draft}
use Rattle.q_line.specs.declared.kind_name.KindName.TheVariants.{Prio}
use Rattle.q_line.proofs.prio.priomap_line.Given as goal

-- what is left to read says what all of it says; behind the last number options follow
abbrev pub invariant-loop-words : goal.invariant-loop-words
invariant-loop-words l =
    let draft = prio_draft l.bands (Some l.map) in
    rest_of (if length l.map.numbers == 16 then options l.verb l.head Prio draft else priomap l.verb l.head Prio draft) (suc l.words.taken) (words_in l.words.rest.now)
    ≡ rest_of (priomap l.fn.verb l.fn.head Prio (prio_draft l.fn.bands None)) (suc l.fn.words.taken) (words_in l.fn.words.rest.now)

abbrev pub decreases-loop-words : goal.decreases-loop-words
decreases-loop-words l = length (words_in l.words.rest.now)
