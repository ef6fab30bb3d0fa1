use Rattle.std.proofs.Common.{◌≡◌, suc, length, None}
use Rattle.q_words.specs.Words.{words_in}
use Rattle.q_line.specs.Grammar.{rest_of}
use Rattle.q_line.specs.Positions.{quantum_of}
use Rattle.q_line.proofs.class_head.quantum_line.Given as goal

-- what is left to read says what all of it says
abbrev pub invariant-loop-word : goal.invariant-loop-word
invariant-loop-word l =
    rest_of (quantum_of l.verb l.head l.quantum) (suc l.words.taken) (words_in l.words.rest.now)
    ≡ rest_of (quantum_of l.fn.verb l.fn.head None) (suc l.fn.words.taken) (words_in l.fn.words.rest.now)

abbrev pub decreases-loop-word : goal.decreases-loop-word
decreases-loop-word l = length (words_in l.words.rest.now)
