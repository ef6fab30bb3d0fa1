use Rattle.std.proofs.Common.{◌≡◌, suc, length}
use Rattle.q_words.specs.Words.{words_in}
use Rattle.q_line.specs.Grammar.{rest_of}
use Rattle.q_line.specs.Positions.{packet}
use Rattle.q_line.specs.Reading.{IsAgreed}
use Rattle.q_line.proofs.packet.packet_line.Given as goal

-- what is left to read says what all of it says
abbrev pub invariant-loop-word : goal.invariant-loop-word
invariant-loop-word l =
    record {
      same : rest_of (packet l.draft) (suc l.words.taken) (words_in l.words.rest.now)
          ≡ rest_of (packet l.fn.first) (suc l.fn.words.taken) (words_in l.fn.words.rest.now);
      agreed : IsAgreed l.draft;
    }

abbrev pub decreases-loop-word : goal.decreases-loop-word
decreases-loop-word l = length (words_in l.words.rest.now)
