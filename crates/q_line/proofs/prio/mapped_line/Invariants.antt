use Rattle.std.proofs.Common.{◌≡◌, suc, length, Some, IfSome}
use Rattle.q_words.specs.Words.{words_in}
use Rattle.q_line.specs.Grammar.{rest_of}
use Rattle.q_model.specs.Numbers.{IsWithin}
use Rattle.q_line.specs.Positions.{options}
use Rattle.q_line.specs.Reading.{prio_draft}
use Rattle.q_line.specs.declared.kind_name.KindName.TheVariants.{Prio}
use Rattle.q_line.proofs.prio.mapped_line.Given as goal

-- what is left to read says what all of it says
abbrev pub invariant-loop-word : goal.invariant-loop-word
invariant-loop-word l =
    record {
      same : rest_of (options l.verb l.head Prio (prio_draft l.bands (Some l.map))) (suc l.words.taken) (words_in l.words.rest.now)
          ≡ rest_of (options l.fn.verb l.fn.head Prio (prio_draft l.fn.bands (Some l.fn.map))) (suc l.fn.words.taken) (words_in l.fn.words.rest.now);
      few : IfSome l.bands (IsWithin 2 16);
    }

abbrev pub decreases-loop-word : goal.decreases-loop-word
decreases-loop-word l = length (words_in l.words.rest.now)
