-- The number, the name and the word of a line's fault, and the text that shows them.
-- The numbers and names are those of this project's script language.
use Rattle.std.specs.Prelude.{ℕ, List, ◌++◌, codes}
use Rattle.std.specs.Fmt.{decimal}
use Rattle.q_words.specs.declared.line_fault.LineFault.{LineFault}
use Rattle.q_words.specs.declared.line_fault.LineFault.TheVariants.{UnknownWord, Missing, BadNumber, OutOfRange, Twice, BadUtf8}

abbrev pub fault_number : LineFault → ℕ
fault_number (UnknownWord word) = 1
fault_number (Missing word) = 2
fault_number (BadNumber word) = 3
fault_number (OutOfRange word) = 4
fault_number (Twice word) = 5
fault_number (BadUtf8 word) = 6

abbrev pub fault_name : LineFault → List ℕ
fault_name (UnknownWord word) = codes "UnknownWord"
fault_name (Missing word) = codes "Missing"
fault_name (BadNumber word) = codes "BadNumber"
fault_name (OutOfRange word) = codes "OutOfRange"
fault_name (Twice word) = codes "Twice"
fault_name (BadUtf8 word) = codes "BadUtf8"

-- the index of the word, counted from 1
abbrev pub fault_word : LineFault → ℕ
fault_word (UnknownWord word) = word
fault_word (Missing word) = word
fault_word (BadNumber word) = word
fault_word (OutOfRange word) = word
fault_word (Twice word) = word
fault_word (BadUtf8 word) = word

abbrev pub fault_text : LineFault → List ℕ
fault_text fault = codes "fault " ++ decimal (fault_number fault) ++ codes " " ++ fault_name fault ++ codes " word " ++ decimal (fault_word fault)
