-- One long line of each kind, and how it is answered where it ends before one of its words, or has another word in its place.
-- The order of faults is that of docs/LANGUAGE.md, "Order of faults".
use Rattle.std.proofs.Common.{◌≡◌, ℕ, suc, ◌-◌, ◌==◌, if◌then◌else◌, List, [], ◌∷◌, ◌++◌, length, map, take, drop, refl}
use Rattle.std.specs.Prelude.{codes, Result, Ok, Err}
use Rattle.q_words.specs.Words.{words_in}
use Rattle.q_words.specs.declared.line_fault.LineFault.{LineFault}
use Rattle.q_words.specs.declared.line_fault.LineFault.TheVariants as fault
use Rattle.q_line.specs.Grammar.{line_of_words}
use Rattle.q_line.specs.declared.line.Line.{Line}
use Rattle.q_worked_examples.proofs.SharedRules.{line_rules}

-- A letter for the answer to a line that goes wrong at a word: `.` where it is read; `U` UnknownWord, `B` BadNumber,
-- `O` OutOfRange, `T` Twice, `8` BadUtf8 and `M` Missing at that word; `m` Missing at the word behind it.
abbrev at_word : ℕ → ℕ → ℕ → ℕ
at_word letter n word = if word == n then letter else 63

abbrev letter : ℕ → Result Line LineFault → ℕ
letter n (Ok line) = 46
letter n (Err (fault.UnknownWord word)) = at_word 85 n word
letter n (Err (fault.BadNumber word)) = at_word 66 n word
letter n (Err (fault.OutOfRange word)) = at_word 79 n word
letter n (Err (fault.Twice word)) = at_word 84 n word
letter n (Err (fault.BadUtf8 word)) = at_word 56 n word
letter n (Err (fault.Missing word)) = if word == suc n then 109 else at_word 77 n word

-- the words before each word of a line, and all of them
abbrev fronts : List (List ℕ) → List (List (List ℕ))
fronts [] = [] ∷ []
fronts (word ∷ words) = [] ∷ map (λ front. word ∷ front) (fronts words)

-- the letters of the lines that have these words in the place of each word and of those right of it
abbrev letters : (List (List ℕ) → List (List ℕ)) → List ℕ → List ℕ
letters behind line = map (λ front. letter (suc (length front)) (line_of_words (front ++ behind front))) (fronts (words_in line))

-- the word before the last: that of an option which has just been given
abbrev before_last : List (List ℕ) → List (List ℕ)
before_last front = take 1 (drop (length front - 2) front)

-- a line, and its letters where it ends, where the word is `x`, a number of twenty digits, or the one before the last again
record Long : Type 0 where
  line : List ℕ
  ends : List ℕ
  no_word : List ℕ
  large : List ℕ
  again : List ℕ

abbrev long_lines : List Long
long_lines =
    record {
      line = codes "tc qdisc add dev eth0 root handle 1: pfifo limit 5";
      ends = codes ".MMMMMMMM.M.";
      no_word = codes "UUUUmUUBUUBU";
      large = codes "UUUUOUUOUUOU";
      again = codes ".UUUmTUBTUBT";
    }
    ∷ record {
      line = codes "tc qdisc add dev eth0 parent 1:1 handle 2: bfifo limit 5kb";
      ends = codes ".MMMMMMMMM.M.";
      no_word = codes "UUUUmUBUBUUBU";
      large = codes "UUUUOUBUOUUOU";
      again = codes ".UUUmTBTOTUBT";
    }
    ∷ record {
      line = codes "tc qdisc add dev eth0 root handle 1: prio bands 4 priomap 0 1 2 3 0 1 2 3 0 1 2 3 0 1 2 3";
      ends = codes ".MMMMMMMM.M.MMMMMMMMMMMMMMMM.";
      no_word = codes "UUUUmUUBUUBUBBBBBBBBBBBBBBBBU";
      large = codes "UUUUOUUOUUOUOOOOOOOOOOOOOOOOU";
      again = codes ".UUUmTUBTUBTOBmmmmmmmmmmmmm.U";
    }
    ∷ record {
      line = codes "tc qdisc change dev eth0 root handle 1: tbf rate 1mbit burst 10kb latency 70ms";
      ends = codes ".MMMMMMMMMMMMMM.";
      no_word = codes "UUUUmUUBUUBUBUBU";
      large = codes "UUUUOUUOUUOUOUOU";
      again = codes ".UUUmTUBTUBTmTBT";
    }
    ∷ record {
      line = codes "tc qdisc add dev eth0 root handle 1: drr";
      ends = codes ".MMMMMMMM.";
      no_word = codes "UUUUmUUBUU";
      large = codes "UUUUOUUOUU";
      again = codes ".UUUmTUBTU";
    }
    ∷ record {
      line = codes "tc qdisc add dev eth0 root fq_codel limit 1 flows 2 quantum 3 target 4 interval 5 noecn drop_batch 6";
      ends = codes ".MMMMMM.M.M.M.M.M..M.";
      no_word = codes "UUUUmUUUBUBUBUBUBUUBU";
      large = codes "UUUUOUUUOUOUOUOUOUUOU";
      again = codes ".UUUmTUUBT.T.T.T.TUBT";
    }
    ∷ record {
      line = codes "tc qdisc del dev eth0 root handle 1: prio";
      ends = codes ".MMMMM.M..";
      no_word = codes "UUUUmUUBUU";
      large = codes "UUUUOUUOUU";
      again = codes ".UUUmTUBTU";
    }
    ∷ record {
      line = codes "tc class add dev eth0 parent 1: classid 1:1 drr quantum 5";
      ends = codes ".MMMMMMMMM.M.";
      no_word = codes "UUUUmUBUBUUBU";
      large = codes "UUUUOUOUBUUOU";
      again = codes ".UUUmTBTBTUBT";
    }
    ∷ record {
      line = codes "tc filter add dev eth0 parent 1: prio 1 protocol ip flower ip_proto udp src_ip 1.2.3.4/8 dst_ip 5.6.7.8 src_port 1 dst_port 2 classid 1:1";
      ends = codes ".MMMMMMMMMMMMMMMMMMMMMMM.";
      no_word = codes "UUUUmUBUBUUUUBUBUBUBUBUBU";
      large = codes "UUUUOUOUOUUUUOUBUBUOUOUBU";
      again = codes ".UUUmTBTBTUTUBTBTmTBTmTBT";
    }
    ∷ record {
      line = codes "tc -s qdisc show dev eth0";
      ends = codes ".MMM.M.";
      no_word = codes "UUUUU.U";
      large = codes "UUUUUOU";
      again = codes ".UUUU.T";
    }
    ∷ record {
      line = codes "pkt 100 hash 1 prio 2 ip_proto 6 src_ip ::1 dst_ip ::2 src_port 3 dst_port 4 ecn 1";
      ends = codes ".M.M.M.M.M.M.M.M.M.";
      no_word = codes "UBUBUBUBUBUBUBUBUBU";
      large = codes "UOUOUOUOUBUBUOUOUOU";
      again = codes ".BU.T.T.TBT.TBT.TOT";
    }
    ∷ record {
      line = codes "frame 60 45";
      ends = codes ".MM.";
      no_word = codes "UBBU";
      large = codes "UO.U";
      again = codes ".BBU";
    }
    ∷ record {
      line = codes "poll 5";
      ends = codes "...";
      no_word = codes "UBU";
      large = codes "UOU";
      again = codes ".BU";
    }
    ∷ []

ends : map (λ (l : Long). letters (λ front. []) l.line) long_lines ≡ map (λ (l : Long). l.ends) long_lines
unfolding line_rules
ends = refl

no_words : map (λ (l : Long). letters (λ front. codes "x" ∷ []) l.line) long_lines ≡ map (λ (l : Long). l.no_word) long_lines
unfolding line_rules
no_words = refl

large_numbers : map (λ (l : Long). letters (λ front. codes "99999999999999999999" ∷ []) l.line) long_lines ≡ map (λ (l : Long). l.large) long_lines
unfolding line_rules
large_numbers = refl

words_again : map (λ (l : Long). letters before_last l.line) long_lines ≡ map (λ (l : Long). l.again) long_lines
unfolding line_rules
words_again = refl

-- a byte that is no UTF-8 is the fault, wherever it stands
no_utf8 : map (λ (l : Long). letters (λ front. (255 ∷ []) ∷ []) l.line) long_lines ≡ map (λ (l : Long). map (λ letter. 56) l.ends) long_lines
unfolding line_rules
no_utf8 = refl
