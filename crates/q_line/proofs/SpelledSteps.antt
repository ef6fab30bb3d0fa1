-- Words that lead from one position of a line to another, whatever stands behind them, and words that end a line.
use Rattle.std.proofs.Common.{◌≡◌, ◌∙◌, ℕ, suc, ◌<◌, ◌≤◌, ◌^◌, Bool, true, List, [], ◌∷◌, ◌++◌, length, ltb, not, Option, Some, None, IfSome, Result, Ok, Err, refl, sym, ap, arith, if◌then◌else◌, codes, append-nil, append_assoc}
use Rattle.std.specs.List.{list_all}
use Rattle.std.specs.Fmt.{decimal}
use Rattle.std.specs.Str.{is_utf8}
use Rattle.std.proofs.lemmas.Bool.{le-leb}
use Rattle.std.proofs.lemmas.List.Folds.{list_all-append}
use Rattle.std.proofs.lemmas.Str.{is_utf8-from_IsUtf8}
use Rattle.q_words.specs.Values.{name_of, number_in}
use Rattle.q_words.specs.Words.{is_blank, is_filled}
use Rattle.q_words.specs.declared.wrong.Wrong.{Wrong}
use Rattle.q_words.specs.declared.wrong.Wrong.TheVariants as wrong
use Rattle.q_line.specs.Laws.{IsName}
use Rattle.q_line.specs.Spelling.{is_word, given, hex}
use Rattle.q_line.proofs.SpelledWords.{both, number_read, right_of, utf8_from_ascii, decimal_digits, digits_ascii, digits_word, handle_ascii, handle_word, hex_digits}
use Rattle.q_model.specs.Numbers.{IsWithin}
use Rattle.q_line.specs.Grammar.{ended, fits, rest_of}
use Rattle.q_line.specs.Positions.{Position}
use Rattle.q_line.specs.declared.line.Line.{Line}
use Rattle.q_line.proofs.Steps.{continued, rest_of-cons}

pub record Path (p q : Position) (ws : List (List ℕ)) : Type 0 where
  pub good : list_all is_word ws ≡ true
  pub leads : (i : ℕ) (rest : List (List ℕ)) → (j : ℕ) × (rest_of p i (ws ++ rest) ≡ rest_of q j rest)

pub record Says (p : Position) (line : Line) (ws : List (List ℕ)) : Type 0 where
  pub good : list_all is_word ws ≡ true
  pub read : (i : ℕ) → rest_of p i ws ≡ Ok line

pub join_good : (ws vs : List (List ℕ)) → list_all is_word ws ≡ true → list_all is_word vs ≡ true → list_all is_word (ws ++ vs) ≡ true
join_good ws vs h k = list_all-append is_word ws vs ∙ both h k

pub nowhere : (p : Position) → Path p p []
nowhere p = record { good = refl; leads = λ i rest. (i, refl) }

pub chain : (p q r : Position) (ws vs : List (List ℕ)) → Path p q ws → Path q r vs → Path p r (ws ++ vs)
chain p q r ws vs a b = record {
  good = join_good ws vs a.good b.good;
  leads = λ i rest. let one = a.leads i (vs ++ rest) in let two = b.leads one.0 rest in
      (two.0, ap (λ l. rest_of p i l) (append_assoc ws vs rest) ∙ one.1 ∙ two.1);
}

pub chain_says : (p q : Position) (line : Line) (ws vs : List (List ℕ)) → Path p q ws → Says q line vs → Says p line (ws ++ vs)
chain_says p q line ws vs a b = record {
  good = join_good ws vs a.good b.good;
  read = λ i. let one = a.leads i vs in one.1 ∙ b.read one.0;
}

pub ended_says : (p q : Position) (line : Line) (ws : List (List ℕ)) → Path p q ws → ((i : ℕ) → ended q i ≡ Ok line) → Says p line ws
ended_says p q line ws a h = record {
  good = a.good;
  read = λ i. let one = a.leads i [] in ap (λ l. rest_of p i l) (sym (append-nil ws)) ∙ one.1 ∙ h one.0;
}

-- a word of ASCII
abbrev pub Word : List ℕ → Type 0
Word w = (is_word w ≡ true) × (list_all (λ b. ltb b 128) w ≡ true)

-- a word that fits
word_read : (p q : Position) (w : List ℕ) (i : ℕ) (ws : List (List ℕ)) → is_utf8 w ≡ true → fits i p w ≡ Ok q → rest_of p i (w ∷ ws) ≡ rest_of q (suc i) ws
word_read p q w i ws u f =
    rest_of-cons p i w ws ∙ ap (λ (b : Bool). continued (if b then fits i p w else Err wrong.BadUtf8) i ws) u ∙ ap (λ r. continued r i ws) f

pub word_at : (p q : Position) (w : List ℕ) (i : ℕ) (ws : List (List ℕ)) → Word w → fits i p w ≡ Ok q → rest_of p i (w ∷ ws) ≡ rest_of q (suc i) ws
word_at p q w i ws a f = word_read p q w i ws (utf8_from_ascii w a.1) f

pub word : (p q : Position) (w : List ℕ) → Word w → ((i : ℕ) → fits i p w ≡ Ok q) → Path p q (w ∷ [])
word p q w a f = record { good = both a.0 refl; leads = λ i rest. (suc i, word_at p q w i rest a (f i)) }

-- a word and its value
pub pair : (p between q : Position) (name w : List ℕ) → Word name → Word w → ((i : ℕ) → fits i p name ≡ Ok between) → ((i : ℕ) → fits i between w ≡ Ok q) → Path p q (name ∷ w ∷ [])
pair p between q name w a b f g = chain p between q (name ∷ []) (w ∷ []) (word p between name a f) (word between q w b g)

pub device : (p q : Position) (name : List ℕ) → IsName name → ((i : ℕ) → fits i p name ≡ Ok q) → Path p q (name ∷ [])
device p q name h f = record { good = both h.word refl; leads = λ i rest. (suc i, word_read p q name i rest (is_utf8-from_IsUtf8 name h.text) (f i)) }

pub name_read : (name : List ℕ) → length name ≤ 15 → name_of name ≡ Ok tt
name_read name short = ap (λ (b : Bool). if b then Ok tt else Err wrong.OutOfRange) (le-leb _ _ short)

-- numbers are words

pub decimal_word : (n : ℕ) → n < 2 ^ 64 → Word (decimal n)
decimal_word n small = let d = decimal_digits n small in (digits_word (decimal n) d, digits_ascii (decimal n) d)

pub hex_word : (n : ℕ) → n < 2 ^ 16 → Word (hex n)
hex_word n small = let d = hex_digits n small in (digits_word (hex n) d, digits_ascii (hex n) d)

pub handle_is_word : (n : ℕ) → n ≤ 65534 → Word (hex n ++ codes ":")
handle_is_word n high = let d = hex_digits n (omega arith) in (handle_word (hex n) d, handle_ascii (hex n) d)

-- what passes both tests behind a word is part of the word
pub word_more : (w more : List ℕ) → Word w → list_all (λ b. not (is_blank b)) more ≡ true → list_all (λ b. ltb b 128) more ≡ true → Word (w ++ more)
word_more w more a blanks ascii = (
  both (filled w a.0) (list_all-append (λ b. not (is_blank b)) w more ∙ both (right_of (is_filled w) _ a.0) blanks),
  list_all-append
      (λ b. ltb b 128) w more ∙ both a.1 ascii,
)
  where
    filled : (w : List ℕ) → is_word w ≡ true → is_filled (w ++ more) ≡ true
    filled [] h = cc
    filled (b ∷ w) h = refl

pub class_is_word : (major minor : ℕ) → major ≤ 65534 → minor ≤ 65535 → Word (hex major ++ codes ":" ++ hex minor)
class_is_word major minor high few =
    let behind = hex_word minor (omega arith) in
    word_more (hex major ++ codes ":") (hex minor) (handle_is_word major high) (right_of (is_filled (hex minor)) _ behind.0) behind.1

pub unit_is_word : (n : ℕ) (unit : List ℕ) → n < 2 ^ 64 → list_all (λ b. not (is_blank b)) unit ≡ true → list_all (λ b. ltb b 128) unit ≡ true → Word (decimal n ++ unit)
unit_is_word n unit small blanks ascii = word_more (decimal n) unit (decimal_word n small) blanks ascii

-- an option, where it is given: its value is read as itself
pub option : {A : Type 0} (name : List ℕ) (text : A → List ℕ) (reader : List ℕ → Result A Wrong) (o : Option A) (at : Option A → Position) (between : Position)
    → Word name → ((i : ℕ) → fits i (at None) name ≡ Ok between)
    → ((i : ℕ) (a : A) → reader (text a) ≡ Ok a → fits i between (text a) ≡ Ok (at (Some a)))
    → IfSome o (λ a. Word (text a) × (reader (text a) ≡ Ok a)) → Path (at None) (at o) (given name text o)
option name text reader None at between n row step h = nowhere (at None)
option name text reader (Some a) at between n row step h = pair (at None) between (at (Some a)) name (text a) n h.0 row (λ i. step i a h.1)

-- numbers in a range are read as themselves
pub number_reads : (low high : ℕ) (o : Option ℕ) → high < 2 ^ 64 → IfSome o (IsWithin low high) → IfSome o (λ n. Word (decimal n) × (number_in low high (decimal n) ≡ Ok n))
number_reads low high None small h = tt
number_reads low high (Some n) small h = let few = h.1 in (decimal_word n (omega arith), number_read low high n h.0 h.1 small)
