-- Where a line that is UTF-8 may be cut: before a blank, since that is one byte, and behind one.
use Rattle.std.proofs.Common.{◌≡◌, ℕ, suc, ◌+◌, ◌-◌, ◌<◌, ◌==◌, ◌||◌, Bool, true, false, not, List, [], ◌∷◌, length, get_or, take, drop, refl, sym, subst, ap, ◌∙◌, arith, Option, Some, None}
use Rattle.std.specs.List.{position, position_or_len}
use Rattle.std.specs.Option.{unwrap_or}
use Rattle.std.specs.Str.{IsUtf8, IsCharBoundary}
use Rattle.std.proofs.lemmas.Bool.{eqb-true}
use Rattle.std.proofs.Math.Seq.{take-length, drop-length}
use Rattle.std.proofs.lemmas.List.{drop_more}
use Rattle.std.proofs.lemmas.List.Quantifiers.{position-Some}
use Rattle.std.proofs.lemmas.List.Sums.{position_or_len_is, prefix_len_passes, prefix_len-le-length}
use Rattle.std.proofs.lemmas.Str.{IsCharBoundary-after_ascii, IsCharBoundary-before_ascii}
use Rattle.q_words.specs.Words.{words_in, is_blank}
use Rattle.q_words.proofs.Cuts.{cut_word_is, first_or_length}

-- the place of the first byte that passes, in a text of these bytes
pub first_in : (p : ℕ → Bool) (bs text : List ℕ) (found : Option ℕ) (n : ℕ) → n ≡ unwrap_or found (length bs) → found ≡ position p bs → bs ≡ text → n ≡ position_or_len p text
first_in p bs text found n at_it at_first same = at_it ∙ first_or_length p bs found at_first ∙ ap (λ xs. position_or_len p xs) same

-- a blank is one byte
blank_is_small : (b : ℕ) → is_blank b ≡ true → b < 128
blank_is_small b e = by_byte (b == 32) (b == 9) (b == 13) refl refl refl e
  where
    by_byte : (space tab return : Bool) → (b == 32) ≡ space → (b == 9) ≡ tab → (b == 13) ≡ return → (space || tab || return) ≡ true → b < 128
    by_byte true tab return a h r t = let is : b ≡ 32 = eqb-true b 32 a in omega (arith, is)
    by_byte false true return a h r t = let is : b ≡ 9 = eqb-true b 9 h in omega (arith, is)
    by_byte false false true a h r t = let is : b ≡ 13 = eqb-true b 13 r in omega (arith, is)
    by_byte false false false a h r t = absurd (let no : false ≡ true = t in cc)

not_true : (v : Bool) → not (not v) ≡ true → v ≡ true
not_true true e = refl
not_true false e = search

pub less_none : (n : ℕ) → n - 0 ≡ n
less_none n = omega arith

-- the place of the first blank, in a text of these bytes
pub record FirstBlank (text : List ℕ) (n : ℕ) : Type 0 where
  pub within : n < length text
  pub blank : is_blank (get_or text n 0) ≡ true
  pub first : position_or_len is_blank text ≡ n

pub first_blank_at : (bs text : List ℕ) (found : Option ℕ) (n : ℕ) → found ≡ Some n → found ≡ position is_blank bs → bs ≡ text → FirstBlank text n
first_blank_at bs text found n is_some at same =
    let h = position-Some is_blank text n 0 (ap (position is_blank) (sym same) ∙ sym at ∙ is_some) in
    record { within = h.0; blank = h.1; first = position_or_len_is is_blank text n 0 (omega (arith, h.0)) h.2 (λ _. h.1) }

-- a text may be cut before a blank and behind it
pub before_blank : (text : List ℕ) (n : ℕ) → FirstBlank text n → IsCharBoundary text n
before_blank text n at = IsCharBoundary-before_ascii text n at.within (blank_is_small (get_or text n 0) at.blank)

pub behind_blank : (text : List ℕ) (n : ℕ) → IsUtf8 text → FirstBlank text n → IsCharBoundary text (n + 1)
behind_blank text n utf8 at = IsCharBoundary-after_ascii text n utf8 at.within (blank_is_small (get_or text n 0) at.blank)

-- and then the word is what stands before it, and the others stand behind it
words_behind : (b : ℕ) (bytes : List ℕ) → is_blank b ≡ true → words_in (b ∷ bytes) ≡ words_in bytes
words_behind b bytes e = rw (e) refl

pub cut_at_blank : (text : List ℕ) (n : ℕ) → 0 < length text → is_blank (get_or text 0 0) ≡ false → FirstBlank text n
    → words_in text ≡ take n text ∷ words_in (drop (n + 1) text)
cut_at_blank text n some first at =
    let P : ℕ → Type 0 = λ k. words_in text ≡ take k text ∷ words_in (drop k text) in
    subst P at.first (cut_word_is text some first) ∙ ap (λ ws. take n text ∷ ws) (ap words_in (drop_more text n 0 at.within) ∙ words_behind (get_or text n 0) (drop (n + 1) text) at.blank)

-- without a blank all of it is the word
pub cut_nowhere : (bs text : List ℕ) (found : Option ℕ) → found ≡ None → found ≡ position is_blank bs → bs ≡ text → 0 < length text → is_blank (get_or text 0 0) ≡ false
    → words_in text ≡ text ∷ []
cut_nowhere bs text found is_none at same some first =
    let none : None ≡ position is_blank text = sym is_none ∙ at ∙ ap (position is_blank) same in
    let all : length text ≡ position_or_len is_blank text = first_or_length is_blank text None none in
    cut_word_is text some first ∙ rw (← all, take-length, drop-length) refl

-- what stands before the first byte of a word is blank
behind_blanks_at : (bs : List ℕ) (n : ℕ) → IsUtf8 bs → suc n ≡ position_or_len (λ b. not (is_blank b)) bs → IsCharBoundary bs (position_or_len (λ b. not (is_blank b)) bs)
behind_blanks_at bs n utf8 e =
    let most = prefix_len-le-length (λ b. not (not (is_blank b))) bs in
    let blank = not_true _ (prefix_len_passes (λ b. not (not (is_blank b))) bs n 0 (omega (arith, e))) in
    let cut = IsCharBoundary-after_ascii bs n utf8 (omega (arith, e, most)) (blank_is_small (get_or bs n 0) blank) in
    let to_suc : n + 1 ≡ suc n = omega arith in
    subst (λ k. IsCharBoundary bs k) e (subst (λ k. IsCharBoundary bs k) to_suc cut)

pub behind_blanks : (bs : List ℕ) → IsUtf8 bs → 0 < position_or_len (λ b. not (is_blank b)) bs → IsCharBoundary bs (position_or_len (λ b. not (is_blank b)) bs)
behind_blanks bs utf8 some = behind_blanks_at bs (position_or_len (λ b. not (is_blank b)) bs - 1) utf8 (omega (arith, some))
