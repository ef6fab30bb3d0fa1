-- How a line is cut into words: what the bytes before the first blank, and the blanks at the front, leave.
use Rattle.std.proofs.Common.{◌≡◌, ℕ, suc, ◌+◌, ◌<◌, Bool, true, false, not, cond, List, [], ◌∷◌, length, get_or, take, drop, nat_lt, refl, sym, subst, ap, ◌∙◌, arith, Option, Some, None}
use Rattle.std.specs.List.{filter, slice_split, position, position_or_len}
use Rattle.std.specs.Option.{unwrap_or}
use Rattle.std.proofs.lemmas.Bool.{ltb-false}
use Rattle.std.proofs.lemmas.List.Sums.{prefix_len-le-length}
use Rattle.q_words.specs.Words.{words_in, is_blank, is_filled}

one_add : (n : ℕ) → 1 + n ≡ suc n
one_add n = omega arith

-- the bytes before the first blank are the first piece, and after it come the words of the rest
pub record Cut (bytes : List ℕ) : Type 0 where
  pub after : List (List ℕ)
  pub parts : slice_split is_blank bytes ≡ take (position_or_len is_blank bytes) bytes ∷ after
  pub rest : filter is_filled after ≡ words_in (drop (position_or_len is_blank bytes) bytes)

cut_by : (b : ℕ) (bytes : List ℕ) (v : Bool) → is_blank b ≡ v → Cut bytes → Cut (b ∷ bytes)
cut_by b bytes true e c = record {
  after = slice_split is_blank bytes;
  parts = rw (e) refl;
  rest = rw (e) (rw (e) refl);
}
cut_by b bytes false e c = record {
  after = c.after;
  parts = rw (e, one_add, c.parts) refl;
  rest = rw (e, one_add) c.rest;
}

pub cut : (bytes : List ℕ) → Cut bytes
cut [] = record { after = []; parts = refl; rest = refl }
cut (b ∷ bytes) = cut_by b bytes (is_blank b) refl (cut bytes)

-- bytes that begin with a word are that word, and then the others
pub cut_word_is : (bytes : List ℕ) → 0 < length bytes → is_blank (get_or bytes 0 0) ≡ false →
    words_in bytes ≡ take (position_or_len is_blank bytes) bytes ∷ words_in (drop (position_or_len is_blank bytes) bytes)
cut_word_is [] some first = absurd (omega arith)
cut_word_is (b ∷ bytes) some first = let c = cut bytes in rw (first, one_add, c.parts) (ap (λ ws. (b ∷ take (position_or_len is_blank bytes) bytes) ∷ ws) c.rest)

-- the blanks at the front left out
abbrev pub past_blanks : List ℕ → List ℕ
past_blanks bytes = drop (position_or_len (λ b. not (is_blank b)) bytes) bytes

past_blanks-blank : (b : ℕ) (bytes : List ℕ) → is_blank b ≡ true → past_blanks (b ∷ bytes) ≡ past_blanks bytes
past_blanks-blank b bytes e = rw (e, one_add) refl

past_blanks-word : (b : ℕ) (bytes : List ℕ) → is_blank b ≡ false → past_blanks (b ∷ bytes) ≡ b ∷ bytes
past_blanks-word b bytes e = rw (e) refl

-- blanks at the front are before the first word
pub skipped : (bytes : List ℕ) → words_in (past_blanks bytes) ≡ words_in bytes
skipped [] = refl
skipped (b ∷ bytes) = by_first (skipped bytes) (is_blank b) refl
  where
    by_first : words_in (past_blanks bytes) ≡ words_in bytes → (v : Bool) → is_blank b ≡ v → words_in (past_blanks (b ∷ bytes)) ≡ words_in (b ∷ bytes)
    by_first ih true e = ap words_in (past_blanks-blank b bytes e) ∙ ih ∙ sym (rw (e) refl)
    by_first ih false e = ap words_in (past_blanks-word b bytes e)

-- what they leave begins with a word
pub begins_filled : (bytes : List ℕ) → 0 < length (past_blanks bytes) → is_blank (get_or (past_blanks bytes) 0 0) ≡ false
begins_filled [] = λ some. absurd (omega arith)
begins_filled (b ∷ bytes) = by_first (begins_filled bytes) (is_blank b) refl
  where
    by_first : (0 < length (past_blanks bytes) → is_blank (get_or (past_blanks bytes) 0 0) ≡ false) → (v : Bool) → is_blank b ≡ v
        → 0 < length (past_blanks (b ∷ bytes)) → is_blank (get_or (past_blanks (b ∷ bytes)) 0 0) ≡ false
    by_first ih true e = let P : List ℕ → Type 0 = λ r. 0 < length r → is_blank (get_or r 0 0) ≡ false in subst P (sym (past_blanks-blank b bytes e)) ih
    by_first ih false e = let P : List ℕ → Type 0 = λ r. 0 < length r → is_blank (get_or r 0 0) ≡ false in subst P (sym (past_blanks-word b bytes e)) (λ _. e)

-- the place of the first, or the length
pub first_or_length : (p : ℕ → Bool) (bytes : List ℕ) (found : Option ℕ) → found ≡ position p bytes → unwrap_or found (length bytes) ≡ position_or_len p bytes
first_or_length p bytes found e = rw e (by_test (nat_lt (position_or_len p bytes) (length bytes)) refl)
  where
    by_test : (b : Bool) → nat_lt (position_or_len p bytes) (length bytes) ≡ b → unwrap_or (cond b (Some (position_or_len p bytes)) None) (length bytes) ≡ position_or_len p bytes
    by_test true t = refl
    by_test false t = omega (arith, ltb-false, prefix_len-le-length (λ x. not (p x)) bytes)
