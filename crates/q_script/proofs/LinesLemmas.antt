-- The first line of a text, by where its first newline is.
use Rattle.std.proofs.Common.{◌≡◌, ◌≢◌, ℕ, zero, suc, ◌<◌, ◌+◌, ◌-◌, if◌then◌else◌, List, [], ◌∷◌, length, get_or, take, drop, refl, ap, ◌∙◌, arith, eq-eqb, ne_eqb, add-one}
use Rattle.std.proofs.lemmas.List.{drop_all}
use Rattle.q_words.proofs.Splits.{rest_is}
use Rattle.q_script.specs.Script.{lines_of, onto_first}

at_newline : (b : ℕ) (bytes : List ℕ) → b ≡ 10 → lines_of (b ∷ bytes) ≡ [] ∷ lines_of bytes
at_newline b bytes h = ap (λ t. if t then [] ∷ lines_of bytes else onto_first b (lines_of bytes)) (eq-eqb b 10 h)

before_newline : (b : ℕ) (bytes : List ℕ) → b ≢ 10 → lines_of (b ∷ bytes) ≡ onto_first b (lines_of bytes)
before_newline b bytes h = ap (λ t. if t then [] ∷ lines_of bytes else onto_first b (lines_of bytes)) (ne_eqb b 10 h)

-- a text with a newline at k and none before it
pub lines-first : (k : ℕ) (bytes : List ℕ) → k < length bytes → get_or bytes k 0 ≡ 10 → ((j : ℕ) → j < k → get_or bytes j 0 ≢ 10) → lines_of bytes ≡ take k bytes ∷ lines_of (drop (suc k) bytes)
lines-first k [] within here before = absurd (omega arith)
lines-first zero (b ∷ bytes) within here before = at_newline b bytes here
lines-first (suc k) (b ∷ bytes) within here before =
    before_newline b bytes (before 0 (omega arith))
    ∙ ap (onto_first b) (lines-first k bytes (omega arith) here (λ j h. before (suc j) (omega arith)))

-- a text with no newline
pub lines-last : (bytes : List ℕ) → 0 < length bytes → ((j : ℕ) → j < length bytes → get_or bytes j 0 ≢ 10) → lines_of bytes ≡ bytes ∷ []
lines-last [] some none = absurd (omega arith)
lines-last (b ∷ []) some none = before_newline b [] (none 0 (omega arith))
lines-last (b ∷ c ∷ bytes) some none =
    before_newline b (c ∷ bytes) (none 0 (omega arith))
    ∙ ap (onto_first b) (lines-last (c ∷ bytes) (omega arith) (λ j h. none (suc j) (omega arith)))

-- the first line and the rest, as slices
pub lines-cut : (k : ℕ) (bytes : List ℕ) → k < length bytes → get_or bytes k 0 ≡ 10 → ((j : ℕ) → j < k → get_or bytes j 0 ≢ 10)
    → lines_of bytes ≡ take k bytes ∷ lines_of (take (length bytes - (k + 1)) (drop (k + 1) bytes))
lines-cut k bytes within here before = rw (rest_is bytes (k + 1), add-one) (lines-first k bytes within here before)

pub lines-whole : (bytes : List ℕ) → 0 < length bytes → ((j : ℕ) → j < length bytes → get_or bytes j 0 ≢ 10)
    → lines_of bytes ≡ bytes ∷ lines_of (take (length bytes - length bytes) (drop (length bytes) bytes))
lines-whole bytes some none =
    let nothing : drop (length bytes) bytes ≡ [] = drop_all (length bytes) bytes (omega arith) in
    rw (rest_is bytes (length bytes), nothing) (lines-last bytes some none)

pub lines-none : (bytes : List ℕ) → length bytes ≡ 0 → lines_of bytes ≡ []
lines-none [] h = refl
lines-none (b ∷ bytes) h = absurd (omega arith)
