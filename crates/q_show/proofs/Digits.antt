-- The hexadecimal digits of a number below 65536, by how many there are.
use Rattle.std.proofs.Common.{◌≡◌, ℕ, ◌<◌, ◌≤◌, ◌/◌, ◌%◌, List, [], ◌∷◌, false, sym, ap, ◌∙◌, arith}
use Rattle.std.specs.Fmt.{digits, digits_onto, digit_glyph}
use Rattle.std.proofs.DigitsParse.{digits_onto-nil, digits_onto_last, digits_onto_step}

abbrev glyph : ℕ → ℕ
glyph d = digit_glyph false d

-- the digits from the last one on, where those of n remain
abbrev spelled : ℕ → ℕ → List ℕ → List ℕ
spelled k n rest = digits_onto k 16 false n rest

pub digits-one : (n : ℕ) → n < 16 → digits 16 false n ≡ glyph (n % 16) ∷ []
digits-one n h = sym (digits_onto-nil 16 false n) ∙ digits_onto_last 16 false n [] 64 (omega arith) (omega arith)

pub digits-two : (n : ℕ) → 16 ≤ n → n < 256 → digits 16 false n ≡ glyph (n / 16 % 16) ∷ glyph (n % 16) ∷ []
digits-two n low high =
    sym (digits_onto-nil 16 false n)
    ∙ digits_onto_step 16 false n [] 64 (omega arith) (omega arith)
    ∙ digits_onto_last 16 false (n / 16) (glyph (n % 16) ∷ []) 63 (omega arith) (omega arith)

pub digits-three : (n : ℕ) → 256 ≤ n → n < 4096 → digits 16 false n ≡ glyph (n / 256 % 16) ∷ glyph (n / 16 % 16) ∷ glyph (n % 16) ∷ []
digits-three n low high =
    let third : n / 16 / 16 ≡ n / 256 = omega arith in
    sym (digits_onto-nil 16 false n)
    ∙ digits_onto_step 16 false n [] 64 (omega arith) (omega arith)
    ∙ digits_onto_step 16 false (n / 16) (glyph (n % 16) ∷ []) 63 (omega arith) (omega arith)
    ∙ digits_onto_last 16 false (n / 16 / 16) (glyph (n / 16 % 16) ∷ glyph (n % 16) ∷ []) 62 (omega arith) (omega arith)
    ∙ ap (λ d. glyph (d % 16) ∷ glyph (n / 16 % 16) ∷ glyph (n % 16) ∷ []) third

pub digits-four : (n : ℕ) → 4096 ≤ n → n < 65536 → digits 16 false n ≡ glyph (n / 4096) ∷ glyph (n / 256 % 16) ∷ glyph (n / 16 % 16) ∷ glyph (n % 16) ∷ []
digits-four n low high =
    let third : n / 16 / 16 ≡ n / 256 = omega arith in
    let fourth : n / 16 / 16 / 16 % 16 ≡ n / 4096 = omega arith in
    sym (digits_onto-nil 16 false n)
    ∙ digits_onto_step 16 false n [] 64 (omega arith) (omega arith)
    ∙ digits_onto_step 16 false (n / 16) (glyph (n % 16) ∷ []) 63 (omega arith) (omega arith)
    ∙ digits_onto_step 16 false (n / 16 / 16) (glyph (n / 16 % 16) ∷ glyph (n % 16) ∷ []) 62 (omega arith) (omega arith)
    ∙ digits_onto_last 16 false (n / 16 / 16 / 16) (glyph (n / 16 / 16 % 16) ∷ glyph (n / 16 % 16) ∷ glyph (n % 16) ∷ []) 61 (omega arith) (omega arith)
    ∙ ap (λ d. d ∷ glyph (n / 16 / 16 % 16) ∷ glyph (n / 16 % 16) ∷ glyph (n % 16) ∷ []) (ap glyph fourth)
    ∙ ap (λ d. glyph (n / 4096) ∷ glyph (d % 16) ∷ glyph (n / 16 % 16) ∷ glyph (n % 16) ∷ []) third
