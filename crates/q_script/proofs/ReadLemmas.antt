-- Lemmas on a script that is read bit by bit.
use Rattle.std.proofs.Common.{◌≡◌, ℕ, ◌<◌, Bool, true, if◌then◌else◌, List, [], ◌++◌, Option, None, Some, IfSome, sym, ap, ◌∙◌, append-nil, arith, length, take, length-append}
use Rattle.std.specs.Io.KnownBytes.{Consumes, IsAtEnd}
use Rattle.std.proofs.KnownBytes.{Consumes-trans, Consumes-whole}
use Rattle.std.proofs.Math.Seq.{take-append_seam}

-- the reader came to its end, and so the script is all that it had
pub read-end : (a b c : Option (List ℕ)) (script chunk : List ℕ) (n : ℕ) → Consumes a b script → Consumes b c (take n chunk) × (n ≡ 0 → 0 < length chunk → IsAtEnd c) → n ≡ 0 → 0 < length chunk
    → IfSome a (λ all. script ≡ all)
read-end a b c script chunk n h w none room =
    let nothing : take n chunk ≡ [] = ap (λ m. take m chunk) none in
    let whole = Consumes-trans a b c script (take n chunk) h w.0 in
    Consumes-whole a c (script ++ take n chunk) (λ all. script ≡ all) whole (w.1 none room) (sym (ap (λ l. script ++ l) nothing ∙ append-nil script))

-- the reader had so many bytes
pub read-long : (a c : Option (List ℕ)) (bytes : List ℕ) (most : ℕ) → Consumes a c bytes → most < length bytes → IfSome a (λ all. most < length all)
read-long None c bytes most h long = tt
read-long (Some x) None bytes most h long = absurd h
read-long (Some x) (Some y) bytes most h long = rw h (omega (arith, length-append bytes y, long))

-- a vector that took more
pub read-grown : (told : Bool) (old new more : List ℕ) → new ≡ (if told then old ++ more else old) → told ≡ true → new ≡ old ++ more
read-grown told old new more h took = h ∙ ap (λ t. if t then old ++ more else old) took

-- a chunk that was filled, as a slice of its vector
pub read-chunk : (n : ℕ) (chunk behind : List ℕ) → length chunk ≡ n → take n (chunk ++ behind) ≡ chunk
read-chunk n chunk behind h = ap (λ m. take m (chunk ++ behind)) (sym h) ∙ take-append_seam chunk behind
