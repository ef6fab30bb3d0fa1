-- A write takes the front of what is still to be written.
use Rattle.std.proofs.Common.{◌≡◌, ℕ, ◌+◌, ◌-◌, ◌≤◌, List, Option, sym, ap, ◌∙◌, subst, take, drop, length, arith, length-drop, take-add}
use Rattle.std.proofs.lemmas.List.{take_all, drop-drop}
use Rattle.std.specs.Io.KnownBytes.{Appends}
use Rattle.std.proofs.KnownBytes.{Appends-trans}

-- what is left of the text, as a slice
pub left-write : (taken n : ℕ) (rest text : List ℕ) → rest ≡ drop taken text → take (length rest - n) (drop n rest) ≡ drop (taken + n) text
left-write taken n rest text h = take_all (length rest - n) (drop n rest) (omega (arith, length-drop n rest)) ∙ (ap (λ l. drop n l) h ∙ drop-drop n taken text)

-- what the writer has of the text
pub taken-write : (a b c : Option (List ℕ)) (taken n : ℕ) (rest text : List ℕ) → rest ≡ drop taken text → Appends a b (take taken text)
    → Appends b c (take n rest) → Appends a c (take (taken + n) text)
taken-write a b c taken n rest text h before w =
    subst (Appends a c) (sym (take-add taken n text)) (Appends-trans a b c (take taken text) (take n (drop taken text)) before (subst (λ l. Appends b c (take n l)) h w))

-- how much is left of it
pub count-write : (taken n total : ℕ) (rest : List ℕ) → n ≤ length rest → taken + length rest ≡ total → taken + n + length (take (length rest - n) (drop n rest)) ≡ total
count-write taken n total rest within h =
    let whole : take (length rest - n) (drop n rest) ≡ drop n rest = take_all (length rest - n) (drop n rest) (omega (arith, length-drop n rest)) in
    rw whole (omega (arith, length-drop n rest, h, within))
