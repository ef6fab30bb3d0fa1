-- Texts that are put together word by word, and the lines of events as q_line's law has them.
use Rattle.std.proofs.Common.{◌≡◌, ◌∙◌, ◌++◌, ℕ, List, [], ◌∷◌, ap, sym, refl, append_assoc}
use Rattle.std.specs.Prelude.{codes, decimal, map}
use Rattle.std.specs.List.{flat_map, join_with_byte}
use Rattle.std.proofs.lemmas.List.{append-nil}
use Rattle.std.proofs.lemmas.Grind.{flat_map-append}
use Rattle.q_model.specs.declared.ip_version.IpVersion.{IpVersion}
use Rattle.q_model.specs.declared.ip_version.IpVersion.TheVariants.{V4, V6}
use Rattle.q_line.specs.Spelling.{address_word}
use Rattle.q_show.specs.ShowText.{address_text}
use Rattle.q_spelling.specs.Words.{spaced}

-- words that are put behind words
pub then : (t old new : List ℕ) (a b : List (List ℕ)) → old ≡ t ++ spaced a → new ≡ old ++ spaced b → new ≡ t ++ spaced (a ++ b)
then t old new a b e f = f ∙ ap (λ l. l ++ spaced b) e ∙ append_assoc t (spaced a) (spaced b) ∙ ap (λ l. t ++ l) (sym (flat_map-append (λ word. codes " " ++ word) a b))

-- a line is its first word with the others behind it
pub joined : (first : List ℕ) (others : List (List ℕ)) → join_with_byte 32 (first ∷ others) ≡ first ++ spaced others
joined first [] = sym (append-nil first)
joined first (second ∷ others) = ap (λ l. first ++ (32 ∷ l)) (joined second others)

-- a line whose first words are there, and the others behind them
pub line : (first : List ℕ) (others rest : List (List ℕ)) (begun new : List ℕ) → begun ≡ first ++ spaced others → new ≡ begun ++ spaced rest → new ≡ join_with_byte 32 (first ∷ (others ++ rest))
line first others rest begun new e f = then first begun new others rest e f ∙ sym (joined first (others ++ rest))

-- numbers, each as a word
pub numbers : (ns : List ℕ) → flat_map (λ n. codes " " ++ decimal n) ns ≡ spaced (map decimal ns)
numbers [] = refl
numbers (n ∷ ns) = ap (λ l. (codes " " ++ decimal n) ++ l) (numbers ns)

-- an address as show prints it is as a line has it
pub address_spelled : (v : IpVersion) (a : ℕ) → address_text v a ≡ address_word v a
address_spelled V4 a = simp append_assoc
address_spelled V6 a = simp append_assoc
