-- A line's words: the pieces between blanks, where a blank is a space, a tab or a carriage return.
-- The script language is this project's: nothing quotes a blank, and no blank is part of a word.
use Rattle.std.specs.Prelude.{ℕ, Bool, true, false, ◌||◌, ◌==◌, List, [], ◌∷◌}
use Rattle.std.specs.List.{filter, slice_split}

abbrev pub is_blank : ℕ → Bool
is_blank b = b == 32 || b == 9 || b == 13

abbrev pub is_filled : List ℕ → Bool
is_filled [] = false
is_filled (b ∷ bytes) = true

-- cut at each blank, and leave out the empty pieces
abbrev pub words_in : List ℕ → List (List ℕ)
words_in bytes = filter is_filled (slice_split is_blank bytes)

-- nothing but blanks, or a comment, which a number sign opens
abbrev pub is_blank_line : List (List ℕ) → Bool
is_blank_line [] = true
is_blank_line ([] ∷ rest) = false
is_blank_line ((b ∷ bytes) ∷ rest) = b == 35
