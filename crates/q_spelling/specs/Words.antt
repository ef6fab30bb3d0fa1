-- Words as they are in a line behind its first one: a space before each. The words of each line are q_line's.
use Rattle.std.specs.Prelude.{ℕ, List, ◌++◌, codes}
use Rattle.std.specs.List.{flat_map}

abbrev pub spaced : List (List ℕ) → List ℕ
spaced words = flat_map (λ word. codes " " ++ word) words

-- the name that stands for the device, which means nothing
abbrev pub device_name : List ℕ
device_name = codes "eth0"
