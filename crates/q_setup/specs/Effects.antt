-- What commands add, change and delete.
use Rattle.std.specs.Prelude.{ℕ, zero, suc, Bool, true, false, List, [], ◌∷◌, if◌then◌else◌}
use Rattle.q_model.specs.declared.command.Command.{Command}
use Rattle.q_model.specs.declared.command.Command.TheVariants.{QdiscAdd, QdiscChange, QdiscDel, ClassAdd, ClassChange, ClassDel, FilterAdd, FilterDel}
use Rattle.q_setup.specs.declared.effect.Effect.{Effect}
use Rattle.q_setup.specs.declared.effect.Effect.TheVariants.{Adds, Changes, Deletes}

abbrev pub is_addition : Command → Bool
is_addition (QdiscAdd place handle kind) = true
is_addition (ClassAdd parent class quantum) = true
is_addition (FilterAdd parent major filter) = true
is_addition other = false

abbrev pub is_change : Command → Bool
is_change (QdiscChange place handle kind) = true
is_change (ClassChange parent class quantum) = true
is_change other = false

abbrev pub is_deletion : Command → Bool
is_deletion (QdiscDel place handle) = true
is_deletion (ClassDel parent class) = true
is_deletion (FilterDel parent prio) = true
is_deletion other = false

abbrev pub has_effect : Effect → Command → Bool
has_effect Adds c = is_addition c
has_effect Changes c = is_change c
has_effect Deletes c = is_deletion c

-- how many of them do
abbrev pub count : Effect → List Command → ℕ
count effect [] = zero
count effect (c ∷ commands) = if has_effect effect c then suc (count effect commands) else count effect commands

-- the same of each effect
abbrev pub additions : List Command → ℕ
additions commands = count Adds commands

abbrev pub changes : List Command → ℕ
changes commands = count Changes commands

abbrev pub deletions : List Command → ℕ
deletions commands = count Deletes commands
