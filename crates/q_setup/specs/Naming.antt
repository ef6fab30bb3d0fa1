-- Which numbers a file leaves to the device (tc(8), "NAMING"): a qdisc without a handle gets one from 8001 (hexadecimal) up.
-- That they stay whatever they are, where no line names one, is this project's choice.
use Rattle.std.specs.Prelude.{ℕ, Bool, true, false, ◌&&◌, ◌||◌, ◌==◌, nat_le, if◌then◌else◌, Option, Some, None}
use Rattle.q_model.specs.declared.class_id.ClassId.{ClassId}
use Rattle.q_model.specs.declared.command.Command.{Command}
use Rattle.q_model.specs.declared.command.Command.TheVariants.{QdiscAdd, QdiscChange, QdiscDel, ClassAdd, ClassChange, ClassDel, FilterAdd, FilterDel}
use Rattle.q_model.specs.declared.place.Place.{Place}
use Rattle.q_model.specs.declared.place.Place.TheVariants as place

-- whether a device may have chosen this number
abbrev pub is_chosen : ℕ → Bool
is_chosen major = nat_le 0x8001 major

-- whether what a line names has such a number
abbrev pub handle_names : Option ℕ → Bool
handle_names None = false
handle_names (Some major) = is_chosen major

abbrev pub place_names : Option Place → Bool
place_names None = false
place_names (Some (place.Class class)) = is_chosen class.major
place_names (Some place.Root) = false
place_names (Some place.Top) = false

abbrev pub names_chosen : Command → Bool
names_chosen (QdiscAdd place handle kind) = place_names (Some place) || handle_names handle
names_chosen (QdiscChange place handle kind) = place_names place || handle_names handle
names_chosen (QdiscDel place handle) = place_names place || handle_names handle
names_chosen (ClassAdd parent class quantum) = is_chosen parent || is_chosen class.major
names_chosen (ClassChange parent class quantum) = handle_names parent || is_chosen class.major
names_chosen (ClassDel parent class) = handle_names parent || is_chosen class.major
names_chosen (FilterAdd parent major filter) = is_chosen parent || is_chosen major
names_chosen (FilterDel parent prio) = is_chosen parent

-- whether a number of the wanted tree and one of the device's are the same; where no line names a number that a device chooses,
-- each such number is as good as another
abbrev pub same_major : Bool → ℕ → ℕ → Bool
same_major keep wanted major = if keep && is_chosen wanted then is_chosen major else wanted == major

-- the same of qdiscs; an implicit leaf has no handle
abbrev pub same_handle : Bool → Option ℕ → Option ℕ → Bool
same_handle keep None None = true
same_handle keep (Some wanted) (Some major) = same_major keep wanted major
same_handle keep None (Some major) = false
same_handle keep (Some wanted) None = false

abbrev pub same_class : Bool → ClassId → ClassId → Bool
same_class keep wanted class = same_major keep wanted.major class.major && (wanted.minor == class.minor)

abbrev pub same_place : Bool → Place → Place → Bool
same_place keep place.Top place.Top = true
same_place keep place.Root place.Root = true
same_place keep (place.Class wanted) (place.Class class) = same_class keep wanted class
same_place keep place.Top place.Root = false
same_place keep place.Top (place.Class class) = false
same_place keep place.Root place.Top = false
same_place keep place.Root (place.Class class) = false
same_place keep (place.Class wanted) place.Top = false
same_place keep (place.Class wanted) place.Root = false
