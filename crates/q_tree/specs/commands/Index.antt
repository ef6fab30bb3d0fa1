-- An index of the handles in a tree, with the paths to their qdiscs (tc(8), "NAMING").
use Rattle.std.specs.Prelude.{ℕ, ◌+◌, Bool, not, ◌==◌, List, [], ◌∷◌, ◌++◌, map, length, Option, option_map, if◌then◌else◌, refl}
use Rattle.std.specs.Coded.{Coded, code_by, coded×, coded_ℕ, coded_list}
use Rattle.std.specs.List.{find, list_any}
use Rattle.std.specs.Option.{option_map_or}
use Rattle.arrayvec.specs.ArrayVec.{ArrayVec}
use Rattle.q_packet.specs.Least.{least}
use Rattle.q_model.specs.Find.{Address, addresses, from_parent}
use Rattle.q_model.specs.Node.{Node, children}
use Rattle.q_tree.specs.Kept.{Kept}

-- the addresses in the order of show, and for how many below the root there is room
pub record Index : Type 0 where
  pub addresses : List Address
  pub room : ℕ

abbrev pub address_code : Coded Address
address_code = code_by (ℕ × List ℕ) (coded× coded_ℕ (coded_list coded_ℕ)) (λ a. (a.handle, a.path)) (λ p. record { handle = p.0; path = p.1 }) (λ _. refl)

abbrev pub index_code : Coded Index
index_code = code_by (List Address × ℕ) (coded× (coded_list address_code) coded_ℕ) (λ i. (i.addresses, i.room)) (λ p. record { addresses = p.0; room = p.1 }) (λ _. refl)

-- what a map from handles to paths has
abbrev pub address_of : ℕ × ArrayVec ℕ → Address
address_of e = record { handle = e.0; path = e.1.items }

abbrev pub listed : List (ℕ × ArrayVec ℕ) → List Address
listed entries = map address_of entries

-- one more; a handle that is there gets this path
abbrev pub added : List Address → Address → List Address
added [] a = a ∷ []
added (x ∷ xs) a = if a.handle == x.handle then record x { path = a.path } ∷ xs else x ∷ added xs a

-- an address seen from the node from which this path leads to where it was seen from
abbrev pub under : List ℕ → Address → Address
under path a = record a { path = path ++ a.path }

abbrev pub own_address : List ℕ → Option ℕ → List Address
own_address path handle = option_map_or (λ h. record { handle = h; path = path } ∷ []) handle []

-- those below a node
abbrev pub addresses_beneath : Node Kept → List Address
addresses_beneath n = from_parent (map addresses (children n))

-- the path to a handle, whether it is there, and the least that is not, from 8001 (hexadecimal) on
abbrev pub path_among : ℕ → List Address → Option (List ℕ)
path_among handle found = option_map (λ (a : Address). a.path) (find (λ (a : Address). a.handle == handle) found)

abbrev pub has_among : ℕ → List Address → Bool
has_among handle found = list_any (λ (a : Address). a.handle == handle) found

abbrev pub free_among : List Address → ℕ
free_among found = 0x8001 + least (λ k. not (has_among (0x8001 + k) found)) (length found)
