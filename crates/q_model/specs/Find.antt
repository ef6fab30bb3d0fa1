-- The place in a tree of a qdisc with a handle, or of a class; the tree's depth and its number of nodes.
-- tc(8), "NAMING": a qdisc is found by the major number of its handle, a class by `major:minor`. Implicit leaves have no handle.
use Rattle.std.specs.Prelude.{ℕ, suc, ◌+◌, ◌-◌, max, Bool, false, not, ◌&&◌, ◌==◌, nat_le, if◌then◌else◌, List, [], ◌∷◌, ◌++◌, map, length, Option, Some, None, is_some, option_map, option_and_then, slice_get}
use Rattle.std.specs.List.{enumerate_from, find, flat_map, list_any, sum}
use Rattle.std.specs.Option.{option_map_or}
use Rattle.q_packet.specs.Least.{least}
use Rattle.q_model.specs.declared.class_id.ClassId.{ClassId}
use Rattle.q_model.specs.declared.place.Place.{Place}
use Rattle.q_model.specs.declared.place.Place.TheVariants as place
use Rattle.q_model.specs.Node.{Discipline, Fifo, Prio, Tbf, Drr, FqCodel, Own, Node, children, from_below}
use Rattle.q_model.specs.Route.{class_at}

-- a handle, and the path to its node: at each node the child to go to, counted from 0
pub record Address : Type 0 where
  pub handle : ℕ
  pub path : List ℕ

-- the addresses in the children, seen from their parent
abbrev pub from_parent : List (List Address) → List Address
from_parent below =
    flat_map (λ child. map (λ (a : Address). record a { path = child.0 ∷ a.path }) child.1) (enumerate_from 0 below)

abbrev pub addresses_own : Own → List (List Address) → List Address
addresses_own own below = option_map_or (λ handle. record { handle = handle; path = [] } ∷ from_parent below) own.handle (from_parent below)

abbrev pub addresses : {M : Type 0} → Node M → List Address
addresses n = from_below addresses_own n

abbrev pub path_of : {M : Type 0} → ℕ → Node M → Option (List ℕ)
path_of handle n = option_map (λ (a : Address). a.path) (find (λ (a : Address). a.handle == handle) (addresses n))

abbrev pub has_handle : {M : Type 0} → ℕ → Node M → Bool
has_handle handle n = list_any (λ (a : Address). a.handle == handle) (addresses n)

-- a qdisc without a handle gets the least major from 8001 (hexadecimal) up that no qdisc has: of one more than there are
-- handles, one is free
abbrev pub free_handle : {M : Type 0} → Node M → ℕ
free_handle n = 0x8001 + least (λ k. not (has_handle (0x8001 + k) n)) (length (addresses n))

abbrev pub node_at : {M : Type 0} → List ℕ → Node M → Option (Node M)
node_at [] n = Some n
node_at (i ∷ path) n = option_and_then (node_at path) (slice_get (children n) i)

-- the place among a node's children of the class with this minor number
abbrev pub class_in : ℕ → ℕ → Discipline → Option ℕ
class_in bands minor (Prio priomap) = if nat_le 1 minor && nat_le minor bands then Some (minor - 1) else None
class_in bands minor (Tbf bucket limit) = if minor == 1 then Some 0 else None
class_in bands minor (Drr s) = class_at minor s
class_in bands minor (Fifo limit queue) = None
class_in bands minor (FqCodel s) = None

abbrev pub class_place : {M : Type 0} → ℕ → Node M → Option ℕ
class_place minor n = class_in (length (children n)) minor n.own.discipline

-- the path to a class: that to its qdisc, and the child there
abbrev pub class_path : {M : Type 0} → ClassId → Node M → Option (List ℕ)
class_path class n = option_and_then
    (λ path. option_and_then (λ parent. option_map (λ i. path ++ i ∷ []) (class_place class.minor parent)) (node_at path n))
    (path_of class.major n)

-- the path to a place below the device
abbrev pub place_path : {M : Type 0} → Place → Node M → Option (List ℕ)
place_path place.Top n = None
place_path place.Root n = Some []
place_path (place.Class class) n = class_path class n

-- whether an explicit discipline is at the end of the path: implicit leaves are those without a handle
abbrev pub is_explicit : {M : Type 0} → List ℕ → Node M → Bool
is_explicit path n = option_map_or (λ at. is_some at.own.handle) (node_at path n) false

-- the root is at depth 1
abbrev pub greatest : List ℕ → ℕ
greatest [] = 0
greatest (k ∷ ks) = max k (greatest ks)

abbrev pub depth : {M : Type 0} → Node M → ℕ
depth n = from_below (λ own below. suc (greatest below)) n

-- implicit leaves count
abbrev pub count_nodes : {M : Type 0} → Node M → ℕ
count_nodes n = from_below (λ own below. suc (sum below)) n
