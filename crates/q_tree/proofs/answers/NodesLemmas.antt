-- The next node in the order of show behind one, from the way to that one.
use Rattle.std.proofs.Common.{◌≡◌, ◌∙◌, ℕ, zero, suc, ◌+◌, ◌<◌, ◌≤◌, List, [], ◌∷◌, ◌++◌, length, sym, ap, arith, Some, None}
use Rattle.std.specs.Prelude.{slice_get, slice_index_or, unwrap_or}
use Rattle.std.specs.Option.{option_map_or}
use Rattle.std.proofs.lemmas.Option.{none-some, same_Some, slice_get-get_or, slice_get_within}
use Rattle.q_model.specs.declared.place.Place.{Place}
use Rattle.q_model.specs.declared.place.Place.TheVariants as place
use Rattle.q_model.specs.Node.{Node, children}
use Rattle.q_model.specs.Views.{places_below}
use Rattle.q_invariants.proofs.tree.Forests.{side-nodes}
use Rattle.q_tree.specs.answers.Nodes.{behind, children_from}
use Rattle.q_tree.specs.answers.Showing.{standing_in}
use Rattle.q_tree.specs.Kept.{Kept}
use Rattle.q_tree.proofs.answers.ShowLemmas.{from-here, nobody-left}

-- where the child in this place stands
abbrev pub stands_in : ℕ → Node Kept → Place
stands_in i n = unwrap_or (slice_get (places_below n.own n.below) i) place.Root

-- behind a node itself comes all beneath it
pub behind-nil : (n : Node Kept) → behind [] n ≡ standing_in (places_below n.own n.below) n.below
behind-nil n = ap (λ x. standing_in (places_below n.own n.below) x) (side-nodes n.below)

module _ (n : Node Kept) (i : ℕ) where
  abbrev places : List Place
  places = places_below n.own n.below

  -- a child, all beneath it, and the children further on
  pub children_from-some : (c : Node Kept) → slice_get (children n) i ≡ Some c → children_from i n ≡ (stands_in i n, c) ∷ behind (i ∷ []) n
  children_from-some c at =
      let inside : i < length (children n) = slice_get_within (children n) i c at in
      let is : c ≡ slice_index_or (children n) i c = same_Some c (slice_index_or (children n) i c) (sym at ∙ slice_get-get_or (children n) i c inside) in
      from-here places (children n) i c inside is
      ∙ ap (λ xs. (stands_in i n, c) ∷ xs ++ children_from (i + 1) n) (sym (behind-nil c))
      ∙ ap (λ o. (stands_in i n, c) ∷ option_map_or (behind []) o [] ++ children_from (i + 1) n) (sym at)

  past : (ns : List (Node Kept)) (i : ℕ) → slice_get ns i ≡ None → length ns ≤ i
  past [] i e = omega arith
  past (c ∷ ns) zero e = absurd (none-some c (sym e))
  past (c ∷ ns) (suc i) e = omega (arith, past ns i e)

  pub children_from-none : slice_get (children n) i ≡ None → children_from i n ≡ []
  children_from-none none = nobody-left places (children n) i (past (children n) i none)

  -- a way that leads to no child
  pub behind-none : (way : List ℕ) → slice_get (children n) i ≡ None → behind (i ∷ way) n ≡ []
  behind-none way none =
      ap (λ o. option_map_or (behind way) o [] ++ children_from (i + 1) n) none
      ∙ nobody-left places (children n) (i + 1) (omega (arith, past (children n) i none))
