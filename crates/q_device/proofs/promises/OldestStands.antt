-- Since when the oldest packet of a place has been queued, in a tree whose nodes remember something else.
use Rattle.std.proofs.Common.{◌≡◌, ℕ, ◌∙◌, List, refl, sym, ap, Option, Some, None, option_map, option_and_then}
use Rattle.q_model.specs.declared.place.Place.{Place}
use Rattle.q_model.specs.declared.place.Place.TheVariants as place
use Rattle.q_model.specs.Find.{class_path, node_at}
use Rattle.q_model.specs.Node.{Node, with_memory}
use Rattle.q_model.specs.Oldest.{oldest, oldest_at, oldest_own}
use Rattle.q_model.specs.Shrink.{remembering}
use Rattle.q_model.specs.Tally.{Tally}
use Rattle.q_model.specs.TreeState.{TreeState}
use Rattle.q_model.proofs.ShrinkLemmas.{each-each_memory}
use Rattle.q_device.proofs.device.StatsStands.{class-stands, node_at-stands}

module _ {M N : Type 0} (t : Tally M) (u : Tally N) (f : M → N) (same : (m : M) → t.counts_of m ≡ u.counts_of (f m)) where
  node-stands : (n : Node M) → oldest (with_memory f n) ≡ oldest n
  node-stands n = ap (oldest_own n.own) (each-each_memory oldest_own f n.below)

  pub oldest-stands : (p : Place) (s : TreeState M) → oldest_at p s ≡ oldest_at p (remembering f s)
  oldest-stands place.Top s = sym (node-stands s.root)
  oldest-stands place.Root s = sym (node-stands s.root)
  oldest-stands (place.Class class) s =
      by (class_path class s.root)
      ∙ ap (λ (o : Option (List ℕ)). option_and_then (λ (n : Node N). oldest n) (option_and_then (λ path. node_at path (with_memory f s.root)) o)) (sym (class-stands t u f same class s.root))
    where
      at : (o : Option (Node M)) → option_and_then (λ (n : Node M). oldest n) o ≡ option_and_then (λ (n : Node N). oldest n) (option_map (with_memory f) o)
      at None = refl
      at (Some n) = sym (node-stands n)

      by : (o : Option (List ℕ))
          → option_and_then (λ (n : Node M). oldest n) (option_and_then (λ path. node_at path s.root) o)
          ≡ option_and_then (λ (n : Node N). oldest n) (option_and_then (λ path. node_at path (with_memory f s.root)) o)
      by None = refl
      by (Some path) = at (node_at path s.root) ∙ ap (option_and_then (λ (n : Node N). oldest n)) (sym (node_at-stands t u f same path s.root))
