-- An edit changes the node at the end of a way, and those above it: of which node each node of the edited tree comes.
use Rattle.std.proofs.Common.{◌≡◌, ℕ, ◌⊎◌, inl, inr, List, [], ◌∷◌, refl, sym, ap, Option, Some, None, ◌∙◌}
use Rattle.std.specs.Prelude.{slice_get, option_and_then}
use Rattle.std.specs.Option.{option_map_or}
use Rattle.q_model.specs.Tally.{Note, history}
use Rattle.q_model.specs.Node.{Node, children}
use Rattle.q_model.specs.Find.{node_at}
use Rattle.q_model.specs.Edit.{above, edited_at}
use Rattle.q_invariants.proofs.tree.Within.{Within, IsOf, HasHandle, child-within, within-set}

module _ (notes : List Note) (f : Node (List Note) → Node (List Note)) where
  -- a node above the one that was edited
  pub record IsAbove (before after : Node (List Note)) : Type 0 where
    pub place : ℕ
    pub path : List ℕ
    pub child : Node (List Note)
    pub at : slice_get (children before) place ≡ Some child
    pub is : after ≡ above history notes place (edited_at history notes f path child) before

  module _ (E : Node (List Note) → Node (List Note) → Type 0) where
    -- a node that is as it was, that was edited so itself, or that is above it
    abbrev pub IsEditOf : Node (List Note) → Node (List Note) → Type 0
    IsEditOf before after = (after ≡ before) ⊎ E before after ⊎ IsAbove before after

    pub record ComesBy (h : ℕ) (P : Node (List Note) → Type 0) (n : Node (List Note)) : Type 0 where
      pub before : Node (List Note)
      pub there : P before
      pub handle : HasHandle h before
      pub by : IsEditOf before n

    -- what the edit makes of the node at the end of the way
    abbrev pub Ends : ℕ → Node (List Note) → Type 0
    Ends h old = (n : Node (List Note)) → IsOf n (f old) → HasHandle h n → ComesBy h (λ k. IsOf k old) n

    further : (h : ℕ) (P Q : Node (List Note) → Type 0) (n : Node (List Note)) → ((k : Node (List Note)) → P k → Q k) → ComesBy h P n → ComesBy h Q n
    further h P Q n g c = record { before = c.before; there = g c.before c.there; handle = c.handle; by = c.by }

    pub comes-edited : (h : ℕ) (path : List ℕ) (root n : Node (List Note)) → ((old : Node (List Note)) → node_at path root ≡ Some old → IsOf old root → Ends h old)
        → IsOf n (edited_at history notes f path root) → HasHandle h n → ComesBy h (λ k. IsOf k root) n
    comes-edited h [] root n ends w handle = ends root refl (inl refl) n w handle
    comes-edited h (i ∷ path) root n ends w handle = by (slice_get (children root) i) refl w (comes-edited h path)
      where
        same : IsOf n root → ComesBy h (λ k. IsOf k root) n
        same a = record { before = n; there = a; handle = handle; by = inl refl }

        through : (c : Node (List Note)) → slice_get (children root) i ≡ Some c → IsOf n (above history notes i (edited_at history notes f path c) root)
            → ((root n : Node (List Note)) → ((old : Node (List Note)) → node_at path root ≡ Some old → IsOf old root → Ends h old)
            → IsOf n (edited_at history notes f path root) → HasHandle h n → ComesBy h (λ k. IsOf k root) n)
            → ComesBy h (λ k. IsOf k root) n
        through c e (inl is) rec = record {
          before = root;
          there = inl refl;
          handle = ap (λ (k : Node (List Note)). k.own.handle) is ∙ handle;
          by = inr (inr (record { place = i; path = path; child = c; at = e; is = sym is }));
        }
        through c e (inr a) rec = beneath (within-set n (edited_at history notes f path c) c root.below i e a)
          where
            beneath : IsOf n (edited_at history notes f path c) ⊎ Within n root.below → ComesBy h (λ k. IsOf k root) n
            beneath (inr b) = same (inr b)
            beneath (inl b) =
                further h (λ k. IsOf k c) (λ k. IsOf k root) n (λ k g. inr (child-within k c root.below i e g))
                (rec c n (λ old at there. ends old (ap (λ (o : Option (Node (List Note))). option_and_then (node_at path) o) e ∙ at) (inr (child-within old c root.below i e there))) b handle)

        by : (o : Option (Node (List Note))) → slice_get (children root) i ≡ o
            → IsOf n (option_map_or (λ child. above history notes i (edited_at history notes f path child) root) o root)
            → ((root n : Node (List Note)) → ((old : Node (List Note)) → node_at path root ≡ Some old → IsOf old root → Ends h old)
            → IsOf n (edited_at history notes f path root) → HasHandle h n → ComesBy h (λ k. IsOf k root) n)
            → ComesBy h (λ k. IsOf k root) n
        by None e a rec = same a
        by (Some c) e a rec = through c e a rec
