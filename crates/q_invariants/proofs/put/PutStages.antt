-- An arrival goes down one way: each node afterwards is as it was, or the packet was put at or beneath it.
use Rattle.std.proofs.Common.{◌≡◌, ℕ, zero, suc, ◌⊎◌, inl, inr, List, [], ◌∷◌, map, set, refl, sym, subst, Option, Some, None}
use Rattle.std.specs.Prelude.{slice_get}
use Rattle.std.specs.Option.{option_map_or}
use Rattle.std.proofs.lemmas.Option.{none-some, same_Some}
use Rattle.q_packet.specs.Descriptor.{Descriptor}
use Rattle.q_packet.specs.declared.cause.Cause.{Cause}
use Rattle.q_model.specs.Node.{Forest, none, more, Shape, nodes_in, side_by_side, children, each_memory}
use Rattle.q_model.specs.Work.{Worked, quiet}
use Rattle.q_model.specs.Put.{put_here, put_beneath, put_along}
use Rattle.q_invariants.proofs.tree.Quiet.{side-quiet}
use Rattle.q_invariants.proofs.tree.Related.{AllRelated, IsRelated}

-- the node where a packet came by, or of which nothing happened
abbrev pub IsPutOf : ℕ → Descriptor → Option Cause → Shape → Worked → Type 0
IsPutOf now p refusal s w = (w ≡ quiet s) ⊎ ((path : List ℕ) × (w ≡ (put_along now p refusal path s).node))

module _ (now : ℕ) (p : Descriptor) (refusal : Option Cause) where
  abbrev Rel : Shape → Worked → Type 0
  Rel = IsPutOf now p refusal

  quiet-below : (x : Forest (Unit {0})) → AllRelated Rel x (each_memory (λ u. []) x)
  quiet-below none = tt
  quiet-below (more own m below others) = (inl refl, refl, quiet-below below, quiet-below others)

  pub quiet-related : (s : Shape) → IsRelated Rel s (quiet s)
  quiet-related s = (inl refl, refl, quiet-below s.below)

  quiet-side : (x : Forest (Unit {0})) → AllRelated Rel x (side_by_side (map quiet (nodes_in x)))
  quiet-side x = subst (AllRelated Rel x) (sym (side-quiet x)) (quiet-below x)

  -- one child changed
  set-below : (x : Forest (Unit {0})) (i : ℕ) (c : Shape) (w : Worked) → slice_get (nodes_in x) i ≡ Some c → IsRelated Rel c w → AllRelated Rel x (side_by_side (set (map quiet (nodes_in x)) i w))
  set-below none i c w e h = absurd (none-some c e)
  set-below (more own m below others) zero c w e h =
      let is : c ≡ record { own = own; memory = m; below = below } = sym (same_Some (record { own = own; memory = m; below = below }) c e) in
      let r : IsRelated Rel (record { own = own; memory = m; below = below }) w = subst (λ (k : Shape). IsRelated Rel k w) is h in
      (r.0, r.1, r.2, quiet-side others)
  set-below (more own m below others) (suc i) c w e h = (inl refl, refl, quiet-below below, set-below others i c w e h)

  here-below : (o : Option Cause) (s : Shape) → ((put_here now p o s).node.own.handle ≡ s.own.handle) × AllRelated Rel s.below (put_here now p o s).node.below
  here-below None s = (refl, quiet-side s.below)
  here-below (Some cause) s = (refl, quiet-side s.below)

  along-below : (path : List ℕ) (s : Shape) → ((put_along now p refusal path s).node.own.handle ≡ s.own.handle) × AllRelated Rel s.below (put_along now p refusal path s).node.below
  along-below [] s = here-below refusal s
  along-below (i ∷ path) s = by (slice_get (children s) i) refl (along-below path)
    where
      by : (o : Option Shape) → slice_get (children s) i ≡ o
          → ((c : Shape) → ((put_along now p refusal path c).node.own.handle ≡ c.own.handle) × AllRelated Rel c.below (put_along now p refusal path c).node.below)
          → ((option_map_or (λ (child : Shape). put_beneath p i s (put_along now p refusal path child)) o (put_here now p refusal s)).node.own.handle ≡ s.own.handle)
          × AllRelated Rel s.below (option_map_or (λ (child : Shape). put_beneath p i s (put_along now p refusal path child)) o (put_here now p refusal s)).node.below
      by None e rec = here-below refusal s
      by (Some c) e rec = (refl, set-below s.below i c (put_along now p refusal path c).node e (inr (path, refl), (rec c).0, (rec c).1))

  pub along-related : (path : List ℕ) (s : Shape) → IsRelated Rel s (put_along now p refusal path s).node
  along-related path s = let r = along-below path s in (inr (path, refl), r.0, r.1)
