-- What becomes of each node in a step that keeps the tree's form: every node of the tree after it comes of one before.
use Rattle.std.proofs.Common.{◌≡◌, inl, inr, List, refl}
use Rattle.q_model.specs.Tally.{Note, history}
use Rattle.q_model.specs.Node.{Forest, none, more, Node, Shape, each_memory, shape}
use Rattle.q_model.specs.Work.{Worked, each_booked, booked}
use Rattle.q_invariants.proofs.tree.Within.{Within, IsOf}

-- the same nodes with the same handles, each of which became what the rule says
abbrev pub AllRelated : (Shape → Worked → Type 0) → Forest (Unit {0}) → Forest (List Note) → Type 0
AllRelated R none none = Unit {0}
AllRelated R none (more own notes below others) = ⊥
AllRelated R (more own m below others) none = ⊥
AllRelated R (more own m below others) (more own_after notes below_after others_after) =
    R (record { own = own; memory = m; below = below }) (record { own = own_after; memory = notes; below = below_after })
    × (own_after.handle ≡ own.handle) × AllRelated R below below_after × AllRelated R others others_after

abbrev pub IsRelated : (Shape → Worked → Type 0) → Shape → Worked → Type 0
IsRelated R s w = R s w × (w.own.handle ≡ s.own.handle) × AllRelated R s.below w.below

-- the node that a node comes of
pub record Comes (R : Shape → Worked → Type 0) (P : Node (List Note) → Type 0) (n : Node (List Note)) : Type 0 where
  pub before : Node (List Note)
  pub worked : Worked
  pub there : P before
  pub by : R (shape before) worked
  pub handle : worked.own.handle ≡ before.own.handle
  pub is : booked history before worked ≡ n

abbrev pub forget : Forest (List Note) → Forest (Unit {0})
forget x = each_memory (λ m. tt) x

module _ (R : Shape → Worked → Type 0) where
  weaker : (P Q : Node (List Note) → Type 0) (n : Node (List Note)) → ((k : Node (List Note)) → P k → Q k) → Comes R P n → Comes R Q n
  weaker P Q n f c = record { before = c.before; worked = c.worked; there = f c.before c.there; by = c.by; handle = c.handle; is = c.is }

  comes-within : (x y : Forest (List Note)) (n : Node (List Note)) → AllRelated R (forget x) y → Within n (each_booked history x y) → Comes R (λ k. Within k x) n
  comes-within none none n h w = absurd w
  comes-within none (more own notes below others) n h w = absurd h
  comes-within (more own m below others) none n h w = absurd h
  comes-within (more own m below others) (more own_after notes below_after others_after) n h (inl is) = record {
    before = record { own = own; memory = m; below = below };
    worked = record { own = own_after; memory = notes; below = below_after };
    there = inl refl;
    by = h.0;
    handle = h.1;
    is = is;
  }
  comes-within (more own m below others) (more own_after notes below_after others_after) n h (inr (inl w)) =
      weaker (λ k. Within k below) (λ k. Within k (more own m below others)) n (λ k a. inr (inl a)) (comes-within below below_after n h.2 w)
  comes-within (more own m below others) (more own_after notes below_after others_after) n h (inr (inr w)) =
      weaker (λ k. Within k others) (λ k. Within k (more own m below others)) n (λ k a. inr (inr a)) (comes-within others others_after n h.3 w)

  pub comes-of : (root : Node (List Note)) (w : Worked) (n : Node (List Note)) → IsRelated R (shape root) w → IsOf n (booked history root w) → Comes R (λ k. IsOf k root) n
  comes-of root w n h (inl is) = record { before = root; worked = w; there = inl refl; by = h.0; handle = h.1; is = is }
  comes-of root w n h (inr a) =
      weaker (λ k. Within k root.below) (λ k. IsOf k root) n (λ k b. inr b) (comes-within root.below w.below n h.2 a)
