-- A tree that is kept is sound, with whole histories and with totals.
use Rattle.std.proofs.Common.{◌≡◌, ℕ, List, ◌++◌, sym, ap, subst, suc, arith}
use Rattle.std.specs.Prelude.{All}
use Rattle.std.specs.List.{AllPairs, sum}
use Rattle.std.proofs.lemmas.List.Elements.{All-nil, All-cons, All-append}
use Rattle.q_model.specs.Tally.{Note, counts_in, history, totals}
use Rattle.q_model.specs.Node.{Own, Forest, none, more, Node, each_memory, with_memory}
use Rattle.q_model.specs.Beneath.{beneath_own, beneath, row_of}
use Rattle.q_model.specs.Conserved.{nodes_of, held_own, held_beneath, IsBalanced, AreMarksBounded}
use Rattle.q_model.specs.Conserved as node
use Rattle.q_model.specs.Find.{Address, addresses_own, greatest}
use Rattle.q_model.specs.Lawful.{IsLawfulOwn, IsLawfulNode, IsLawfulTree}
use Rattle.q_model.specs.TreeState.{TreeState}
use Rattle.q_model.specs.Shrink.{shrunk}
use Rattle.q_model.specs.Sound.{IsSound}
use Rattle.q_model.proofs.ShrinkLemmas.{each-each_memory}
use Rattle.q_invariants.specs.Kept.{AllCounted, AllLawful, IsKeptTree}
use Rattle.q_invariants.proofs.sums.Counted.{is-balanced, are-bounded}
use Rattle.q_invariants.proofs.sums.Shuffled.{is-conserved}

-- what holds of each node, as a list
conserved-nodes : (x : Forest (List Note)) → AllCounted x → All (λ (n : Node (List Note)). node.IsConserved n.memory (beneath n)) (nodes_of x)
conserved-nodes none h = All-nil (λ (n : Node (List Note)). node.IsConserved n.memory (beneath n))
conserved-nodes (more own m below others) h =
    let P : Node (List Note) → Type 0 = λ n. node.IsConserved n.memory (beneath n) in
    let n : Node (List Note) = record { own = own; memory = m; below = below } in
    All-cons P n (nodes_of below ++ nodes_of others) (is-conserved m (beneath n) (held_beneath n) h.0)
    (All-append P (nodes_of below) (nodes_of others) (conserved-nodes below h.1) (conserved-nodes others h.2))

lawful-nodes : (mtu clock : ℕ) (x : Forest (List Note)) → AllCounted x → AllLawful mtu clock x → All (IsLawfulNode history mtu clock) (nodes_of x)
lawful-nodes mtu clock none c l = All-nil (IsLawfulNode history mtu clock)
lawful-nodes mtu clock (more own m below others) c l =
    let n : Node (List Note) = record { own = own; memory = m; below = below } in
    All-cons (IsLawfulNode history mtu clock) n (nodes_of below ++ nodes_of others)
    (record { own = l.0; balanced = is-balanced m (beneath n) (held_beneath n) c.0; marks = are-bounded m (beneath n) (held_beneath n) c.0 })
    (All-append (IsLawfulNode history mtu clock) (nodes_of below) (nodes_of others) (lawful-nodes mtu clock below c.1 l.1) (lawful-nodes mtu clock others c.2 l.2))

pub kept-sound : (clock : ℕ) (s : TreeState (List Note)) → IsKeptTree clock s → IsSound (record { clock = clock; tree = s })
kept-sound clock s h =
    let P : Node (List Note) → Type 0 = λ n. node.IsConserved n.memory (beneath n) in
    record {
      conserved = record {
        device = is-conserved s.top (beneath s.root) (held_beneath s.root) h.top;
        nodes = All-cons P s.root (nodes_of s.root.below) (is-conserved s.root.memory (beneath s.root) (held_beneath s.root) h.counted.0) (conserved-nodes s.root.below h.counted.1);
      };
      lawful = record {
        moment = h.moment;
        least_mtu = h.least_mtu;
        most_mtu = h.most_mtu;
        device = is-balanced s.top (beneath s.root) (held_beneath s.root) h.top;
        marks = are-bounded s.top (beneath s.root) (held_beneath s.root) h.top;
        nodes = All-cons (IsLawfulNode history s.device.mtu clock) s.root (nodes_of s.root.below)
            (record {
              own = h.lawful.0;
              balanced = is-balanced s.root.memory (beneath s.root) (held_beneath s.root) h.counted.0;
              marks = are-bounded
                  s.root.memory (beneath s.root) (held_beneath s.root) h.counted.0;
            })
            (lawful-nodes s.device.mtu clock s.root.below h.counted.1 h.lawful.1);
        handles = h.handles;
        levels = h.levels;
        few = h.few;
      };
    }

-- the same with totals in place of histories
counts-node : (mtu clock : ℕ) (own : Own) (m : List Note) (below : Forest (List Note)) → IsLawfulNode history mtu clock (record { own = own; memory = m; below = below })
    → IsLawfulNode totals mtu clock (record { own = own; memory = counts_in m; below = each_memory counts_in below })
counts-node mtu clock own m below h =
    let bs = sym (each-each_memory beneath_own counts_in below) in
    let hs = sym (each-each_memory held_own counts_in below) in
    record {
      own = subst (IsLawfulOwn mtu clock own) bs h.own;
      balanced = subst (λ xs. IsBalanced (row_of (counts_in m) (beneath_own own xs))) bs h.balanced;
      marks = subst (λ xs. AreMarksBounded (counts_in m) (held_own own xs)) hs h.marks;
    }

counts-nodes : (mtu clock : ℕ) (x : Forest (List Note)) → AllCounted x → AllLawful mtu clock x → All (IsLawfulNode totals mtu clock) (nodes_of (each_memory counts_in x))
counts-nodes mtu clock none c l = All-nil (IsLawfulNode totals mtu clock)
counts-nodes mtu clock (more own m below others) c l =
    let n : Node (List Note) = record { own = own; memory = m; below = below } in
    All-cons (IsLawfulNode totals mtu clock) (with_memory counts_in n) (nodes_of (each_memory counts_in below) ++ nodes_of (each_memory counts_in others))
    (counts-node mtu clock own m below (record { own = l.0; balanced = is-balanced m (beneath n) (held_beneath n) c.0; marks = are-bounded m (beneath n) (held_beneath n) c.0 }))
    (All-append (IsLawfulNode totals mtu clock) (nodes_of (each_memory counts_in below)) (nodes_of (each_memory counts_in others))
    (counts-nodes mtu clock below c.1 l.1) (counts-nodes mtu clock others c.2 l.2))

pub kept-totals : (clock : ℕ) (s : TreeState (List Note)) → IsKeptTree clock s → IsLawfulTree totals clock (shrunk s)
kept-totals clock s h =
    let bs = sym (ap (beneath_own s.root.own) (each-each_memory beneath_own counts_in s.root.below)) in
    let hs = sym (ap (held_own s.root.own) (each-each_memory held_own counts_in s.root.below)) in
    record {
      moment = h.moment;
      least_mtu = h.least_mtu;
      most_mtu = h.most_mtu;
      device = subst (λ packets. IsBalanced (row_of (counts_in s.top) packets)) bs (is-balanced s.top (beneath s.root) (held_beneath s.root) h.top);
      marks = subst (AreMarksBounded (counts_in s.top)) hs (are-bounded s.top (beneath s.root) (held_beneath s.root) h.top);
      nodes = All-cons (IsLawfulNode totals s.device.mtu clock) (with_memory counts_in s.root) (nodes_of (each_memory counts_in s.root.below))
          (counts-node s.device.mtu clock s.root.own s.root.memory s.root.below
          (record {
            own = h.lawful.0;
            balanced = is-balanced s.root.memory (beneath s.root) (held_beneath s.root) h.counted.0;
            marks = are-bounded
                s.root.memory (beneath s.root) (held_beneath s.root) h.counted.0;
          }))
          (counts-nodes s.device.mtu clock s.root.below h.counted.1 h.lawful.1);
      handles =
          subst (λ (xs : List Address). AllPairs (λ (a b : Address). (a.handle ≡ b.handle) → ⊥) xs)
          (sym (ap (addresses_own s.root.own) (each-each_memory addresses_own counts_in s.root.below))) h.handles;
      levels = omega (arith, h.levels, ap (λ (ds : List ℕ). suc (greatest ds)) (each-each_memory (λ own below. suc (greatest below)) counts_in s.root.below));
      few = omega (arith, h.few, ap (λ (ns : List ℕ). suc (sum ns)) (each-each_memory (λ own below. suc (sum below)) counts_in s.root.below));
    }
