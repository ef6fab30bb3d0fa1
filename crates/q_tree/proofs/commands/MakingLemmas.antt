-- A new node of the code: the model's, of which nothing was noted, so nothing waits there and no arrival was counted.
use Rattle.std.proofs.Common.{◌≡◌, ℕ, ◌+◌, ◌<◌, ◌≤◌, ◌^◌, ◌∙◌, List, [], ◌∷◌, ◌++◌, map, refl, sym, ap, ap₂, subst, Option, None, replicate, arith}
use Rattle.std.specs.Prelude.{All}
use Rattle.std.proofs.lemmas.List.{map-append, replicate_more}
use Rattle.std.proofs.lemmas.List.Elements.{All-cons, All-nil}
use Rattle.q_model.proofs.ShrinkLemmas.{each-each_memory, side_by_side-map}
use Rattle.q_model.specs.declared.kind.Kind.{Kind}
use Rattle.q_model.specs.declared.kind.Kind.TheVariants as kind
use Rattle.q_model.specs.declared.row.Row.{Row}
use Rattle.q_model.specs.Beneath.{beneath, beneath_own, totals_in}
use Rattle.q_model.specs.Make.{Device, made}
use Rattle.q_model.specs.Node.{Forest, Node, Own, Shape, blank, children, side_by_side}
use Rattle.q_model.specs.Ranges.{IsKind}
use Rattle.q_model.specs.Tally.{history, no_counts, no_totals}
use Rattle.q_invariants.proofs.edit.EditMade.{new_made}
use Rattle.q_invariants.proofs.edit.EditNew.{IsNew, new_beneath}
use Rattle.q_invariants.proofs.tree.Forests.{side-nodes}
use Rattle.q_tree.specs.commands.Making.{AreNew, IsNewDiscipline, IsNewNode}
use Rattle.q_tree.specs.counters.CountersSeen.{no_row}
use Rattle.q_tree.specs.Kept.{Kept, kept}
use Rattle.q_tree.specs.Seen.{IsCountedWithin, IsKept, children_seen, seen}
use Rattle.q_tree.specs.declared.node.Node.TheInside.{Inside}
use Rattle.q_tree.specs.departure.Holding.{packet_held, since_held}

-- one new node more
pub more-new : (ns : List (Node Kept)) (n : Node Kept) (s : Shape) (k : ℕ) → AreNew ns (replicate k s) → IsNewNode n s → AreNew (ns ++ n ∷ []) (replicate (k + 1) s)
more-new ns n s k old new =
    ap₂ (λ xs x. xs ++ x ∷ []) old new
    ∙ sym (map-append (blank kept) (replicate k s) (s ∷ []))
    ∙ ap (map (blank kept)) (replicate_more k s)

module _ (n : Node Kept) (s : Shape) (new : IsNewNode n s) where
  pub new-counts : n.memory.counts ≡ no_counts
  new-counts = ap (λ (m : Node Kept). m.memory.counts) new

  module _ (mtu clock : ℕ) (fresh : Option ℕ) (is : IsNew mtu clock fresh s) where
    pub nothing-beneath : beneath n ≡ []
    nothing-beneath =
        ap beneath new
        ∙ ap (beneath_own s.own) (each-each_memory beneath_own (λ u. kept.none) s.below ∙ sym (each-each_memory beneath_own (λ u. history.none) s.below))
        ∙ new_beneath mtu clock fresh s is

-- new children have counted no arrival
abbrev Within : Node Kept → Type 0
Within n = IsCountedWithin n.memory.counts.arrived no_totals

none-counted : (shapes : List Shape) → All Within (map (blank kept) shapes)
none-counted [] = All-nil Within
none-counted (s ∷ shapes) = All-cons Within (blank kept s) (map (blank kept) shapes) (record { packets = omega arith; bytes = omega arith }) (none-counted shapes)

pub children-within : (ns : List (Node Kept)) (shapes : List Shape) → AreNew ns shapes → All Within ns
children-within ns shapes new = subst (All Within) (sym new) (none-counted shapes)

-- a qdisc of this kind
handed : (d : Device) (now : ℕ) (handle : Option ℕ) (k : Kind) → made d now handle k ≡ record (made d now None k) { own = record (made d now None k).own { handle = handle } }
handed d now handle (kind.Pfifo limit) = refl
handed d now handle (kind.Bfifo limit) = refl
handed d now handle (kind.Prio s) = refl
handed d now handle (kind.Tbf rate burst limit) = refl
handed d now handle kind.Drr = refl
handed d now handle (kind.FqCodel options) = refl

empty-own : (d : Device) (now : ℕ) (k : Kind) → (made d now None k).own ≡ record { handle = None; discipline = (made d now None k).own.discipline; held = None; since = 0; filters = [] }
empty-own d now (kind.Pfifo limit) = refl
empty-own d now (kind.Bfifo limit) = refl
empty-own d now (kind.Prio s) = refl
empty-own d now (kind.Tbf rate burst limit) = refl
empty-own d now kind.Drr = refl
empty-own d now (kind.FqCodel options) = refl

module _ (d : Device) (now : ℕ) (handle : Option ℕ) (k : Kind) (a : Inside) (is : IsNewDiscipline a.discipline (made d now None k))
    (handle_is : a.handle ≡ handle) (held : a.held ≡ None) (filters : a.filters ≡ []) (row : a.row ≡ no_row) where
  own-is : (seen a).own ≡ (made d now handle k).own
  own-is =
      (λ i. record { handle = handle_is i; discipline = is.discipline i; held = packet_held (held i); since = since_held (held i); filters = filters i })
      ∙ sym (ap (λ (o : Own). record o { handle = handle }) (empty-own d now k))
      ∙ sym (ap (λ (s : Shape). s.own) (handed d now handle k))

  below-is : (seen a).below ≡ (blank kept (made d now handle k)).below
  below-is =
      ap side_by_side is.leaves
      ∙ sym (side_by_side-map (λ u. kept.none) (children (made d now None k)))
      ∙ ap (λ (x : Forest (Unit {0})). (blank kept (record (made d now None k) { below = x })).below) (side-nodes (made d now None k).below)
      ∙ sym (ap (λ (s : Shape). (blank kept s).below) (handed d now handle k))

  pub made-is : IsNewNode (seen a) (made d now handle k)
  made-is = λ i. record {
    own = own-is i;
    memory = record { counts = ap (λ (r : Row). record { arrived = r.arrived; sent = r.sent; refused = r.refused; dropped = r.dropped; marked = r.marked }) row i; places = is.places i };
    below = below-is i;
  }

  module _ (positive : 1 ≤ d.mtu) (small : d.mtu < 2 ^ 16) (ranges : IsKind k) where
    is_new : IsNew d.mtu now handle (made d now handle k)
    is_new = new_made d now handle k positive small ranges

    pub made-kept : IsKept a
    made-kept = record {
      queued = ap (λ (r : Row). r.queued) row ∙ sym (ap totals_in (nothing-beneath (seen a) (made d now handle k) made-is d.mtu now handle is_new));
      balanced = record {
        packets =
            omega (
              arith,
              ap (λ (r : Row). r.arrived.packets) row,
              ap (λ (r : Row). r.sent.packets) row,
              ap (λ (r : Row). r.refused.packets) row,
              ap
                  (λ (r : Row). r.dropped.packets) row,
              ap (λ (r : Row). r.queued.packets) row,
            );
        bytes =
            omega (
              arith,
              ap (λ (r : Row). r.arrived.bytes) row,
              ap (λ (r : Row). r.sent.bytes) row,
              ap (λ (r : Row). r.refused.bytes) row,
              ap
                  (λ (r : Row). r.dropped.bytes) row,
              ap (λ (r : Row). r.queued.bytes) row,
            );
      };
      marks = record { packets = omega (arith, ap (λ (r : Row). r.marked.packets) row); bytes = omega (arith, ap (λ (r : Row). r.marked.bytes) row) };
      within =
          subst (λ t. All (λ (n : Node Kept). IsCountedWithin n.memory.counts.arrived t) (children_seen a.discipline))
          (sym (ap (λ (r : Row). r.arrived) row)) (children-within (children_seen a.discipline) (children (made d now None k)) is.leaves);
    }
