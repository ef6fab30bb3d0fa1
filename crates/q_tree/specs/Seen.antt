-- What a contract sees of a node of the code: the model's node, which remembers what it counted and its places.
-- The counters are those of `tc -s qdisc show` (tc(8)).
use Rattle.std.specs.Prelude.{◌≡◌, ℕ, ◌≤◌, List, [], ◌∷◌, All}
use Rattle.q_model.specs.declared.totals.Totals.{Totals}
use Rattle.q_model.specs.Beneath.{beneath, totals_in}
use Rattle.q_model.specs.Conserved.{held_beneath, IsBalanced, AreMarksBounded}
use Rattle.q_model.specs.Node as spec
use Rattle.q_tree.specs.departure.Holding.{packet_held, since_held}
use Rattle.q_tree.specs.Kept.{Kept}
use Rattle.q_tree.specs.declared.node.Discipline.{Discipline}
use Rattle.q_tree.specs.declared.node.Discipline.TheVariants.{Fifo, Prio, Tbf, Drr, FqCodel}
use Rattle.q_tree.specs.declared.node.Node.TheInside.{Inside}

abbrev pub discipline_seen : Discipline → spec.Discipline
discipline_seen (Fifo f) = spec.Fifo f.limit f.packets
discipline_seen (Prio priomap bands) = spec.Prio priomap
discipline_seen (Tbf bucket limit child) = spec.Tbf bucket limit
discipline_seen (Drr active classes) = spec.Drr active
discipline_seen (FqCodel q) = spec.FqCodel q.value.state

abbrev pub places_seen : Discipline → ℕ
places_seen (Fifo f) = f.places
places_seen (Prio priomap bands) = 0
places_seen (Tbf bucket limit child) = 0
places_seen (Drr active classes) = 0
places_seen (FqCodel q) = q.value.places

abbrev pub children_seen : Discipline → List (spec.Node Kept)
children_seen (Fifo f) = []
children_seen (Prio priomap bands) = bands.items
children_seen (Tbf bucket limit child) = child.value ∷ []
children_seen (Drr active classes) = classes.items
children_seen (FqCodel q) = []

abbrev pub seen : Inside → spec.Node Kept
seen a = record {
  own = record { handle = a.handle; discipline = discipline_seen a.discipline; held = packet_held a.held; since = since_held a.held; filters = a.filters };
  memory = record {
    counts = record { arrived = a.row.arrived; sent = a.row.sent; refused = a.row.refused; dropped = a.row.dropped; marked = a.row.marked };
    places = places_seen a.discipline;
  };
  below = spec.side_by_side (children_seen a.discipline);
}

-- no child has counted more arrivals than its parent
pub record IsCountedWithin (child parent : Totals) : Type 0 where
  pub packets : child.packets ≤ parent.packets
  pub bytes : child.bytes ≤ parent.bytes

-- what is stored beside the view
pub record IsKept (a : Inside) : Type 0 where
  pub queued : a.row.queued ≡ totals_in (beneath (seen a))
  pub balanced : IsBalanced a.row
  pub marks : AreMarksBounded (seen a).memory.counts (held_beneath (seen a))
  pub within : All (λ (child : spec.Node Kept). IsCountedWithin child.memory.counts.arrived a.row.arrived) (children_seen a.discipline)
