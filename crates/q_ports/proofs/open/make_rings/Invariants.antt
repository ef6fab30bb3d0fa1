use Rattle.std.proofs.Common.{◌≡◌, ◌<◌, ℕ, [], get_or, map, replicate}
use Rattle.std.specs.Prelude.{All, vec_len, vec_capacity}
use Rattle.q_ports.specs.Placed.{placed_by, ring_of_port, HasRing, PortSeen}
use Rattle.q_ports.specs.Rings.{received_from, ring_id, ring_seen}
use Rattle.q_ports.proofs.open.make_rings.Given as goal

abbrev pub invariant-loop-index : goal.invariant-loop-index
invariant-loop-index l = record {
  ports : map ring_of_port l.ports.items ≡ map ring_id (map ring_seen l.rings.items);
  count : (vec_len l.rings ≡ l.index) × (vec_len l.ports ≡ l.index);
  room : (vec_capacity l.rings ≡ l.count) × (vec_capacity l.ports ≡ l.count);
  indexes : (k : ℕ) (d : PortSeen) → k < l.index → (get_or l.ports.items k d).index ≡ k;
  lengths : All (HasRing l.ring) l.ports.items;
  placed : map placed_by l.ports.items ≡ replicate l.index [];
  received : map received_from (map ring_seen l.rings.items) ≡ replicate l.index [];
}
