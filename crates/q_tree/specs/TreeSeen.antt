-- What a contract sees of a tree of the code: the model's device, whose nodes remember what they counted and their places.
-- The counters are those of `tc -s qdisc show` (tc(8)).
use Rattle.std.specs.Prelude.{◌≡◌, ◌<◌, ◌≤◌, ◌+◌, ◌^◌, List, None, IfSome}
use mathlib.Core.Logic.{◌⊎◌}
use Rattle.q_packet.specs.Descriptor.{Descriptor}
use Rattle.q_model.specs.Beneath.{beneath, totals_in}
use Rattle.q_model.specs.Find.{addresses, count_nodes}
use Rattle.q_model.specs.Node.{Node}
use Rattle.q_model.specs.Refusals.{most_nodes}
use Rattle.q_model.specs.Route.{Route}
use Rattle.q_model.specs.Shrink.{remembering, shrunk}
use Rattle.q_model.specs.Step.{DeviceState}
use Rattle.q_model.specs.Tally.{Note, Counts, with_packet}
use Rattle.q_model.specs.TreeState.{TreeState}
use Rattle.q_invariants.specs.Kept.{IsKeptTree}
use Rattle.q_tree.specs.arrival.Arrivals.{HasPlace}
use Rattle.q_tree.specs.Kept.{Kept}
use Rattle.q_tree.specs.route.RouteSeen.{RouteSeen, route_seen}
use Rattle.q_tree.specs.Seen.{IsCountedWithin}
use Rattle.q_tree.specs.declared.tree.Tree.TheInside.{Inside}

abbrev pub tree_seen : Inside → DeviceState Kept
tree_seen a = record {
  clock = a.clock;
  tree = record {
    device = record { mtu = a.mtu; txqueuelen = a.txqueuelen };
    top = record {
      counts = record { arrived = a.top.arrived; sent = a.top.sent; refused = a.top.refused; dropped = a.top.dropped; marked = a.top.marked };
      places = 0;
    };
    root = a.root;
  };
}

-- without the places, which are memory and mean nothing to the rules
abbrev pub tree_numbers : TreeState Kept → TreeState Counts
tree_numbers s = remembering (λ (k : Kept). k.counts) s

abbrev pub numbers : DeviceState Kept → DeviceState Counts
numbers d = record { clock = d.clock; tree = tree_numbers d.tree }

-- what is stored beside the view: what the device has queued; and its numbers are those of some tree with whole histories, of
-- which all holds that every event keeps
pub record IsKeptDevice (a : Inside) : Type 0 where
  pub history : TreeState (List Note)
  pub keeps : IsKeptTree a.clock history
  pub same : tree_numbers (tree_seen a).tree ≡ shrunk history
  pub queued : a.top.queued ≡ totals_in (beneath a.root)
  pub within : IsCountedWithin a.root.memory.counts.arrived a.top.arrived

-- and its index has the addresses of its tree, with room for those of every tree once a node is below the root
pub record IsIndexedDevice (a : Inside) : Type 0 where
  pub device : IsKeptDevice a
  pub handles : a.handles.addresses ≡ addresses a.root
  pub room : 1 < count_nodes a.root → most_nodes ≤ a.handles.room + 1

-- the route of some packet in this tree
pub record IsRouteIn (r : RouteSeen) (d : DeviceState Kept) : Type 0 where
  pub packet : Descriptor
  pub is : r ≡ route_seen packet d.tree.device.mtu d.tree.root

-- A packet may arrive on this route: the queue at its end has a place where it is not refused, and the device can count a
-- packet of this length.
pub record CanArrive (r : RouteSeen) (d : DeviceState Kept) : Type 0 where
  pub place : IfSome r.route (λ (way : Route). way.refusal ≡ None → HasPlace way.path d.tree.root)
  pub packets : d.tree.top.counts.arrived.packets + 1 < 2 ^ 64
  pub bytes : d.tree.top.counts.arrived.bytes + r.len < 2 ^ 64

-- the root has counted the packet, or it never came there
abbrev pub IsArrived : Descriptor → Node Kept → Node Kept → Type 0
IsArrived p before after =
    (after.memory.counts.arrived ≡ with_packet before.memory.counts.arrived p) ⊎ (after.memory.counts.arrived ≡ before.memory.counts.arrived)
