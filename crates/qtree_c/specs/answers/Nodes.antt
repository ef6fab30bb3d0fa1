-- The nodes and classes of a tree, as they are reported to C.
-- Nodes, classes and their order are those of tc's show lines, and the numbers of kinds and places this project's own.
use Rattle.std.specs.Prelude.{◌≡◌, ℕ, List, [], ◌∷◌, if◌then◌else◌, Option, Some, None, unwrap_or}
use Rattle.q_device.specs.device.DeviceSeen.{DeviceSeen}
use Rattle.q_fqcodel.specs.FqState.{FqSettings}
use Rattle.q_model.specs.Tally.{totals}
use Rattle.q_model.specs.Views.{class_of, node}
use Rattle.q_model.specs.declared.class_id.ClassId.{ClassId}
use Rattle.q_model.specs.declared.class_kind.ClassKind.{ClassKind}
use Rattle.q_model.specs.declared.class_kind.ClassKind.TheVariants as kind
use Rattle.q_model.specs.declared.class_view.ClassView.{ClassView}
use Rattle.q_model.specs.declared.node_view.NodeView.{NodeView}
use Rattle.q_model.specs.declared.place.Place.{Place}
use Rattle.q_model.specs.declared.place.Place.TheVariants as place
use Rattle.q_model.specs.declared.qdisc_view.QdiscView.{QdiscView}
use Rattle.q_model.specs.declared.qdisc_view.QdiscView.TheVariants as qdisc
use Rattle.q_tree.specs.answers.Flows.{flows_of}
use Rattle.q_tree.specs.declared.answers.listed_flows.ListedFlows.{ListedFlows}
use Rattle.qtree_c.specs.abi.Structs.{row_of}
use Rattle.qtree_c.specs.device.Calls.{found_number}
use Rattle.qtree_c.specs.declared.abi.c_class_view.CClassView.{CClassView}
use Rattle.qtree_c.specs.declared.abi.c_node_view.CNodeView.{CNodeView}

-- ---- nodes

-- the number of a place, and the major and minor number of the class that it is
abbrev pub place_in : Place → ℕ × ℕ × ℕ
place_in place.Top = (0, 0, 0)
place_in place.Root = (1, 0, 0)
place_in (place.Class c) = (2, c.major, c.minor)

abbrev pub no_bands : List ℕ
no_bands = 0 ∷ 0 ∷ 0 ∷ 0 ∷ 0 ∷ 0 ∷ 0 ∷ 0 ∷ 0 ∷ 0 ∷ 0 ∷ 0 ∷ 0 ∷ 0 ∷ 0 ∷ 0 ∷ []

-- what is reported of each node, whatever its kind; nothing of its settings
abbrev pub standing_of : NodeView → CNodeView
standing_of v = record {
  row = row_of v.row;
  limit = 0;
  rate = 0;
  target = 0;
  interval = 0;
  burst = 0;
  flows = 0;
  new_flows = 0;
  old_flows = 0;
  quantum = 0;
  drop_batch = 0;
  kind = 0;
  place = (place_in v.place).0;
  handle = unwrap_or v.handle 0;
  parent_major = (place_in v.place).1;
  parent_minor = (place_in v.place).2;
  mtu = 0;
  ecn = 0;
  bands = 0;
  priomap = no_bands;
}

-- the eight settings of an fq_codel
abbrev pub with_fq_codel : FqSettings → CNodeView → CNodeView
with_fq_codel s n = record n {
  limit = s.limit;
  target = s.target;
  interval = s.interval;
  flows = s.flows;
  quantum = s.quantum;
  drop_batch = s.drop_batch;
  kind = 6;
  mtu = s.mtu;
  ecn = if s.ecn then 1 else 0;
}

-- the kind and its settings
abbrev pub with_options : QdiscView → CNodeView → CNodeView
with_options (qdisc.Pfifo limit) n = record n { kind = 1; limit = limit }
with_options (qdisc.Bfifo limit) n = record n { kind = 2; limit = limit }
with_options (qdisc.Prio bands priomap) n = record n { kind = 3; bands = bands; priomap = priomap }
with_options (qdisc.Tbf rate burst limit) n = record n { kind = 4; rate = rate; burst = burst; limit = limit }
with_options qdisc.Drr n = record n { kind = 5 }
with_options (qdisc.FqCodel settings) n = with_fq_codel settings n

-- how many flows an fq_codel has listed
abbrev pub with_listed : Option ListedFlows → CNodeView → CNodeView
with_listed None n = n
with_listed (Some c) n = record n { new_flows = c.new_flows; old_flows = c.old_flows }

-- all but those
abbrev pub unlisted_of : NodeView → CNodeView
unlisted_of v = with_options v.qdisc (standing_of v)

abbrev pub node_of : NodeView → Option ListedFlows → CNodeView
node_of v listed = with_listed listed (unlisted_of v)

-- what is in the place of what was there before
abbrev pub node_or : CNodeView → Option NodeView → Option ListedFlows → CNodeView
node_or before None listed = before
node_or before (Some v) listed = node_of v listed

-- the node of this index, in the order of show, or that there are not so many (32)
pub record IsNode (index code : ℕ) (before after : CNodeView) (d n : DeviceSeen) : Type 0 where
  pub same : n ≡ d
  pub answer : code ≡ found_number (node totals index d.device.tree)
  pub view : after ≡ node_or before (node totals index d.device.tree) (flows_of index d.device.tree)

-- ---- classes

-- a class of a qdisc of this kind, and what a drr keeps of it
abbrev pub told : ClassId → ℕ → ℕ → ℕ → ℕ → CClassView
told c of quantum active deficit = record { deficit = deficit; quantum = quantum; kind = of; major = c.major; minor = c.minor; active = active }

-- one of a drr has a quantum, and where it is active a deficit
abbrev pub told_of : ClassId → ClassKind → CClassView
told_of c kind.Prio = told c 3 0 0 0
told_of c kind.Tbf = told c 4 0 0 0
told_of c (kind.Drr quantum None) = told c 5 quantum 0 0
told_of c (kind.Drr quantum (Some deficit)) = told c 5 quantum 1 deficit

abbrev pub class_or : CClassView → Option ClassView → CClassView
class_or before None = before
class_or before (Some v) = told_of v.class v.kind

-- the class of this index at the node of that index, or that there are not so many (32)
pub record IsClass (index which code : ℕ) (before after : CClassView) (d n : DeviceSeen) : Type 0 where
  pub same : n ≡ d
  pub answer : code ≡ found_number (class_of index which d.device.tree)
  pub view : after ≡ class_or before (class_of index which d.device.tree)
