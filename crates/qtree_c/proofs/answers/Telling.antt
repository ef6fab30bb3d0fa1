-- Nodes and classes of a device's tree, as C is told of them.
use Rattle.std.proofs.Common.{◌≡◌, ◌∙◌, ℕ, List, Option, Some, None, ap, ap₂, refl, sym}
use Rattle.std.specs.Prelude.{option_and_then, option_map, slice_get}
use Rattle.q_device.specs.device.DeviceSeen.{DeviceSeen}
use Rattle.q_model.specs.Conserved.{every_node}
use Rattle.q_model.specs.Node.{Node}
use Rattle.q_model.specs.Tally.{Counts, totals}
use Rattle.q_model.specs.TreeState.{TreeState}
use Rattle.q_model.specs.Views.{class_of, class_views, node}
use Rattle.q_model.specs.declared.class_view.ClassView.{ClassView}
use Rattle.q_model.specs.declared.node_view.NodeView.{NodeView}
use Rattle.q_script_semantics.proofs.ShownLemmas.{views-seen}
use Rattle.q_session.proofs.ShownNodes.{classes-counted, node-at}
use Rattle.q_session.specs.Shown.{counted}
use Rattle.q_tree.specs.answers.Flows.{flows_of, listed_flows}
use Rattle.q_tree.specs.Kept.{Kept, kept}
use Rattle.q_tree.specs.TreeSeen.{tree_numbers}
use Rattle.q_tree.specs.declared.answers.listed_flows.ListedFlows.{ListedFlows}
use Rattle.qtree_c.specs.answers.Nodes.{IsClass, IsNode, class_or, node_of, node_or, told_of}
use Rattle.qtree_c.specs.device.Calls.{found_number}
use Rattle.qtree_c.specs.declared.abi.c_class_view.CClassView.{CClassView}
use Rattle.qtree_c.specs.declared.abi.c_node_view.CNodeView.{CNodeView}

-- ---- each is the same in the tree with totals

counted-alike : {A : Type 0} (before : Node Kept → Option A) (after : Node Counts → Option A) → ((n : Node Kept) → before n ≡ after (counted n)) → (i : ℕ) (s : TreeState Kept)
    → option_and_then before (slice_get (every_node s.root) i) ≡ option_and_then after (slice_get (every_node (tree_numbers s).root) i)
counted-alike before after alike i s = by (slice_get (every_node s.root) i) ∙ ap (λ o. option_and_then after o) (sym (node-at s.root i)) where
  by : (o : Option (Node Kept)) → option_and_then before o ≡ option_and_then after (option_map counted o)
  by None = refl
  by (Some n) = alike n

flows-counted : (i : ℕ) (s : TreeState Kept) → flows_of i s ≡ flows_of i (tree_numbers s)
flows-counted i s = counted-alike (λ n. listed_flows n.own.discipline) (λ n. listed_flows n.own.discipline) (λ n. refl) i s

class-counted : (i j : ℕ) (s : TreeState Kept) → class_of i j s ≡ class_of i j (tree_numbers s)
class-counted i j s = counted-alike (λ n. slice_get (class_views n) j) (λ n. slice_get (class_views n) j) (λ n. ap (λ (vs : List ClassView). slice_get vs j) (classes-counted n)) i s

node-counted : (i : ℕ) (s : TreeState Kept) → node kept i s ≡ node totals i (tree_numbers s)
node-counted i s = ap (λ (vs : List NodeView). slice_get vs i) (views-seen kept totals (λ (k : Kept). k.counts) (λ k. refl) s)

-- ---- what is told

node-same : (i : ℕ) (d : DeviceSeen) (s : TreeState Kept) (o : Option NodeView) → tree_numbers s ≡ d.device.tree → o ≡ node kept i s → node totals i d.device.tree ≡ o
node-same i d s o same is = sym (is ∙ node-counted i s ∙ ap (λ (t : TreeState Counts). node totals i t) same)

pub node-told : (i : ℕ) (before after : CNodeView) (v : NodeView) (f : Option ListedFlows) (d : DeviceSeen) (s : TreeState Kept) → tree_numbers s ≡ d.device.tree → Some v ≡ node kept i s
    → f ≡ flows_of i s → after ≡ node_of v f → IsNode i 0 before after d d
node-told i before after v f d s same is flows told =
    let found = node-same i d s (Some v) same is in
    let listed : f ≡ flows_of i d.device.tree = flows ∙ flows-counted i s ∙ ap (λ (t : TreeState Counts). flows_of i t) same in
    record {
      same = refl;
      answer = sym (ap (λ (o : Option NodeView). found_number o) found);
      view = told ∙ ap₂ (λ (o : Option NodeView) (l : Option ListedFlows). node_or before o l) (sym found) listed;
    }

pub node-past : (i : ℕ) (before : CNodeView) (d : DeviceSeen) (s : TreeState Kept) → tree_numbers s ≡ d.device.tree → None ≡ node kept i s → IsNode i 32 before before d d
node-past i before d s same is =
    let none = node-same i d s None same is in
    record {
      same = refl;
      answer = sym (ap (λ (o : Option NodeView). found_number o) none);
      view = sym (ap (λ (o : Option NodeView). node_or before o (flows_of i d.device.tree)) none);
    }

class-same : (i j : ℕ) (d : DeviceSeen) (s : TreeState Kept) (o : Option ClassView) → tree_numbers s ≡ d.device.tree → o ≡ class_of i j s → class_of i j d.device.tree ≡ o
class-same i j d s o same is = sym (is ∙ class-counted i j s ∙ ap (λ (t : TreeState Counts). class_of i j t) same)

pub class-told : (i j : ℕ) (before after : CClassView) (v : ClassView) (d : DeviceSeen) (s : TreeState Kept) → tree_numbers s ≡ d.device.tree → Some v ≡ class_of i j s
    → after ≡ told_of v.class v.kind → IsClass i j 0 before after d d
class-told i j before after v d s same is told =
    let found = class-same i j d s (Some v) same is in
    record {
      same = refl;
      answer = sym (ap (λ (o : Option ClassView). found_number o) found);
      view = told ∙ sym (ap (λ (o : Option ClassView). class_or before o) found);
    }

pub class-past : (i j : ℕ) (before : CClassView) (d : DeviceSeen) (s : TreeState Kept) → tree_numbers s ≡ d.device.tree → None ≡ class_of i j s → IsClass i j 32 before before d d
class-past i j before d s same is =
    let none = class-same i j d s None same is in
    record {
      same = refl;
      answer = sym (ap (λ (o : Option ClassView). found_number o) none);
      view = sym (ap (λ (o : Option ClassView). class_or before o) none);
    }
