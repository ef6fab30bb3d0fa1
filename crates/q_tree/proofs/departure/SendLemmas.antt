-- A tree of which a packet is sent: asked, and the packet taken out, in one walk.
use Rattle.std.proofs.Common.{◌≡◌, ℕ, ◌≤◌, ◌^◌, ◌∙◌, refl, sym, ap, subst, Option, Some, None}
use Rattle.std.specs.Prelude.{true, false, is_some, unwrap_or, if◌then◌else◌}
use Rattle.std.proofs.lemmas.Bool.{false≢true}
use Rattle.q_packet.specs.Descriptor.{Descriptor}
use Rattle.q_model.specs.declared.row.Row.{Row}
use Rattle.q_model.specs.declared.totals.Totals.{Totals}
use Rattle.q_model.specs.Ask.{Asked, ask, take_from}
use Rattle.q_model.specs.Beneath.{totals_in, beneath}
use Rattle.q_model.specs.Node.{Node, shape}
use Rattle.q_model.specs.Pop.{pop}
use Rattle.q_model.specs.Step.{DeviceState}
use Rattle.q_model.specs.TreeState.{take_packet}
use Rattle.q_model.specs.Work.{Worked, booked}
use Rattle.q_tree.specs.departure.AskSteps.{CanAsk, CanShow, IsShown, with_shown}
use Rattle.q_tree.specs.departure.PopSteps.{IsAmong, with_sent}
use Rattle.q_tree.specs.departure.Shown.{Shown}
use Rattle.q_tree.specs.Kept.{Kept, kept}
use Rattle.q_tree.specs.Seen.{IsCountedWithin}
use Rattle.q_tree.specs.TreeSeen.{tree_seen, IsKeptDevice}
use Rattle.q_tree.specs.declared.tree.Tree.TheInside.{Inside}
use Rattle.q_tree.proofs.commands.TreeIndex.{IsSameForm, taken-form}
use Rattle.q_tree.proofs.counters.RowsOf.{IsRowOf, among, row-popped}
use Rattle.q_tree.proofs.departure.Peeks.{popped-asked}
use Rattle.q_tree.proofs.TreeLemmas.{can-ask-root, shown-row, one-taken, taken-kept}

-- a packet that was written where there was one
pub given-some : (o : Option Descriptor) (old new : Descriptor) → is_some o ≡ true → new ≡ unwrap_or o old → o ≡ Some new
given-some None old new some is = absurd (false≢true some)
given-some (Some p) old new some is = ap Some (sym is)

pub given-none : (o : Option Descriptor) (old new : Descriptor) → is_some o ≡ false → new ≡ unwrap_or o old → (o ≡ None) × (new ≡ old)
given-none None old new none is = (refl, is)
given-none (Some p) old new none is = absurd (false≢true (sym none))

-- what a take leaves of a node, where it shows a packet and where it shows none
pub left-some : (now : ℕ) (n : Node Kept) (p : Descriptor) → (ask now (shape n)).shown ≡ Some p → (take_from now (shape n)).node ≡ (ask now (shape n)).taken
left-some now n p e = let a : Asked = ask now (shape n) in ap (λ (o : Option Descriptor). if is_some o then a.taken else a.peeked) e

pub left-none : (now : ℕ) (n : Node Kept) → (ask now (shape n)).shown ≡ None → (take_from now (shape n)).node ≡ (ask now (shape n)).peeked
left-none now n e = let a : Asked = ask now (shape n) in ap (λ (o : Option Descriptor). if is_some o then a.taken else a.peeked) e

-- a node that was asked, and then gave its packet or had none
pub gave-asked : (now : ℕ) (n m : Node Kept) (p : Descriptor) → CanAsk now n → m ≡ booked kept n (ask now (shape n)).peeked
    → (ask now (shape n)).shown ≡ Some p → booked kept m (pop m).after ≡ booked kept n (take_from now (shape n)).node
gave-asked now n m p can new shown = (popped-asked now n m p can new shown).left ∙ ap (λ (w : Worked). booked kept n w) (sym (left-some now n p shown))

module _ (a : Inside) (k : IsKeptDevice a) (now : ℕ) (later : a.clock ≤ now) (low : now ≤ 2 ^ 62) (s : Shown)
    (shown : IsShown (ask now (shape a.root)) s) (root : Node Kept) (new : root ≡ booked kept a.root (take_from now (shape a.root)).node) where
  -- where none was sent
  pub root-still : s.packet ≡ None → root ≡ booked kept a.root (ask now (shape a.root)).peeked
  root-still none = new ∙ ap (λ (w : Worked). booked kept a.root w) (left-none now a.root (sym shown.packet ∙ none))

  -- where one was sent: first the root had it at hand
  module _ (fit : CanShow s a.top) (r : Row) (row : r ≡ with_shown s a.top) (p : Descriptor) (some : s.packet ≡ Some p) where
    abbrev asked : Node Kept
    asked = booked kept a.root (ask now (shape a.root)).peeked

    offered : (ask now (shape a.root)).shown ≡ Some p
    offered = sym shown.packet ∙ some

    pub asked-row : IsRowOf r asked
    asked-row = shown-row a k now later low s shown asked refl fit r row

    pub asked-hand : (pop asked).shown ≡ Some p
    asked-hand = (popped-asked now a.root asked p (can-ask-root a k now later low) refl offered).at_hand

    pub sent-among : IsAmong p r.queued
    sent-among = among asked r asked-row p asked-hand

    popped : root ≡ booked kept asked (pop asked).after
    popped = new ∙ sym (gave-asked now a.root asked p (can-ask-root a k now later low) refl offered)

    pub sent-form : IsSameForm a.root root
    sent-form = taken-form now a.root asked (can-ask-root a k now later low) refl p root offered popped

    module _ (r2 : Row) (row2 : r2 ≡ with_sent p r) (b : Inside) (is : b ≡ record a { clock = now; top = r2; root = root }) where
      pub sent-tree : tree_seen b ≡ record { clock = now; tree = take_packet kept now (tree_seen a).tree }
      sent-tree = one-taken a k now later low s shown asked refl fit r row p some r2 row2 root popped b is

      pub sent-kept : root.memory.counts.arrived ≡ a.root.memory.counts.arrived → IsKeptDevice b
      sent-kept arrived =
          let left : IsRowOf r2 root = subst (λ (y : Row). IsRowOf y root) (sym row2) (subst (IsRowOf (with_sent p r)) (sym popped) (row-popped asked r asked-row p asked-hand)) in
          let counted : a.top.arrived ≡ r2.arrived = sym (ap (λ (y : Row). y.arrived) row) ∙ sym (ap (λ (y : Row). y.arrived) row2) in
          taken-kept a k now later low b (ap (λ (y : Inside). y.clock) is) (ap (λ (d : DeviceState Kept). d.tree) sent-tree)
          (subst (λ (y : Inside). y.top.queued ≡ totals_in (beneath y.root)) (sym is) left.queued)
          (subst (λ (y : Inside). IsCountedWithin y.root.memory.counts.arrived y.top.arrived) (sym is)
          (subst (λ (t : Totals). IsCountedWithin t r2.arrived) (sym arrived) (subst (λ (t : Totals). IsCountedWithin a.root.memory.counts.arrived t) counted k.within)))
