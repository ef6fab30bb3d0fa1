-- A tree of the code from one call to the next: its numbers are always those of a tree with whole histories.
use Rattle.std.proofs.Common.{◌≡◌, ℕ, ◌≤◌, ◌<◌, ◌^◌, ◌∙◌, List, [], ◌∷◌, ◌++◌, map, refl, sym, ap, subst, Option, Some, None, option_to_list}
use Rattle.std.specs.Prelude.{is_some, if◌then◌else◌}
use Rattle.std.proofs.lemmas.List.{append-nil}
use Rattle.q_packet.specs.Descriptor.{Descriptor}
use Rattle.q_model.specs.declared.row.Row.{Row}
use Rattle.q_model.specs.declared.totals.Totals.{Totals}
use Rattle.q_model.specs.Ask.{Asked, ask}
use Rattle.q_model.specs.Beneath.{beneath, beneath_own, row_of, totals_in}
use Rattle.q_model.specs.Conserved.{held_own, held_beneath, IsBalanced, AreMarksBounded}
use Rattle.q_model.specs.Lawful.{IsLawfulOwn, IsLawfulTree}
use Rattle.q_model.specs.Make.{Device}
use Rattle.q_model.specs.Node.{Node, Forest, none, more, shape, each_memory, with_memory}
use Rattle.q_model.specs.Pop.{pop}
use Rattle.q_model.specs.Shrink.{StandsFor}
use Rattle.q_model.specs.Step.{DeviceState}
use Rattle.q_model.specs.Tally.{Tally, Note, Sent, Counts, counted, counts_in, history, noted, totals}
use Rattle.q_model.specs.TreeState.{TreeState, new_tree, peek_packet, take_packet, with_work}
use Rattle.q_model.specs.Work.{booked}
use Rattle.q_model.proofs.ShrinkLemmas.{totals_for_history, shape-with_memory, each-each_memory}
use Rattle.q_model.proofs.ShrinkSteps.{peek-stands, take-stands, new_tree-stands}
use Rattle.q_invariants.specs.Kept.{AllLawful, IsKeptTree, IsLawfulRoot}
use Rattle.q_invariants.proofs.ask.Answer.{silent-nil}
use Rattle.q_invariants.proofs.ask.Asks.{peek-kept, take-kept}
use Rattle.q_invariants.proofs.edit.EditLater.{root-later}
use Rattle.q_invariants.proofs.edit.Edits.{new-kept}
use Rattle.q_invariants.proofs.Sound.{kept-totals}
use Rattle.q_invariants.proofs.tree.Forests.{lawful-with_memory}
use Rattle.q_tree.specs.departure.AskSteps.{CanAsk, CanShow, IsShown, with_shown}
use Rattle.q_tree.specs.departure.PopSteps.{with_sent}
use Rattle.q_tree.specs.departure.Shown.{Shown}
use Rattle.q_tree.specs.Kept.{Kept, kept}
use Rattle.q_tree.specs.Seen.{IsCountedWithin}
use Rattle.q_tree.specs.TreeSeen.{tree_seen, tree_numbers, IsKeptDevice}
use Rattle.q_tree.specs.declared.tree.Tree.TheInside.{Inside}
use Rattle.q_tree.proofs.counters.AskRows.{counted-shown}
use Rattle.q_tree.proofs.counters.Rows.{counts_in_row}
use Rattle.q_tree.proofs.counters.RowsOf.{IsRowOf, can-show, row-shown}
use Rattle.q_tree.proofs.departure.Asking.{asked-weighs}
use Rattle.q_tree.proofs.departure.Forms.{noted-kept}
use Rattle.q_tree.proofs.departure.Peeks.{popped-asked, hand-asked}

pub stands : StandsFor kept totals (λ (k : Kept). k.counts)
stands = record { nothing = refl; one_more = λ m n. refl }

pub noted-push : {M : Type 0} (t : Tally M) (m : M) (notes : List Note) (n : Note) → noted t m (notes ++ n ∷ []) ≡ t.more (noted t m notes) n
noted-push t m [] n = refl
noted-push t m (x ∷ notes) n = noted-push t (t.more m x) notes n

-- what a node remembers says nothing of whether it is lawful
lawful-back : {A B : Type 0} (mtu clock : ℕ) (f : A → B) (x : Forest A) → AllLawful mtu clock (each_memory f x) → AllLawful mtu clock x
lawful-back mtu clock f none h = tt
lawful-back mtu clock f (more own m below others) h = (
  subst (IsLawfulOwn mtu clock own) (each-each_memory beneath_own f below) h.0,
  lawful-back mtu clock f below h.1,
  lawful-back mtu clock f others
      h.2,
)

pub root-back : {A B : Type 0} (mtu clock : ℕ) (f : A → B) (n : Node A) → IsLawfulRoot mtu clock (with_memory f n) → IsLawfulRoot mtu clock n
root-back mtu clock f n h = (subst (IsLawfulOwn mtu clock n.own) (each-each_memory beneath_own f n.below) h.0, lawful-back mtu clock f n.below h.1)

-- a new tree
pub new-device : (d : Device) (a : Inside) → 1 ≤ d.mtu → d.mtu < 2 ^ 16 → a.clock ≡ 0 → tree_numbers (tree_seen a).tree ≡ new_tree totals d → a.top.queued ≡ totals_in (beneath a.root)
    → IsCountedWithin a.root.memory.counts.arrived a.top.arrived → IsKeptDevice a
new-device d a least most clock same queued within = record {
  history = new_tree history d;
  keeps = subst (λ n. IsKeptTree n (new_tree history d)) (sym clock) (new-kept d least most);
  same = same ∙ sym (new_tree-stands history totals counts_in totals_for_history d);
  queued = queued;
  within = within;
}

module _ (a : Inside) (k : IsKeptDevice a) where
  pub same-shape : shape a.root ≡ shape k.history.root
  same-shape =
      sym (shape-with_memory (λ (m : Kept). m.counts) a.root) ∙ ap (λ (s : TreeState Counts). shape s.root) k.same ∙ shape-with_memory counts_in k.history.root

  pub least-mtu : 1 ≤ a.mtu
  least-mtu = subst (λ m. 1 ≤ m) (ap (λ (s : TreeState Counts). s.device.mtu) (sym k.same)) k.keeps.least_mtu

  pub lawful-tree : IsLawfulTree totals a.clock (tree_numbers (tree_seen a).tree)
  lawful-tree = subst (IsLawfulTree totals a.clock) (sym k.same) (kept-totals a.clock k.history k.keeps)

  -- the row of the device is right for its root
  pub top-row : IsRowOf a.top a.root
  top-row =
      let waits : beneath (with_memory (λ (m : Kept). m.counts) a.root) ≡ beneath a.root = ap (beneath_own a.root.own) (each-each_memory beneath_own (λ (m : Kept). m.counts) a.root.below) in
      let holds : held_beneath (with_memory (λ (m : Kept). m.counts) a.root) ≡ held_beneath a.root = ap (held_own a.root.own) (each-each_memory held_own (λ (m : Kept). m.counts) a.root.below) in
      let row : row_of (counts_in_row a.top) (beneath (with_memory (λ (m : Kept). m.counts) a.root)) ≡ a.top =
      ap (row_of (counts_in_row a.top)) waits ∙ ap (λ q. record a.top { queued = q }) (sym k.queued) in
      record {
        queued = k.queued;
        balanced = subst IsBalanced row lawful-tree.device;
        marks = subst (AreMarksBounded (counts_in_row a.top)) holds lawful-tree.marks;
      }

  module _ (now : ℕ) (later : a.clock ≤ now) (low : now ≤ 2 ^ 62) where
    pub lawful-root : IsLawfulRoot a.mtu now a.root
    lawful-root =
        let mtu : ℕ = k.history.device.mtu in
        subst (λ m. IsLawfulRoot m now a.root) (ap (λ (s : TreeState Counts). s.device.mtu) (sym k.same))
        (root-back mtu now (λ m. tt) a.root (subst (IsLawfulRoot mtu now) (sym same-shape)
        (lawful-with_memory mtu now (λ m. tt) k.history.root (root-later a.clock now later mtu k.history.root k.keeps.lawful))))

    pub can-ask-root : CanAsk now a.root
    can-ask-root = record { mtu = a.mtu; least = least-mtu; moment = low; lawful = lawful-root }

    -- what a take leaves is kept
    pub taken-kept : (b : Inside) → b.clock ≡ now → (tree_seen b).tree ≡ take_packet kept now (tree_seen a).tree
        → b.top.queued ≡ totals_in (beneath b.root) → IsCountedWithin b.root.memory.counts.arrived b.top.arrived → IsKeptDevice b
    taken-kept b clock tree queued within = record {
      history = take_packet history now k.history;
      keeps = subst (λ n. IsKeptTree n (take_packet history now k.history)) (sym clock) (take-kept a.clock now k.history k.keeps later low);
      same = ap tree_numbers tree ∙ take-stands kept totals (λ (m : Kept). m.counts) stands now (tree_seen a).tree ∙ ap (take_packet totals now) k.same
          ∙ sym (take-stands history totals counts_in totals_for_history now k.history);
      queued = queued;
      within = within;
    }

    module _ (s : Shown) (shown : IsShown (ask now (shape a.root)) s) (root : Node Kept) (new : root ≡ booked kept a.root (ask now (shape a.root)).peeked) where
      pub can-book-top : a.top.arrived.packets < 2 ^ 64 → a.top.arrived.bytes < 2 ^ 64 → CanShow s a.top
      can-book-top packets_fit bytes_fit =
          let x : Asked = ask now (shape a.root) in
          can-show a.root a.top top-row (booked kept a.root x.peeked) x.rises s (asked-weighs now a.root can-ask-root) shown.dropped shown.marked packets_fit bytes_fit

      -- what the root gives then is what it showed
      pub gives-shown : (pop root).shown ≡ s.packet
      gives-shown = hand-asked now a.root root can-ask-root new ∙ sym shown.packet

      module _ (fit : CanShow s a.top) (r : Row) (row : r ≡ with_shown s a.top) where
        pub shown-row : IsRowOf r root
        shown-row =
            let x : Asked = ask now (shape a.root) in
            subst (λ (y : Row). IsRowOf y root) (sym row) (subst (IsRowOf (with_shown s a.top)) (sym new)
            (row-shown a.root a.top top-row (booked kept a.root x.peeked) x.rises s (asked-weighs now a.root can-ask-root) shown.dropped shown.marked fit))

        shown-within : root.memory.counts.arrived ≡ a.root.memory.counts.arrived → IsCountedWithin root.memory.counts.arrived r.arrived
        shown-within arrived =
            subst (λ (t : Totals). IsCountedWithin t r.arrived) (sym arrived) (subst (λ (t : Totals). IsCountedWithin a.root.memory.counts.arrived t) (sym (ap (λ (y : Row). y.arrived) row)) k.within)

        counts-shown : counts_in_row r ≡ noted totals (counts_in_row a.top) (ask now (shape a.root)).rises
        counts-shown =
            let x : Asked = ask now (shape a.root) in
            ap counts_in_row row ∙ counted-shown x.rises [] s a.top (asked-weighs now a.root can-ask-root).quiet silent-nil shown.dropped shown.marked
            ∙ ap (noted totals (counts_in_row a.top)) (append-nil x.rises)

        -- once the root was asked
        module _ (b : Inside) (is : b ≡ record a { clock = now; top = r; root = root }) where
          pub peeked-tree : tree_seen b ≡ record { clock = now; tree = peek_packet kept now (tree_seen a).tree }
          peeked-tree =
              let x : Asked = ask now (shape a.root) in
              let top : record { counts = counts_in_row r; places = 0 } ≡ noted kept (tree_seen a).tree.top x.rises =
              ap (λ c. record { counts = c; places = 0 }) counts-shown ∙ sym (noted-kept (tree_seen a).tree.top x.rises) in
              ap tree_seen is ∙ (λ i. record { clock = now; tree = record { device = (tree_seen a).tree.device; top = top i; root = new i } })

          pub peeked-device : root.memory.counts.arrived ≡ a.root.memory.counts.arrived → IsKeptDevice b
          peeked-device arrived = record {
            history = peek_packet history now k.history;
            keeps = subst (λ n. IsKeptTree n (peek_packet history now k.history)) (sym (ap (λ (y : Inside). y.clock) is)) (peek-kept a.clock now k.history k.keeps later low);
            same = ap (λ (d : DeviceState Kept). tree_numbers d.tree) peeked-tree ∙ peek-stands kept totals (λ (m : Kept). m.counts) stands now (tree_seen a).tree ∙ ap (peek_packet totals now) k.same
                ∙ sym (peek-stands history totals counts_in totals_for_history now k.history);
            queued = subst (λ (y : Inside). y.top.queued ≡ totals_in (beneath y.root)) (sym is) shown-row.queued;
            within = subst (λ (y : Inside). IsCountedWithin y.root.memory.counts.arrived y.top.arrived) (sym is) (shown-within arrived);
          }

        -- where no packet may go now
        module _ (empty : s.packet ≡ None) (b : Inside) (is : b ≡ record a { clock = now; top = r; root = root }) where
          nothing : (ask now (shape a.root)).shown ≡ None
          nothing = sym shown.packet ∙ empty

          pub none-taken : tree_seen b ≡ record { clock = now; tree = take_packet kept now (tree_seen a).tree }
          none-taken =
              let x : Asked = ask now (shape a.root) in
              let tree : take_packet kept now (tree_seen a).tree ≡ with_work kept (x.rises ++ []) x.peeked (tree_seen a).tree =
              ap (λ (o : Option Descriptor). with_work kept (x.rises ++ map Sent (option_to_list o)) (if is_some o then x.taken else x.peeked) (tree_seen a).tree) nothing in
              let top : record { counts = counts_in_row r; places = 0 } ≡ noted kept (tree_seen a).tree.top (x.rises ++ []) =
              ap (λ c. record { counts = c; places = 0 }) counts-shown ∙ sym (noted-kept (tree_seen a).tree.top x.rises) ∙ ap (noted kept (tree_seen a).tree.top) (sym (append-nil x.rises)) in
              ap tree_seen is
              ∙ (λ i. record { clock = now; tree = record { device = (tree_seen a).tree.device; top = top i; root = new i } })
              ∙ ap (λ t. record { clock = now; tree = t }) (sym tree)

          pub none-kept : root.memory.counts.arrived ≡ a.root.memory.counts.arrived → IsKeptDevice b
          none-kept arrived = taken-kept b (ap (λ (y : Inside). y.clock) is) (ap (λ (d : DeviceState Kept). d.tree) none-taken)
              (subst (λ (y : Inside). y.top.queued ≡ totals_in (beneath y.root)) (sym is) shown-row.queued)
              (subst (λ (y : Inside). IsCountedWithin y.root.memory.counts.arrived y.top.arrived) (sym is) (shown-within arrived))

        -- where one goes
        module _ (p : Descriptor) (some : s.packet ≡ Some p) where
          offered : (ask now (shape a.root)).shown ≡ Some p
          offered = sym shown.packet ∙ some

          module _ (r2 : Row) (row2 : r2 ≡ with_sent p r) (root2 : Node Kept) (left : root2 ≡ booked kept root (pop root).after) (b : Inside)
              (is : b ≡ record a { clock = now; top = r2; root = root2 }) where
            pub one-taken : tree_seen b ≡ record { clock = now; tree = take_packet kept now (tree_seen a).tree }
            one-taken =
                let x : Asked = ask now (shape a.root) in
                let tree : take_packet kept now (tree_seen a).tree ≡ with_work kept (x.rises ++ Sent p ∷ []) x.taken (tree_seen a).tree =
                ap (λ (o : Option Descriptor). with_work kept (x.rises ++ map Sent (option_to_list o)) (if is_some o then x.taken else x.peeked) (tree_seen a).tree) offered in
                let counts : counts_in_row r2 ≡ noted totals (counts_in_row a.top) (x.rises ++ Sent p ∷ []) =
                ap counts_in_row row2 ∙ ap (λ c. counted c (Sent p)) counts-shown ∙ sym (noted-push totals (counts_in_row a.top) x.rises (Sent p)) in
                let top : record { counts = counts_in_row r2; places = 0 } ≡ noted kept (tree_seen a).tree.top (x.rises ++ Sent p ∷ []) =
                ap (λ c. record { counts = c; places = 0 }) counts ∙ sym (noted-kept (tree_seen a).tree.top (x.rises ++ Sent p ∷ [])) in
                let gone : root2 ≡ booked kept a.root x.taken = left ∙ (popped-asked now a.root root p can-ask-root new offered).left in
                ap tree_seen is
                ∙ (λ i. record { clock = now; tree = record { device = (tree_seen a).tree.device; top = top i; root = gone i } })
                ∙ ap (λ t. record { clock = now; tree = t }) (sym tree)
