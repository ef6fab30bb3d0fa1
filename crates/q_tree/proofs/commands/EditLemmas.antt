-- A node that is edited, or that stands above one which is: what waits there, and what it has counted.
use Rattle.std.proofs.Common.{◌≡◌, ℕ, zero, suc, ◌+◌, ◌≤◌, ◌<◌, ◌^◌, ◌∙◌, List, [], ◌∷◌, set, take, length, refl, sym, ap, subst, Option, Some, None, option_and_then, arith}
use Rattle.std.specs.Prelude.{Bool, true, false, cond, nat_le, IsSome, slice_get, slice_index_or, All, Result, Ok, Err, OnOk}
use Rattle.std.specs.List.{insert, prefix_len, take_while}
use Rattle.std.specs.Option.{option_map_or}
use Rattle.std.specs.declared.alloc.AllocError.{AllocError}
use Rattle.std.proofs.lemmas.Bool.{false≢true}
use Rattle.std.proofs.lemmas.List.Elements.{All-set}
use Rattle.std.proofs.lemmas.Option.{none-some, same_Some}
use Rattle.q_packet.specs.Descriptor.{Descriptor}
use Rattle.q_packet.specs.declared.cause.Cause.TheVariants.{Purged}
use Rattle.q_model.specs.declared.filter.Filter.{Filter}
use Rattle.q_model.specs.declared.row.Row.{Row}
use Rattle.q_model.specs.declared.totals.Totals.{Totals}
use Rattle.q_model.specs.Beneath.{beneath, beneath_own, is_empty, totals_in}
use Rattle.q_model.specs.Conserved.{held_own, held_beneath, IsBalanced, AreMarksBounded}
use Rattle.q_model.specs.Edit.{above, edited_at}
use Rattle.q_model.specs.Filters.{with_filter}
use Rattle.q_model.specs.Find.{node_at}
use Rattle.q_model.specs.Node.{Node, children, each, side_by_side}
use Rattle.q_model.specs.Step.{losses_in}
use Rattle.q_model.specs.Tally.{Counts, no_totals, noted, with_packet}
use Rattle.q_model.specs.Work.{losses_of, settled_in}
use Rattle.q_invariants.specs.Weights.{weigh}
use Rattle.q_invariants.proofs.ask.Answer.{one}
use Rattle.q_invariants.proofs.edit.EditNew.{held-le-beneath}
use Rattle.q_invariants.proofs.put.DrrSettled.{settled-packets}
use Rattle.q_invariants.proofs.sums.Counted.{bytes}
use Rattle.q_invariants.proofs.sums.Joined.{joined, weigh-joined-set, weigh-beneath, weigh-held}
use Rattle.q_invariants.proofs.sums.Weights.{weigh-count, weigh-nil}
use Rattle.q_invariants.proofs.tree.Forests.{each-at, each-nodes, each-set, each-side, nodes-side}
use Rattle.q_invariants.proofs.tree.Members.{All-at}
use Rattle.q_tree.specs.arrival.Arrivals.{plus}
use Rattle.q_tree.specs.arrival.Places.{Leads}
use Rattle.q_tree.specs.commands.Editing.{effect, changed_by, removed, removed_at, notes_of, edited_by, with_dropped, CanDrop, IsReady, IsEditedBeneath}
use Rattle.q_tree.specs.commands.Purging.{purged}
use Rattle.q_tree.specs.Kept.{Kept, kept}
use Rattle.q_tree.specs.Seen.{seen, children_seen, discipline_seen, places_seen, IsKept, IsCountedWithin}
use Rattle.q_tree.specs.declared.commands.edit.Edit.{Edit}
use Rattle.q_tree.specs.declared.commands.edit.Edit.TheVariants.{Graft, AddFilter, RemoveFilters, DisciplineChange}
use Rattle.q_tree.specs.declared.commands.discipline_change.DisciplineChange as shapes
use Rattle.q_tree.specs.declared.node.Discipline.{Discipline}
use Rattle.q_tree.specs.declared.node.Node.TheInside.{Inside}
use Rattle.q_tree.proofs.arrival.Puts.{same-child}
use Rattle.q_tree.proofs.commands.DisciplineChangeLemmas.{IsConserved, conserved}
use Rattle.q_tree.specs.commands.DisciplineChanges.{IsChangedBy, children_after, discipline_after, lost_with}
use Rattle.q_tree.proofs.counters.Rows.{counts_in_row, plus-none, plus-with_packet, same-totals, weigh-bytes}
use Rattle.q_tree.specs.departure.Holding.{packet_held, since_held}

-- the losses of a purge, as they are told
pub told-purged : (packets : List Descriptor) → losses_in (losses_of Purged packets) ≡ purged packets
told-purged [] = refl
told-purged (p ∷ packets) = ap (λ ls. record { packet = p; cause = Purged } ∷ ls) (told-purged packets)

-- and as they are counted
pub noted-purged : (k : Kept) (packets : List Descriptor) → noted kept k (losses_of Purged packets) ≡ record k { counts = record k.counts { dropped = plus k.counts.dropped (totals_in packets) } }
noted-purged k [] = ap (λ t. record k { counts = record k.counts { dropped = t } }) (sym (plus-none k.counts.dropped))
noted-purged k (p ∷ packets) =
    noted-purged (record k { counts = record k.counts { dropped = with_packet k.counts.dropped p } }) packets
    ∙ ap (λ t. record k { counts = record k.counts { dropped = t } }) (plus-with_packet k.counts.dropped p packets)

-- between one node and another these packets are lost, and no arrival is counted
pub record Loses (lost : List Descriptor) (old new : Node Kept) : Type 0 where
  pub conserved : (w : Descriptor → ℕ) → weigh w (beneath old) ≡ weigh w (beneath new) + weigh w lost
  pub held : (w : Descriptor → ℕ) → weigh w (held_beneath old) ≤ weigh w (held_beneath new) + weigh w lost
  pub arrived : IsCountedWithin new.memory.counts.arrived old.memory.counts.arrived

pub changed_by-loses : (r : shapes.DisciplineChange) (n : Node Kept)
    → IsConserved n.own.discipline (discipline_after r n.own.discipline (children n)) (children n) (children_after r n.own.discipline (children n))
    (lost_with r n.own.discipline (children n))
    → Loses (lost_with r n.own.discipline (children n)) n (changed_by r n)
changed_by-loses r n h =
    let after : Node Kept = changed_by r n in
    let lost : List Descriptor = lost_with r n.own.discipline (children n) in
    let ms : List (Node Kept) = children_after r n.own.discipline (children n) in
    let counts = ap (λ (k : Kept). k.counts.arrived) (noted-purged n.memory lost) in
    record {
      conserved = λ w.
          omega (
            arith,
            weigh-beneath w n.own (each beneath_own n.below),
            weigh-beneath w after.own (each beneath_own after.below),
            ap (λ b. weigh w (joined b)) (each-nodes beneath_own n.below),
            ap (λ b. weigh w (joined b)) (each-side beneath_own ms),
            ap (weigh w) h.packets,
            h.waits w,
          );
      held = λ w.
          omega (
            arith,
            weigh-held w n.own (each held_own n.below),
            weigh-held w after.own (each held_own after.below),
            ap (λ b. weigh w (joined b)) (each-nodes held_own n.below),
            ap (λ b. weigh w (joined b)) (each-side held_own ms),
            h.holds w,
          );
      arrived = record { packets = omega (arith, ap (λ (t : Totals). t.packets) counts); bytes = omega (arith, ap (λ (t : Totals). t.bytes) counts) };
    }

pub effect-loses : (e : Edit) (n : Node Kept) → IsReady e → Loses (removed e n) n (effect e n)
effect-loses (Graft new) n h = record {
  conserved = λ w. omega (arith, ap (weigh w) h.alone, weigh-nil w);
  held = λ w. omega (arith, held-le-beneath w n);
  arrived = record {
    packets = omega (arith, ap (λ (c : Counts). c.arrived.packets) h.counts);
    bytes = omega (arith, ap (λ (c : Counts). c.arrived.bytes) h.counts);
  };
}
effect-loses (AddFilter f) n h = record { conserved = λ w. omega (arith, weigh-nil w); held = λ w. omega (arith, weigh-nil w); arrived = record { packets = omega arith; bytes = omega arith } }
effect-loses (RemoveFilters prio) n h = record { conserved = λ w. omega (arith, weigh-nil w); held = λ w. omega (arith, weigh-nil w); arrived = record { packets = omega arith; bytes = omega arith } }
effect-loses (DisciplineChange r) n h =
    let kept_by : IsConserved n.own.discipline (discipline_after r n.own.discipline (children n)) (children n)
    (children_after r n.own.discipline (children n)) (lost_with r n.own.discipline (children n)) =
    conserved r n.own.discipline (children n) h in
    changed_by-loses r n kept_by

-- a node above one that loses them
pub loses-above : (lost : List Descriptor) (i : ℕ) (n old new : Node Kept) → slice_get (children n) i ≡ Some old → Loses lost old new → Loses lost n (above kept (losses_of Purged lost) i new n)
loses-above lost i n old new there h =
    let at = each beneath_own n.below in
    let held_at = each held_own n.below in
    let after : Node Kept = above kept (losses_of Purged lost) i new n in
    let below_is : each beneath_own after.below ≡ set at i (beneath new) = each-set beneath_own n.below i new in
    let held_is : each held_own after.below ≡ set held_at i (held_beneath new) = each-set held_own n.below i new in
    let counts = ap (λ (k : Kept). k.counts.arrived) (noted-purged n.memory lost) in
    record {
      conserved = λ w.
          omega (
            arith,
            weigh-beneath w n.own at,
            weigh-beneath w after.own (each beneath_own after.below),
            ap (λ b. weigh w (joined b)) below_is,
            ap (weigh w) (settled-packets i (is_empty new) n.own.discipline),
            weigh-joined-set w at i (beneath old) (beneath new) (each-at beneath_own n.below i old there),
            h.conserved w,
          );
      held = λ w.
          omega (
            arith,
            weigh-held w n.own held_at,
            weigh-held w after.own (each held_own after.below),
            ap (λ b. weigh w (joined b)) held_is,
            weigh-joined-set w held_at i (held_beneath old) (held_beneath new) (each-at held_own n.below i old there),
            h.held w,
          );
      arrived = record { packets = omega (arith, ap (λ (t : Totals). t.packets) counts); bytes = omega (arith, ap (λ (t : Totals). t.bytes) counts) };
    }

-- a way that goes on through a child
pub record GoesOn (e : Edit) (i : ℕ) (path : List ℕ) (n : Node Kept) : Type 0 where
  pub child : Node Kept
  pub there : slice_get (children n) i ≡ Some child
  pub on : IsSome (node_at path child)
  pub lost : removed_at e (i ∷ path) n ≡ removed_at e path child
  pub is : edited_by e (i ∷ path) n ≡ above kept (notes_of e path child) i (edited_by e path child) n

pub goes-on : (e : Edit) (i : ℕ) (path : List ℕ) (n : Node Kept) → IsSome (node_at (i ∷ path) n) → GoesOn e i path n
goes-on e i path n some = by (slice_get (children n) i) refl some where
  by : (o : Option (Node Kept)) → slice_get (children n) i ≡ o → IsSome (option_and_then (node_at path) o) → GoesOn e i path n
  by None at some = absurd (false≢true some)
  by (Some c) at some =
      let lost : removed_at e (i ∷ path) n ≡ removed_at e path c = ap (λ (o : Option (Node Kept)). option_map_or (removed e) (option_and_then (node_at path) o) []) at in
      record {
        child = c;
        there = at;
        on = some;
        lost = lost;
        is = ap (λ ps. edited_at kept (losses_of Purged ps) (effect e) (i ∷ path) n) lost
            ∙ ap (λ (o : Option (Node Kept)). option_map_or (λ child. above kept (notes_of e path c) i (edited_at kept (notes_of e path c) (effect e) path child) n) o n) at;
      }

pub edited-loses : (e : Edit) (path : List ℕ) (n : Node Kept) → IsReady e → IsSome (node_at path n) → Loses (removed_at e path n) n (edited_by e path n)
edited-loses e [] n ready some = effect-loses e n ready
edited-loses e (i ∷ path) n ready some =
    let on = goes-on e i path n some in
    let child : Loses (removed_at e path on.child) on.child (edited_by e path on.child) = edited-loses e path on.child ready on.on in
    subst (λ ps. Loses ps n (edited_by e (i ∷ path) n)) (sym on.lost)
    (subst (Loses (removed_at e path on.child) n) (sym on.is) (loses-above (removed_at e path on.child) i n on.child (edited_by e path on.child) on.there child))

-- what is lost was queued
pub can-drop : (lost : List Descriptor) (old new : Node Kept) (r : Row) → r.queued ≡ totals_in (beneath old) → Loses lost old new
    → r.arrived.packets < 2 ^ 64 → r.arrived.bytes < 2 ^ 64 → CanDrop (totals_in lost) r
can-drop lost old new r is h packets_fit bytes_fit = record {
  packets = omega (arith, h.conserved one, weigh-count (beneath old), weigh-count lost, ap (λ (t : Totals). t.packets) is);
  bytes = omega (arith, h.conserved bytes, weigh-bytes (beneath old), weigh-bytes lost, ap (λ (t : Totals). t.bytes) is);
  arrived_packets = packets_fit;
  arrived_bytes = bytes_fit;
}

-- what a call that succeeds leaves
pub on-ok : {A E P Q : Type 0} (r : Result A E) → (P → Q) → OnOk r P → OnOk r Q
on-ok (Ok a) f h = f h
on-ok (Err e) f h = tt

pub edited-into : (e : Edit) (rest : List ℕ) (i : ℕ) (before after : Discipline) (ns : List (Node Kept)) (x x2 c : Node Kept) → children_seen before ≡ ns → x ≡ slice_index_or ns i x
    → slice_get (children_seen before) i ≡ Some c → x2 ≡ edited_by e rest x → children_seen after ≡ set ns i x2 → places_seen after ≡ places_seen before
    → discipline_seen after ≡ settled_in i (is_empty x2) (discipline_seen before) → IsEditedBeneath e rest i c before after
edited-into e rest i before after ns x x2 c kids is there edited set_is places discipline =
    let same : x ≡ c = same-child ns i x c is (ap (λ xs. slice_get xs i) (sym kids) ∙ there) in
    let edited_is : x2 ≡ edited_by e rest c = edited ∙ ap (edited_by e rest) same in
    record {
      discipline = discipline ∙ ap (λ n. settled_in i (is_empty n) (discipline_seen before)) edited_is;
      children = set_is ∙ ap (λ n. set ns i n) edited_is ∙ ap (λ xs. set xs i (edited_by e rest c)) (sym kids);
      places = places;
    }

only-child : (i : ℕ) (x c : Node Kept) → slice_get (x ∷ []) i ≡ Some c → (x ≡ c) × ((d : Node Kept) → x ≡ slice_index_or (x ∷ []) i d) × ((y : Node Kept) → y ∷ [] ≡ set (x ∷ []) i y)
only-child zero x c at = (same_Some x c at, (λ d. refl), (λ y. refl))
only-child (suc i) x c at = absurd (none-some c at)

-- the same for an only child
pub only-edited : (e : Edit) (rest : List ℕ) (i : ℕ) (before after : Discipline) (x x2 c : Node Kept) → children_seen before ≡ x ∷ [] → slice_get (children_seen before) i ≡ Some c
    → x2 ≡ edited_by e rest x → children_seen after ≡ x2 ∷ [] → places_seen after ≡ places_seen before
    → discipline_seen after ≡ settled_in i (is_empty x2) (discipline_seen before) → IsEditedBeneath e rest i c before after
only-edited e rest i before after x x2 c kids there edited set_is places discipline =
    let first = only-child i x c (ap (λ xs. slice_get xs i) (sym kids) ∙ there) in
    edited-into e rest i before after (x ∷ []) x x2 c kids (first.1 x) there edited (set_is ∙ first.2 x2) places discipline

total_of : Result Totals AllocError → Totals
total_of (Ok t) = t
total_of (Err e) = no_totals

-- a call that answers one answers the other
abbrev pub IsAnswer : Totals → Totals → Type 0
IsAnswer t u = ◌≡◌ {A = Result Totals AllocError} (Ok t) (Ok u)

pub same-total : (t u : Totals) → IsAnswer t u → t ≡ u
unfolding total_of
same-total t u e = ap total_of e

-- a node of which these packets are lost and booked as dropped
pub kept-booked : (a b : Inside) (ps : List Descriptor) → IsKept a → Loses ps (seen a) (seen b) → b.row ≡ with_dropped (totals_in ps) a.row
    → All (λ (child : Node Kept). IsCountedWithin child.memory.counts.arrived a.row.arrived) (children_seen b.discipline) → CanDrop (totals_in ps) a.row → IsKept b
kept-booked a b ps k l booked within among =
    let row_packets = ap (λ (x : Row). x.queued.packets) booked in
    let row_bytes = ap (λ (x : Row). x.queued.bytes) booked in
    record {
      queued = same-totals b.row.queued (totals_in (beneath (seen b)))
          (omega (arith, row_packets, ap (λ (t : Totals). t.packets) k.queued, l.conserved one, weigh-count (beneath (seen a)), weigh-count (beneath (seen b)), weigh-count ps))
          (omega (arith, row_bytes, ap (λ (t : Totals). t.bytes) k.queued, l.conserved bytes, weigh-bytes (beneath (seen a)), weigh-bytes (beneath (seen b)), weigh-bytes ps));
      balanced = subst IsBalanced (sym booked) (record { packets = omega (arith, k.balanced.packets, among.packets); bytes = omega (arith, k.balanced.bytes, among.bytes) });
      marks = subst (λ (x : Row). AreMarksBounded (counts_in_row x) (held_beneath (seen b))) (sym booked) (record {
        packets = omega (arith, k.marks.packets, l.held one, weigh-count (held_beneath (seen a)), weigh-count (held_beneath (seen b)), weigh-count ps);
        bytes = omega (arith, k.marks.bytes, l.held bytes, weigh-bytes (held_beneath (seen a)), weigh-bytes (held_beneath (seen b)), weigh-bytes ps);
      });
      within = subst (λ (x : Row). All (λ (child : Node Kept). IsCountedWithin child.memory.counts.arrived x.arrived) (children_seen b.discipline)) (sym booked) within;
    }

-- a node that is changed
module _ (r : shapes.DisciplineChange) (e : Edit) (is : e ≡ DisciplineChange r) (a : Inside) (n : Node Kept) (view : seen a ≡ n) (k : IsKept a) (ready : IsReady e) where
  abbrev goes : List Descriptor
  goes = lost_with r (discipline_seen a.discipline) (children_seen a.discipline)

  abbrev kids : children (seen a) ≡ children_seen a.discipline
  kids = nodes-side (children_seen a.discipline)

  pub goes-is : goes ≡ removed e n
  goes-is = sym (ap (λ m. removed e m) (sym view) ∙ ap (λ x. removed x (seen a)) is ∙ ap (lost_with r (discipline_seen a.discipline)) kids)

  kept-whole : IsConserved (discipline_seen a.discipline) (discipline_after r (discipline_seen a.discipline) (children (seen a))) (children (seen a))
      (children_after r (discipline_seen a.discipline) (children (seen a))) (lost_with r (discipline_seen a.discipline) (children (seen a)))
  kept-whole = conserved r (discipline_seen a.discipline) (children (seen a)) (subst IsReady is ready)

  goes-lost : Loses goes (seen a) (changed_by r (seen a))
  goes-lost = subst (λ ps. Loses ps (seen a) (changed_by r (seen a))) (ap (lost_with r (discipline_seen a.discipline)) kids) (changed_by-loses r (seen a) kept-whole)

  pub can-lose : a.row.arrived.packets < 2 ^ 64 → a.row.arrived.bytes < 2 ^ 64 → CanDrop (totals_in goes) a.row
  can-lose packets_fit bytes_fit = can-drop goes (seen a) (changed_by r (seen a)) a.row k.queued goes-lost packets_fit bytes_fit

  pub goes-room : (room : ℕ) → length (removed e n) ≤ room → length goes ≤ room
  goes-room room le = omega (arith, le, ap (λ (ps : List Descriptor). length ps) goes-is)

  module _ (d : Discipline) (after : IsChangedBy r a.discipline d) (row : Row) (booked : row ≡ with_dropped (totals_in goes) a.row) where
    is-changed : seen (record a { row = row; discipline = d }) ≡ changed_by r (seen a)
    is-changed = λ j. record {
      own =
          record {
            handle = a.handle;
            discipline = (after.discipline ∙ ap (discipline_after r (discipline_seen a.discipline)) (sym kids)) j;
            held =
                packet_held a.held;
            since = since_held a.held;
            filters = a.filters;
          };
      memory = memory j;
      below = ap side_by_side (after.children ∙ ap (children_after r (discipline_seen a.discipline)) (sym kids)) j;
    }
      where
        memory : record { counts = counts_in_row row; places = places_seen d } ≡ noted kept (seen a).memory (losses_of Purged (lost_with r (discipline_seen a.discipline) (children (seen a))))
        memory =
            ap (λ (x : Row). record { counts = counts_in_row x; places = places_seen d }) booked
            ∙ ap (λ p. record { counts = counts_in_row (with_dropped (totals_in goes) a.row); places = p }) after.places
            ∙ sym (noted-purged (seen a).memory goes)
            ∙ ap (λ ns. noted kept (seen a).memory (losses_of Purged (lost_with r (discipline_seen a.discipline) ns))) (sym kids)

    pub changed_by-effect : seen (record a { row = row; discipline = d }) ≡ effect e n
    changed_by-effect = is-changed ∙ sym (ap (λ x. effect x (seen a)) is) ∙ ap (effect e) view

    pub changed_by-kept : CanDrop (totals_in goes) a.row → IsKept (record a { row = row; discipline = d })
    changed_by-kept among =
        kept-booked a (record a { row = row; discipline = d }) goes k (subst (Loses goes (seen a)) (sym is-changed) goes-lost) booked
        (subst (All (λ (child : Node Kept). IsCountedWithin child.memory.counts.arrived a.row.arrived)) (sym after.children)
        ((conserved r (discipline_seen a.discipline) (children_seen a.discipline) (subst IsReady is ready)).within a.row.arrived k.within)) among

-- a node that a way has gone through, once what was lost beneath is booked
module _ (e : Edit) (a : Inside) (n : Node Kept) (view : seen a ≡ n) (k : IsKept a) (whole : List ℕ) (i : ℕ) (path : List ℕ) (way : whole ≡ i ∷ path)
    (ready : IsReady e) (some : IsSome (node_at whole n)) where
  on : GoesOn e i path (seen a)
  on = goes-on e i path (seen a) (subst (λ p. IsSome (node_at p (seen a))) way (subst (λ m. IsSome (node_at whole m)) (sym view) some))

  there : slice_get (children_seen a.discipline) i ≡ Some on.child
  there = ap (λ ns. slice_get ns i) (sym (nodes-side (children_seen a.discipline))) ∙ on.there

  pub leads : Leads path i (children_seen a.discipline)
  leads = subst (λ o. IsSome (option_and_then (node_at path) o)) (sym there) on.on

  loses : Loses (removed_at e path on.child) (seen a) (above kept (notes_of e path on.child) i (edited_by e path on.child) (seen a))
  loses = loses-above (removed_at e path on.child) i (seen a) on.child (edited_by e path on.child) on.there (edited-loses e path on.child ready on.on)

  whole-lost : removed_at e path on.child ≡ removed_at e whole n
  whole-lost = sym (ap (λ m. removed_at e whole m) (sym view) ∙ ap (λ p. removed_at e p (seen a)) way ∙ on.lost)

  -- what is lost through the child in this place
  pub lost-there : (c : Node Kept) → slice_get (children_seen a.discipline) i ≡ Some c → removed_at e path c ≡ removed_at e whole n
  lost-there c at = ap (removed_at e path) (same_Some c on.child (sym at ∙ there)) ∙ whole-lost

  -- what holds for each child in this place holds for the one that is there
  pub of-child : (P : List Descriptor → Type 0) → ((c : Node Kept) → slice_get (children_seen a.discipline) i ≡ Some c → P (removed_at e path c)) → P (removed_at e whole n)
  of-child P h = subst P whole-lost (h on.child there)

  module _ (lost : Totals) (lost_is : (c : Node Kept) → slice_get (children_seen a.discipline) i ≡ Some c → IsAnswer lost (totals_in (removed_at e path c))) where
    same : totals_in (removed_at e path on.child) ≡ lost
    same = sym (same-total lost (totals_in (removed_at e path on.child)) (lost_is on.child there))

    pub room : a.row.arrived.packets < 2 ^ 64 → a.row.arrived.bytes < 2 ^ 64 → CanDrop lost a.row
    room packets_fit bytes_fit =
        subst (λ t. CanDrop t a.row) same
        (can-drop (removed_at e path on.child) (seen a) (above kept (notes_of e path on.child) i (edited_by e path on.child) (seen a)) a.row k.queued loses packets_fit bytes_fit)

    module _ (d : Discipline) (beneath_is : (c : Node Kept) → slice_get (children_seen a.discipline) i ≡ Some c → IsEditedBeneath e path i c
        a.discipline d) (r : Row) (booked_is : r ≡ with_dropped lost a.row) where
      new : Inside
      new = record a { row = r; discipline = d }

      edited : IsEditedBeneath e path i on.child a.discipline d
      edited = beneath_is on.child there

      row_is : r ≡ with_dropped (totals_in (removed_at e path on.child)) a.row
      row_is = booked_is ∙ ap (λ t. with_dropped t a.row) (sym same)

      is-above : seen (record a { row = r; discipline = d }) ≡ above kept (notes_of e path on.child) i (edited_by e path on.child) (seen a)
      is-above = λ j. record {
        own = record { handle = a.handle; discipline = edited.discipline j; held = packet_held a.held; since = since_held a.held; filters = a.filters };
        memory = memory j;
        below = (ap side_by_side (edited.children ∙ ap (λ ns. set ns i (edited_by e path on.child)) (sym (nodes-side (children_seen a.discipline))))) j;
      }
        where
          memory : record { counts = counts_in_row r; places = places_seen d } ≡ noted kept (seen a).memory (notes_of e path on.child)
          memory =
              ap (λ (x : Row). record { counts = counts_in_row x; places = places_seen d }) row_is
              ∙ ap (λ p. record { counts = counts_in_row (with_dropped (totals_in (removed_at e path on.child)) a.row); places = p }) edited.places
              ∙ sym (noted-purged (seen a).memory (removed_at e path on.child))

      pub after : seen (record a { row = r; discipline = d }) ≡ edited_by e whole n
      after = is-above ∙ sym on.is ∙ sym (ap (λ p. edited_by e p (seen a)) way) ∙ ap (edited_by e whole) view

      pub stays : CanDrop lost a.row → IsKept (record a { row = r; discipline = d })
      stays among =
          let ps : List Descriptor = removed_at e path on.child in
          let l = subst (Loses ps (seen a)) (sym is-above) loses in
          let b : Inside = record a { row = r; discipline = d } in
          kept-booked a b ps k l row_is (subst (All (λ (child : Node Kept). IsCountedWithin child.memory.counts.arrived a.row.arrived)) (sym edited.children)
          (All-set (λ (child : Node Kept). IsCountedWithin child.memory.counts.arrived a.row.arrived) (children_seen a.discipline) i (edited_by e path on.child) new_within k.within))
          (subst (λ t. CanDrop t a.row) (sym same) among)
        where
          new_within : IsCountedWithin (edited_by e path on.child).memory.counts.arrived a.row.arrived
          new_within =
              let old = All-at (λ (child : Node Kept). IsCountedWithin child.memory.counts.arrived a.row.arrived) (children_seen a.discipline) i on.child k.within there in
              let later = (edited-loses e path on.child ready on.on).arrived in
              record { packets = omega (arith, old.packets, later.packets); bytes = omega (arith, old.bytes, later.bytes) }

next : (n : ℕ) → 1 + n ≡ suc n
next n = omega arith

-- the place of a new filter
pub filter-placed : (f : Filter) (filters : List Filter) → insert filters (length (take_while (λ (g : Filter). nat_le g.prio f.prio) filters)) f ≡ with_filter f filters
filter-placed f [] = refl
filter-placed f (g ∷ filters) = by (nat_le g.prio f.prio) (filter-placed f filters) where
  by : (b : Bool) → insert filters (length (take_while (λ (h : Filter). nat_le h.prio f.prio) filters)) f ≡ with_filter f filters
      → insert (g ∷ filters) (length (take (cond b (1 + prefix_len (λ (h : Filter). nat_le h.prio f.prio) filters) 0) (g ∷ filters))) f ≡ cond b (g ∷ with_filter f filters) (f ∷ g ∷ filters)
  by true rest = ap (λ k. insert (g ∷ filters) (length (take k (g ∷ filters))) f) (next (prefix_len (λ (h : Filter). nat_le h.prio f.prio) filters)) ∙ ap (λ fs. g ∷ fs) rest
  by false rest = refl
