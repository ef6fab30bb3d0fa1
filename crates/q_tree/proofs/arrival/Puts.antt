-- A packet that is put along its way: what each node on it can rely on, and what it is then.
use Rattle.std.proofs.Common.{◌≡◌, ℕ, zero, suc, ◌≤◌, ◌<◌, ◌∙◌, List, [], ◌∷◌, ◌++◌, map, set, length, refl, sym, ap, subst, Option, Some, None, option_and_then, arith}
use Rattle.std.specs.Prelude.{Bool, All, IfSome, slice_get, slice_index_or, ◌==◌, if◌then◌else◌}
use Rattle.std.specs.List.{flat_map}
use Rattle.std.specs.Option.{option_map_or, option_to_list}
use Rattle.std.proofs.lemmas.Nat.{mod_below}
use Rattle.std.proofs.lemmas.Option.{same_Some, get_or_from_slice_get}
use Rattle.std.proofs.lemmas.List.{length-append}
use Rattle.std.proofs.lemmas.List.Sums.{sum_by-append}
use Rattle.std.proofs.lemmas.List.Elements.{All-nil, All-cons, All-head, All-tail, All-set}
use Rattle.q_packet.specs.Descriptor.{Descriptor}
use Rattle.q_packet.specs.declared.cause.Cause.{Cause}
use Rattle.q_packet.specs.declared.cause.Cause.TheVariants.{FatFlow}
use Rattle.q_fqcodel.specs.FqState.{FqState, all_packets}
use Rattle.q_fqcodel.specs.Put.{flow_of}
use Rattle.q_model.specs.declared.row.Row.{Row}
use Rattle.q_model.specs.declared.totals.Totals.{Totals}
use Rattle.q_model.specs.Beneath.{beneath, beneath_own, packets_in, is_empty, totals_in}
use Rattle.q_model.specs.Conserved.{held_own, held_beneath, IsBalanced, AreMarksBounded}
use Rattle.q_model.specs.Find.{node_at}
use Rattle.q_model.specs.Lawful.{IsLawfulOwn}
use Rattle.q_model.specs.Node as spec
use Rattle.q_model.specs.Node.{Node, Shape, shape, each, children, side_by_side}
use Rattle.q_model.specs.Put.{put_here, put_along, put_beneath, drops_itself}
use Rattle.q_model.specs.Route.{Route, route, way}
use Rattle.q_model.specs.Tally.{Note, Arrived, noted, totals, with_packet}
use Rattle.q_model.specs.TreeState.{loss_at_end}
use Rattle.q_model.specs.Work.{Work, Worked, worked, quiet, booked, each_booked, settled_in}
use Rattle.q_model.proofs.ShrinkLemmas.{each-each_memory}
use Rattle.q_invariants.specs.Weights.{weigh}
use Rattle.q_invariants.proofs.ask.Answer.{one}
use Rattle.q_invariants.proofs.put.PutHere.{IsPut}
use Rattle.q_invariants.proofs.put.Puts.{along-put}
use Rattle.q_invariants.proofs.sums.Counted.{bytes}
use Rattle.q_invariants.proofs.sums.Told.{IsRootTold, root-memory, root-booked}
use Rattle.q_invariants.proofs.sums.Weights.{weigh-count}
use Rattle.q_invariants.proofs.tree.Forests.{nodes-side, lawful-with_memory}
use Rattle.q_invariants.proofs.tree.Members.{All-at}
use Rattle.q_invariants.proofs.tree.Quiet.{child-lawful}
use Rattle.q_invariants.proofs.tree.Ways.{route-goes}
use Rattle.q_tree.specs.arrival.Arrivals.{CanCount, HasPlaceIn, CanPut, IsOutcome, IsLostOf, with_arrival}
use Rattle.q_tree.specs.arrival.PutSteps.{CanFlow, CanPutInto, IsQueued, IsPutInto, after_here, rises_here, loss_here, packets_beneath}
use Rattle.q_tree.specs.Kept.{Kept, kept}
use Rattle.q_tree.specs.Seen.{seen, discipline_seen, children_seen, places_seen, IsKept, IsCountedWithin}
use Rattle.q_tree.specs.declared.node.Discipline.{Discipline}
use Rattle.q_tree.specs.declared.node.Node.TheInside.{Inside}
use Rattle.q_tree.specs.declared.arrival.outcome.Outcome.{Outcome}
use Rattle.q_tree.proofs.counters.Rows.{counts_in_row, AreLosses, counted-arrival, outcome-weighs, IsShifted, lost-of, queued-after, balanced-after, weigh-bytes}
use Rattle.q_tree.proofs.departure.Forms.{children-shape, child-shape, side-quiet, side-booked, noted-kept}
use Rattle.q_tree.proofs.disciplines.FlowCounts.{packets-all, bytes-all, packets-bare, bytes-bare}
use Rattle.q_tree.specs.departure.Holding.{packet_held, since_held}

-- what a node remembers is not looked at
pub same-way : (p : Descriptor) (n : Node Kept) → route p (shape n) ≡ route p n
same-way p n = ap (λ (below : List Route). way p n.own below n.own.discipline) (each-each_memory (λ own below. way p own below own.discipline) (λ m. tt) n.below)

same-beneath : (n : Node Kept) → beneath (shape n) ≡ beneath n
same-beneath n = ap (beneath_own n.own) (each-each_memory beneath_own (λ m. tt) n.below)

module _ (now : ℕ) (p : Descriptor) (path : List ℕ) (refusal : Option Cause) (n : Node Kept) (h : CanPut now p path refusal n) where
  work : Work
  work = put_along now p refusal path (shape n)

  pub is-put : IsPut h.mtu now p (shape n) (put_along now p refusal path (shape n))
  is-put = along-put h.mtu now (omega (arith, h.fits.0, h.fits.1)) p h.fits path refusal (shape n) (same-way p n ∙ h.way) (lawful-with_memory h.mtu now (λ m. tt) n h.lawful)

  pub told : IsRootTold n (put_along now p refusal path (shape n)).node
  told = root-memory (λ m. tt) n (put_along now p refusal path (shape n)).node (root-memory (λ u. []) (shape n) (put_along now p refusal path (shape n)).node is-put.told)

  pub are-losses : AreLosses (put_along now p refusal path (shape n)).rises
  are-losses = record { no_arrival = is-put.no_arrival; nothing_sent = is-put.nothing_sent; nothing_marked = is-put.nothing_marked }

  pub shifted : IsShifted p (put_along now p refusal path (shape n)).rises (beneath n) (beneath (booked kept n (put_along now p refusal path (shape n)).node))
  shifted =
      let after : List Descriptor = beneath (booked kept n (put_along now p refusal path (shape n)).node) in
      let same = root-booked kept beneath_own n (put_along now p refusal path (shape n)).node told in
      record {
        packets = omega (arith, is-put.conserved one, ap (weigh one) (same-beneath n), ap (weigh one) same, weigh-count (beneath n), weigh-count after);
        bytes = omega (arith, is-put.conserved bytes, ap (weigh bytes) (same-beneath n), ap (weigh bytes) same, weigh-bytes (beneath n), weigh-bytes after);
      }

  -- no packet is marked, and those held stay
  pub marks-after : (r : Row) (o : Outcome) → AreMarksBounded (counts_in_row r) (held_beneath n)
      → AreMarksBounded (counts_in_row (with_arrival p o r)) (held_beneath (booked kept n (put_along now p refusal path (shape n)).node))
  marks-after r o h =
      let after : List Descriptor = held_beneath (booked kept n (put_along now p refusal path (shape n)).node) in
      let same = root-booked kept held_own n (put_along now p refusal path (shape n)).node told in
      let bare : held_beneath (shape n) ≡ held_beneath n = ap (held_own n.own) (each-each_memory held_own (λ m. tt) n.below) in
      record {
        packets = omega (arith, h.packets, is-put.held one, ap (weigh one) bare, ap (weigh one) same, weigh-count (held_beneath n), weigh-count after);
        bytes = omega (arith, h.bytes, is-put.held bytes, ap (weigh bytes) bare, ap (weigh bytes) same, weigh-bytes (held_beneath n), weigh-bytes after);
      }

-- a way that goes on: through a child that is there, into which the packet can be put
pub goes-on : (now : ℕ) (p : Descriptor) (refusal : Option Cause) (i : ℕ) (rest : List ℕ) (a : Inside) → IsKept a → CanPut now p (i ∷ rest) refusal (seen a)
    → CanPutInto now p refusal rest i (children_seen a.discipline)
goes-on now p refusal i rest a kept_a h =
    let on = route-goes p (seen a) i rest refusal h.way in
    let there : slice_get (children_seen a.discipline) i ≡ Some on.child = ap (λ xs. slice_get xs i) (sym (nodes-side (children_seen a.discipline))) ∙ on.there in
    record {
      child = on.child;
      there = there;
      can = record {
        mtu = h.mtu;
        fits = h.fits;
        lawful = child-lawful h.mtu now (side_by_side (children_seen a.discipline)) i on.child h.lawful.1 on.there;
        way = on.way;
        place = λ none. subst (λ (o : Option (Node Kept)). IfSome (option_and_then (node_at rest) o) (λ (end : Node Kept). HasPlaceIn end.memory.places end.own.discipline)) on.there (h.place none);
        counts =
            let within = child-within (children_seen a.discipline) i on.child kept_a.within there in
            record { packets = omega (arith, within.packets, h.counts.packets); bytes = omega (arith, within.bytes, h.counts.bytes) };
      };
    }
  where
    child-within : (ns : List (Node Kept)) (k : ℕ) (c : Node Kept)
        → All (λ (child : Node Kept). IsCountedWithin child.memory.counts.arrived a.row.arrived) ns → slice_get ns k ≡ Some c
        → IsCountedWithin c.memory.counts.arrived a.row.arrived
    child-within ns k c all e = All-at (λ (child : Node Kept). IsCountedWithin child.memory.counts.arrived a.row.arrived) ns k c all e

-- a part of what is queued
pub part-packets : (xs ys zs : List Descriptor) (n : ℕ) → n ≡ length (xs ++ ys ++ zs) → length ys ≤ n
part-packets xs ys zs n e = omega (arith, e, length-append (xs ++ ys) zs, length-append xs ys)

pub part-bytes : (xs ys zs : List Descriptor) (n : ℕ) → n ≡ (totals_in (xs ++ ys ++ zs)).bytes → (totals_in ys).bytes ≤ n
part-bytes xs ys zs n e = omega (arith, e, sum_by-append (λ (p : Descriptor). p.len) (xs ++ ys) zs, sum_by-append (λ (p : Descriptor). p.len) xs ys)

-- where the way ends
module _ (now : ℕ) (p : Descriptor) (a : Inside) (k : IsKept a) where
  deeper : List Descriptor
  deeper = flat_map (λ packets. packets) (each beneath_own (side_by_side (children_seen a.discipline)))

  own-packets : length (packets_in (discipline_seen a.discipline)) ≤ a.row.queued.packets
  unfolding deeper
  own-packets = part-packets (option_to_list (packet_held a.held)) (packets_in (discipline_seen a.discipline)) deeper a.row.queued.packets (ap (λ (t : Totals). t.packets) k.queued)

  own-bytes : (totals_in (packets_in (discipline_seen a.discipline))).bytes ≤ a.row.queued.bytes
  unfolding deeper
  own-bytes = part-bytes (option_to_list (packet_held a.held)) (packets_in (discipline_seen a.discipline)) deeper a.row.queued.bytes (ap (λ (t : Totals). t.bytes) k.queued)

  -- the queue at the end takes the packet
  pub can-flow : (mtu : ℕ) (s : FqState) → discipline_seen a.discipline ≡ spec.FqCodel s → IsLawfulOwn mtu now (seen a).own (each beneath_own (seen a).below) → CanCount a.row.arrived p → CanFlow p s
  can-flow mtu s e h counts =
      let lawful : IsLawfulOwn mtu now (record
      { handle = a.handle; discipline = spec.FqCodel s; held = packet_held a.held; since = since_held a.held; filters = a.filters })
      (each beneath_own (seen a).below) =
      subst (λ (d : spec.Discipline). IsLawfulOwn mtu now
      (record { handle = a.handle; discipline = d; held = packet_held a.held; since = since_held a.held; filters = a.filters })
      (each beneath_own (seen a).below)) e h in
      let law = lawful.discipline in
      let balanced = k.balanced in
      record {
        flow = subst (λ n. flow_of s p < n) (sym law.lists.each_flow) (mod_below p.hash s.settings.flows (omega (arith, law.settings.flows_low)));
        counts = record {
          packets = omega (arith, counts.packets, balanced.packets, own-packets, ap (λ (d : spec.Discipline). length (packets_in d)) e, packets-bare (all_packets s.flows), packets-all s.flows);
          bytes = omega (arith, counts.bytes, balanced.bytes, own-bytes, ap (λ (d : spec.Discipline). (totals_in (packets_in d)).bytes) e, bytes-bare (all_packets s.flows), bytes-all s.flows);
        };
      }

-- the work at a node where the way ends
here-is : (now : ℕ) (p : Descriptor) (refusal : Option Cause) (s : Shape) → put_here now p refusal s ≡ record {
  node = worked (record s.own { discipline = after_here now p refusal s.own.discipline }) (Arrived p ∷ rises_here now p refusal s.own.discipline) (map quiet (children s));
  rises = rises_here now p refusal s.own.discipline;
}
here-is now p None s = refl
here-is now p (Some cause) s = refl

-- the work along a way that goes on
on-is : (now : ℕ) (p : Descriptor) (refusal : Option Cause) (i : ℕ) (rest : List ℕ) (n : Node Kept) (c : Node Kept) → slice_get (children n) i ≡ Some c
    → put_along now p refusal (i ∷ rest) (shape n) ≡ put_beneath p i (shape n) (put_along now p refusal rest (shape c))
on-is now p refusal i rest n c there =
    ap (λ (o : Option Shape). option_map_or (λ (child : Shape). put_beneath p i (shape n) (put_along now p refusal rest child)) o (put_here now p refusal (shape n))) (child-shape n i c there)

-- a node that has worked: what it is, what it remembers, and its children
module _ (a : Inside) (r : Row) (d : Discipline) (own2 : spec.Discipline) (notes : List Note) (ws : List Worked) where
  pub seen-after : discipline_seen d ≡ own2 → places_seen d ≡ places_seen a.discipline → counts_in_row r ≡ noted totals (counts_in_row a.row) notes
      → side_by_side (children_seen d) ≡ each_booked kept (side_by_side (children_seen a.discipline)) (side_by_side ws)
      → seen (record a { row = r; discipline = d }) ≡ booked kept (seen a) (worked (record (seen a).own { discipline = own2 }) notes ws)
  seen-after discipline places counts below =
      let memory : (seen (record a { row = r; discipline = d })).memory ≡ noted kept (seen a).memory notes =
      (λ j. record { counts = counts j; places = places j }) ∙ sym (noted-kept (seen a).memory notes) in
      λ j. record { own = record { handle = a.handle; discipline = discipline j; held = packet_held a.held; since = since_held a.held; filters = a.filters }; memory = memory j; below = below j }

-- what a put leaves of a node
pub record IsDone (now : ℕ) (p : Descriptor) (path : List ℕ) (refusal : Option Cause) (n : Node Kept) (inside : Inside) (o : Outcome) : Type 0 where
  pub stays : IsKept inside
  pub after : seen inside ≡ booked kept n (put_along now p refusal path (shape n)).node
  pub outcome : IsOutcome (loss_at_end now p (shape n) (record { path = path; refusal = refusal })) (put_along now p refusal path (shape n)).rises o

module _ (now : ℕ) (p : Descriptor) (path : List ℕ) (refusal : Option Cause) (a : Inside) (k : IsKept a) (h : CanPut now p path refusal (seen a)) (o : Outcome)
    (out : IsOutcome (loss_at_end now p (shape (seen a)) (record { path = path; refusal = refusal })) (put_along now p refusal path (shape (seen a))).rises o) where
  pub lost-at : IsLostOf p o a.row.queued
  lost-at = lost-of p (put_along now p refusal path (shape (seen a))).rises o (beneath (seen a)) (beneath (booked kept (seen a) (put_along now p refusal path (shape (seen a))).node)) a.row.queued
      (outcome-weighs (loss_at_end now p (shape (seen a)) (record { path = path; refusal = refusal }))
      (put_along now p refusal path (shape (seen a))).rises o out) (shifted now p path refusal (seen a) h) k.queued

  pub done : (d : Discipline) (r : Row) → r ≡ with_arrival p o a.row → seen (record a { row = r; discipline = d }) ≡ booked kept (seen a) (put_along now p refusal path (shape (seen a))).node
      → All (λ (child : Node Kept). IsCountedWithin child.memory.counts.arrived (with_packet a.row.arrived p)) (children_seen d)
      → IsDone now p path refusal (seen a) (record a { row = r; discipline = d }) o
  done d r row value within = record {
    stays = record {
      queued = ap (λ (x : Row). x.queued) row
          ∙ queued-after p (put_along now p refusal path (shape (seen a))).rises o (beneath (seen a)) (beneath (booked kept (seen a) (put_along now p refusal path (shape (seen a))).node)) a.row
          (outcome-weighs (loss_at_end now p (shape (seen a)) (record { path = path; refusal = refusal }))
          (put_along now p refusal path (shape (seen a))).rises o out) (shifted now p path refusal (seen a) h) k.queued
          ∙ ap (λ (n : Node Kept). totals_in (beneath n)) (sym value);
      marks = subst (λ (m : Node Kept). AreMarksBounded (counts_in_row r) (held_beneath m)) (sym value)
          (subst (λ (x : Row). AreMarksBounded (counts_in_row x)
          (held_beneath (booked kept (seen a) (put_along now p refusal path (shape (seen a))).node))) (sym row)
          (marks-after now p path refusal (seen a) h a.row o k.marks));
      balanced = subst IsBalanced (sym row) (balanced-after p o a.row k.balanced lost-at);
      within = subst (λ (x : Row). All (λ (child : Node Kept). IsCountedWithin child.memory.counts.arrived x.arrived) (children_seen d)) (sym row) within;
    };
    after = value;
    outcome = out;
  }

-- no child has more arrivals than its parent, which has one more
wider : (p : Descriptor) (t : Totals) (ns : List (Node Kept)) → All (λ (child : Node Kept). IsCountedWithin child.memory.counts.arrived t) ns
    → All (λ (child : Node Kept). IsCountedWithin child.memory.counts.arrived (with_packet t p)) ns
wider p t [] h = All-nil (λ (child : Node Kept). IsCountedWithin child.memory.counts.arrived (with_packet t p))
wider p t (n ∷ ns) h =
    let first = All-head (λ (child : Node Kept). IsCountedWithin child.memory.counts.arrived t) n ns h in
    All-cons (λ (child : Node Kept). IsCountedWithin child.memory.counts.arrived (with_packet t p)) n ns
    (record { packets = omega (arith, first.packets); bytes = omega (arith, first.bytes) })
    (wider p t ns (All-tail (λ (child : Node Kept). IsCountedWithin child.memory.counts.arrived t) n ns h))

both : (p : Descriptor) (c : Totals) (t u : Totals) → c ≡ with_packet t p → IsCountedWithin t u → IsCountedWithin c (with_packet u p)
both p c t u e h = subst (λ (x : Totals). IsCountedWithin x (with_packet u p)) (sym e) (record { packets = omega (arith, h.packets); bytes = omega (arith, h.bytes) })

here-outcome : (now : ℕ) (p : Descriptor) (refusal : Option Cause) (a : Inside) (d : Discipline) (o : Outcome) → IsQueued now p refusal a.discipline d o
    → IsOutcome (loss_at_end now p (shape (seen a)) (record { path = []; refusal = refusal })) (put_along now p refusal [] (shape (seen a))).rises o
here-outcome now p None a d o q = q.outcome
here-outcome now p (Some cause) a d o q = q.outcome

-- where the way ends
pub here-done : (now : ℕ) (p : Descriptor) (refusal : Option Cause) (a : Inside) (d : Discipline) (r : Row) (o : Outcome) → IsKept a → CanPut now p [] refusal (seen a)
    → IsQueued now p refusal a.discipline d o → r ≡ with_arrival p o a.row → IsDone now p [] refusal (seen a) (record a { row = r; discipline = d }) o
here-done now p refusal a d r o k h q row =
    let s : Shape = shape (seen a) in
    let w = here-is now p refusal s in
    let out = here-outcome now p refusal a d o q in
    done now p [] refusal a k h o out d r row
    (seen-after a r d (after_here now p refusal (discipline_seen a.discipline)) (Arrived p ∷ rises_here now p refusal (discipline_seen a.discipline)) (map quiet (children s)) q.discipline q.places
    (ap counts_in_row row ∙ counted-arrival p (loss_here now p refusal (discipline_seen a.discipline)) (rises_here now p refusal (discipline_seen a.discipline)) o a.row
    (subst AreLosses (ap (λ (x : Work). x.rises) w) (are-losses now p [] refusal (seen a) h)) q.outcome)
    (ap side_by_side q.children ∙ sym (side-quiet kept (children_seen a.discipline))
    ∙ ap (λ xs. each_booked kept (side_by_side (children_seen a.discipline)) (side_by_side (map quiet xs)))
    (sym (children-shape (seen a) ∙ ap (map shape) (nodes-side (children_seen a.discipline)))))
    ∙ ap (λ (x : Work). booked kept (seen a) x.node) (sym w))
    (subst (All (λ (child : Node Kept). IsCountedWithin child.memory.counts.arrived (with_packet a.row.arrived p))) (sym q.children) (wider p a.row.arrived (children_seen a.discipline) k.within))

-- where it goes on
loss-on : (now : ℕ) (p : Descriptor) (refusal : Option Cause) (i : ℕ) (rest : List ℕ) (n c : Node Kept) → slice_get (children n) i ≡ Some c
    → loss_at_end now p (shape n) (record { path = i ∷ rest; refusal = refusal }) ≡ loss_at_end now p (shape c) (record { path = rest; refusal = refusal })
loss-on now p (Some cause) i rest n c there = refl
loss-on now p None i rest n c there =
    ap (λ (o : Option Shape). option_and_then (λ (end : Shape). if drops_itself p now end.own.discipline then Some FatFlow else None) (option_and_then (node_at rest) o)) (child-shape n i c there)

pub on-outcome : (now : ℕ) (p : Descriptor) (refusal : Option Cause) (i : ℕ) (rest : List ℕ) (n c : Node Kept) (o : Outcome) → slice_get (children n) i ≡ Some c
    → IsOutcome (loss_at_end now p (shape c) (record { path = rest; refusal = refusal })) (put_along now p refusal rest (shape c)).rises o
    → IsOutcome (loss_at_end now p (shape n) (record { path = i ∷ rest; refusal = refusal })) (put_along now p refusal (i ∷ rest) (shape n)).rises o
on-outcome now p refusal i rest n c o there out =
    subst (λ (l : Option Cause). IsOutcome l (put_along now p refusal (i ∷ rest) (shape n)).rises o) (sym (loss-on now p refusal i rest n c there))
    (subst (λ (x : Work). IsOutcome (loss_at_end now p (shape c) (record { path = rest; refusal = refusal })) x.rises o) (sym (on-is now p refusal i rest n c there)) out)

pub beneath-done : (now : ℕ) (p : Descriptor) (refusal : Option Cause) (i : ℕ) (rest : List ℕ) (a : Inside) (d : Discipline) (r : Row) (o : Outcome)
    → IsKept a → CanPut now p (i ∷ rest) refusal (seen a)
    → (c : Node Kept) → slice_get (children_seen a.discipline) i ≡ Some c → IsPutInto now p refusal rest i a.discipline d c o → r ≡ with_arrival p o a.row
    → IsDone now p (i ∷ rest) refusal (seen a) (record a { row = r; discipline = d }) o
beneath-done now p refusal i rest a d r o k h c at q row =
    let kids : List (Node Kept) = children_seen a.discipline in
    let there : slice_get (children (seen a)) i ≡ Some c = ap (λ xs. slice_get xs i) (nodes-side kids) ∙ at in
    let w = on-is now p refusal i rest (seen a) c there in
    let below : Work = put_along now p refusal rest (shape c) in
    let emptied : Bool = is_empty below.node in
    let out = on-outcome now p refusal i rest (seen a) c o there q.outcome in
    done now p (i ∷ rest) refusal a k h o out d r row
    (seen-after a r d (settled_in i emptied (discipline_seen a.discipline)) (Arrived p ∷ below.rises) (set (map quiet (children (shape (seen a)))) i below.node) q.discipline q.places
    (ap counts_in_row row ∙ counted-arrival p (loss_at_end now p (shape c) (record { path = rest; refusal = refusal })) below.rises o a.row
    (subst AreLosses (ap (λ (x : Work). x.rises) w) (are-losses now p (i ∷ rest) refusal (seen a) h)) q.outcome)
    (ap side_by_side q.children ∙ sym (side-booked kept kids i c below.node at)
    ∙ ap (λ xs. each_booked kept (side_by_side kids) (side_by_side (set (map quiet xs) i below.node))) (sym (children-shape (seen a) ∙ ap (map shape) (nodes-side kids))))
    ∙ ap (λ (x : Work). booked kept (seen a) x.node) (sym w))
    (subst (All (λ (child : Node Kept). IsCountedWithin child.memory.counts.arrived (with_packet a.row.arrived p))) (sym q.children)
    (All-set (λ (child : Node Kept). IsCountedWithin child.memory.counts.arrived (with_packet a.row.arrived p)) kids i (booked kept c below.node)
    (both p (booked kept c below.node).memory.counts.arrived c.memory.counts.arrived a.row.arrived q.arrived
    (All-at (λ (child : Node Kept). IsCountedWithin child.memory.counts.arrived a.row.arrived) kids i c k.within at)) (wider p a.row.arrived kids k.within)))

-- whether a child is empty is asked of it as it is stored
pub is-empty-put : (now : ℕ) (p : Descriptor) (path : List ℕ) (refusal : Option Cause) (n : Node Kept) → CanPut now p path refusal n
    → is_empty (booked kept n (put_along now p refusal path (shape n)).node) ≡ is_empty (put_along now p refusal path (shape n)).node
is-empty-put now p path refusal n h =
    ap (λ (packets : List Descriptor). length packets == 0)
    (root-booked kept beneath_own n (put_along now p refusal path (shape n)).node (told now p path refusal n h))

-- the child that is reached by its place
pub same-child : (ns : List (Node Kept)) (i : ℕ) (x c : Node Kept) → x ≡ slice_index_or ns i x → slice_get ns i ≡ Some c → x ≡ c
same-child ns i x c is at = is ∙ get_or_from_slice_get ns i c x at

-- the packets beneath a child are among those beneath the node
pub child-packets : (ns : List (Node Kept)) (i : ℕ) (c : Node Kept) → slice_get ns i ≡ Some c → length (beneath c) ≤ length (packets_beneath ns)
child-packets [] i c e = cc
child-packets (n ∷ ns) zero c e = omega (arith, ap (λ (x : Node Kept). length (beneath x)) (same_Some n c e), length-append (beneath n) (packets_beneath ns))
child-packets (n ∷ ns) (suc i) c e = omega (arith, child-packets ns i c e, length-append (beneath n) (packets_beneath ns))

-- the same, for a node and a way as the code has them
can-at : (now : ℕ) (p : Descriptor) (refusal : Option Cause) (a : Inside) (n : Node Kept) (path path2 : List ℕ) → seen a ≡ n → path ≡ path2
    → CanPut now p path refusal n → CanPut now p path2 refusal (seen a)
can-at now p refusal a n path path2 view e h = subst (CanPut now p path2 refusal) (sym view) (subst (λ xs. CanPut now p xs refusal n) e h)

done-at : (now : ℕ) (p : Descriptor) (refusal : Option Cause) (a : Inside) (n : Node Kept) (path path2 : List ℕ) (b : Inside) (o : Outcome)
    → seen a ≡ n → path ≡ path2 → IsDone now p path2 refusal (seen a) b o → IsDone now p path refusal n b o
done-at now p refusal a n path path2 b o view e h = subst (λ (m : Node Kept). IsDone now p path refusal m b o) view (subst (λ xs. IsDone now p xs refusal (seen a) b o) (sym e) h)

module _ (now : ℕ) (p : Descriptor) (refusal : Option Cause) (a : Inside) (n : Node Kept) (path : List ℕ) (k : IsKept a) (view : seen a ≡ n) (h : CanPut now p path refusal n) where
  module _ (e : path ≡ []) where
    pub here-lost : (d : Discipline) (o : Outcome) → IsQueued now p refusal a.discipline d o → IsLostOf p o a.row.queued
    here-lost d o q = lost-at now p [] refusal a k (can-at now p refusal a n path [] view e h) o (here-outcome now p refusal a d o q)

    pub here-at : (d : Discipline) (r : Row) (o : Outcome) → IsQueued now p refusal a.discipline d o → r ≡ with_arrival p o a.row → IsDone now p path refusal n (record a { row = r; discipline = d }) o
    here-at d r o q row = done-at now p refusal a n path [] (record a { row = r; discipline = d }) o view e (here-done now p refusal a d r o k (can-at now p refusal a n path [] view e h) q row)

    pub here-rises : (put_along now p refusal path (shape n)).rises ≡ rises_here now p refusal (discipline_seen a.discipline)
    here-rises =
        ap (λ xs. (put_along now p refusal xs (shape n)).rises) e
        ∙ ap (λ (m : Node Kept). (put_here now p refusal (shape m)).rises) (sym view)
        ∙ ap (λ (x : Work). x.rises) (here-is now p refusal (shape (seen a)))

  module _ (i : ℕ) (rest : List ℕ) (e : path ≡ i ∷ rest) where
    pub on-into : CanPutInto now p refusal rest i (children_seen a.discipline)
    on-into = goes-on now p refusal i rest a k (can-at now p refusal a n path (i ∷ rest) view e h)

    on-there : slice_get (children (seen a)) i ≡ Some on-into.child
    on-there = ap (λ xs. slice_get xs i) (nodes-side (children_seen a.discipline)) ∙ on-into.there

    pub on-lost : (d : Discipline) (o : Outcome) → ((c : Node Kept) → slice_get (children_seen a.discipline) i ≡ Some c → IsPutInto now p refusal rest i a.discipline d c o) → IsLostOf p o a.row.queued
    on-lost d o q =
        lost-at now p (i ∷ rest) refusal a k (can-at now p refusal a n path (i ∷ rest) view e h) o
        (on-outcome now p refusal i rest (seen a) on-into.child o on-there (q on-into.child on-into.there).outcome)

    pub on-at : (d : Discipline) (r : Row) (o : Outcome) → ((c : Node Kept) → slice_get (children_seen a.discipline) i ≡ Some c → IsPutInto now p refusal rest i a.discipline d c o)
        → r ≡ with_arrival p o a.row → IsDone now p path refusal n (record a { row = r; discipline = d }) o
    on-at d r o q row = done-at now p refusal a n path (i ∷ rest) (record a { row = r; discipline = d }) o view e
        (beneath-done now p refusal i rest a d r o k (can-at now p refusal a n path (i ∷ rest) view e h) on-into.child on-into.there (q on-into.child on-into.there) row)

    pub on-rises : (put_along now p refusal path (shape n)).rises ≡ (put_along now p refusal rest (shape on-into.child)).rises
    on-rises =
        ap (λ xs. (put_along now p refusal xs (shape n)).rises) e
        ∙ ap (λ (m : Node Kept). (put_along now p refusal (i ∷ rest) (shape m)).rises) (sym view)
        ∙ ap (λ (x : Work). x.rises) (on-is now p refusal i rest (seen a) on-into.child on-there)
