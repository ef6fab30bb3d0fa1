-- A burst of packets that comes to a fifo at the root is so many arrivals.
use Rattle.std.proofs.Common.{◌≡◌, ℕ, suc, ◌+◌, ◌*◌, ◌<◌, ◌≤◌, ◌^◌, ◌∙◌, List, [], ◌∷◌, ◌++◌, length, refl, sym, ap, ap₂, subst, append_assoc, Option, Some, None, inl, arith}
use Rattle.std.specs.Prelude.{All, Bool, map, true, IfSome, if◌then◌else◌}
use Rattle.std.proofs.lemmas.Bool.{lt-ltb}
use Rattle.std.proofs.lemmas.List.{append-nil, length-append, length-map}
use Rattle.std.proofs.lemmas.List.Elements.{All-map, All-weaker, recursion_from_All}
use Rattle.std.proofs.lemmas.List.Sums.{sum_by-cons, sum_by-append, sum_by-le}
use Rattle.std.specs.List.{AllByRecursion}
use Rattle.q_packet.specs.Descriptor.{Descriptor}
use Rattle.q_packet.specs.declared.cause.Cause.TheVariants.{OverLimit}
use Rattle.q_packet.specs.declared.stamped.Stamped.{Stamped}
use Rattle.q_packet.specs.Stored.{descriptor}
use Rattle.q_packet.specs.declared.stored_packet.StoredPacket.{StoredPacket}
use Rattle.q_codel.specs.Bursts.{HasWidths, IsShort, stamped_at}
use Rattle.q_codel.specs.FifoState.{takes}
use Rattle.q_codel.specs.declared.limit.Limit.{Limit}
use Rattle.q_codel.specs.declared.limit.Limit.TheVariants.{Packets, Bytes}
use Rattle.q_codel.specs.Losses.{SinkState}
use Rattle.q_codel.proofs.SinkLemmas.{told_nothing}
use Rattle.q_model.specs.declared.reply.Reply.TheVariants as reply
use Rattle.q_model.specs.declared.row.Row.{Row}
use Rattle.q_model.specs.declared.totals.Totals.{Totals}
use Rattle.q_model.specs.Beneath.{totals_in}
use Rattle.q_model.specs.Node as spec
use Rattle.q_model.specs.Node.{Discipline, Node, none, shape}
use Rattle.q_model.specs.Put.{put_along}
use Rattle.q_model.specs.Route.{Route, route, device_route, ends, refused}
use Rattle.q_model.specs.Step.{DeviceState, arrive, fate_of}
use Rattle.q_model.specs.Tally.{Note, counts_in, no_totals, with_packet}
use Rattle.q_model.specs.TreeState.{loss_at_end, put_on}
use Rattle.q_model.specs.Work.{booked}
use Rattle.q_tree.specs.arrival.Arrivals.{CanCount, HasPlace, HasPlaceIn, minus, plus, with_arrival}
use Rattle.q_tree.specs.arrival.ArriveSteps.{CanKeep, CanKeepIn, HasComeBelow, nothing_lost}
use Rattle.q_tree.specs.Bursts.{AreKept, arrived_each, queued_all, room_at, room_in, with_arrivals, with_queued}
use Rattle.q_tree.specs.departure.AskSteps.{IsToldOf}
use Rattle.q_tree.specs.Kept.{Kept, kept}
use Rattle.q_tree.specs.route.RouteSeen.{route_seen}
use Rattle.q_tree.specs.TreeSeen.{CanArrive, IsIndexedDevice, tree_seen}
use Rattle.q_tree.specs.declared.tree.Tree.TheInside.{Inside}
use Rattle.q_tree.proofs.arrival.Arriving.{lt-false}
use Rattle.q_tree.proofs.arrival.TreeArrivals.{told-tree, tree-exact, tree-indexed, tree-loss}

-- ---- what is counted

pub one-total : (t : Totals) (p : Descriptor) → plus t (totals_in (p ∷ [])) ≡ with_packet t p
one-total t p = let bytes : t.bytes + (0 + p.len) ≡ t.bytes + p.len = omega arith in ap (λ (b : ℕ). record { packets = t.packets + 1; bytes = b }) bytes

pub none-more : (t : Totals) → t ≡ plus t no_totals
none-more t = ap₂ (λ (n b : ℕ). record { packets = n; bytes = b }) (omega arith) (omega arith)

pub both : (t : Totals) (ps qs : List Descriptor) → plus (plus t (totals_in ps)) (totals_in qs) ≡ plus t (totals_in (ps ++ qs))
both t ps qs = ap₂ (λ (n b : ℕ). record { packets = n; bytes = b }) (omega (arith, length-append ps qs)) (omega (arith, sum_by-append (λ (p : Descriptor). p.len) ps qs))

pub row-one : (r : Row) (p : Descriptor) → with_arrivals (totals_in (p ∷ [])) r ≡ with_arrival p nothing_lost r
row-one r p =
    let queued : plus r.queued (totals_in (p ∷ [])) ≡ minus (with_packet r.queued p) (plus no_totals no_totals) =
    one-total r.queued p ∙ ap₂ (λ (n b : ℕ). record { packets = n; bytes = b }) (omega arith) (omega arith) in
    λ i. record { arrived = one-total r.arrived p i; sent = r.sent; refused = none-more r.refused i; dropped = none-more r.dropped i; queued = queued i; marked = r.marked }

-- ---- a packet at a fifo that has room for it

pub record IsKeptBy (now : ℕ) (p : Descriptor) (n : Node Kept) : Type 0 where
  pub way : route p n ≡ ends
  pub place : HasPlaceIn n.memory.places n.own.discipline
  pub becomes : with_queued now (p ∷ []) n ≡ booked kept n (put_along now p None [] (shape n)).node
  pub rises : (put_along now p None [] (shape n)).rises ≡ []
  pub loss : loss_at_end now p (shape n) ends ≡ None

module _ (now : ℕ) (p : Descriptor) (n : Node Kept) (alone : n.below ≡ none) where
  abbrev fifo : Limit → List Stamped → Node Kept
  fifo limit packets = record n { own = record n.own { discipline = spec.Fifo limit packets }; below = none }

  same : (limit : Limit) (packets : List Stamped) → n.own.discipline ≡ spec.Fifo limit packets → n ≡ fifo limit packets
  same limit packets e = λ i. record n { own = record n.own { discipline = e i }; below = alone i }

  kept-of : (limit : Limit) (packets : List Stamped) → takes limit packets p.len ≡ true → length packets < n.memory.places → IsKeptBy now p (fifo limit packets)
  kept-of limit packets fits room = record {
    way = ap (λ (b : Bool). if b then ends else refused OverLimit) fits;
    place = room;
    becomes =
        ap (λ (t : Totals). record (fifo limit (packets ++ record { packet = p; at = now } ∷ []))
        { memory = record n.memory { counts = record n.memory.counts { arrived = t } } }) (one-total n.memory.counts.arrived p);
    rises = refl;
    loss = refl;
  }

  kept-by : CanKeep p.len n → IsKeptBy now p n
  kept-by = by n.own.discipline refl
    where
      by : (d : Discipline) → n.own.discipline ≡ d → CanKeepIn p.len n.memory.places d → IsKeptBy now p n
      by (spec.Fifo limit packets) e can = subst (λ (m : Node Kept). IsKeptBy now p m) (sym (same limit packets e)) (kept-of limit packets can.0 can.1)
      by (spec.Prio priomap) e can = absurd can
      by (spec.Tbf bucket limit) e can = absurd can
      by (spec.Drr s) e can = absurd can
      by (spec.FqCodel s) e can = absurd can

  module _ (mtu : ℕ) (short : p.len ≤ mtu) (keep : CanKeep p.len n) where
    way-is : Some ends ≡ device_route p mtu n
    way-is = sym (ap (λ (b : Bool). if b then None else Some (route p n)) (lt-false mtu p.len short) ∙ ap (λ (r : Route). Some r) (kept-by keep).way)

    comes : HasComeBelow now p (Some ends) n (with_queued now (p ∷ []) n) nothing_lost
    comes = let k = kept-by keep in record {
      placed = n;
      is_placed = record { same = refl; grows = λ way. omega arith };
      place = λ none. k.place;
      becomes = k.becomes;
      arrived = inl (one-total n.memory.counts.arrived p);
      outcome = record {
        loss = sym k.loss;
        refused = ap (λ (notes : List Note). (counts_in notes).refused) (sym k.rises);
        dropped = ap (λ (notes : List Note). (counts_in notes).dropped) (sym k.rises);
      };
      in_place = λ there. refl;
    }

    pub come-one : HasComeBelow now p (device_route p mtu n) n (with_queued now (p ∷ []) n) nothing_lost
    come-one = subst (λ (r : Option Route). HasComeBelow now p r n (with_queued now (p ∷ []) n) nothing_lost) way-is comes

    pub place-one : IfSome (device_route p mtu n) (λ (way : Route). way.refusal ≡ None → HasPlace way.path n)
    place-one = subst (λ (r : Option Route). IfSome r (λ (way : Route). way.refusal ≡ None → HasPlace way.path n)) way-is (λ none. (kept-by keep).place)

    pub told-one : (sink : SinkState) → IsToldOf (put_on now p (device_route p mtu n) (shape n)).rises sink sink
    told-one sink =
        subst (λ (r : Option Route). IsToldOf (put_on now p r (shape n)).rises sink sink) way-is
        (subst (λ (notes : List Note). IsToldOf notes sink sink) (sym (kept-by keep).rises) (told_nothing sink))

-- ---- room

pub fits-one : (len : ℕ) (n : Node Kept) → 1 ≤ room_at n → CanKeep len n
fits-one len n = by n.memory.places n.own.discipline
  where
    by : (places : ℕ) (d : Discipline) → 1 ≤ room_in places d → CanKeepIn len places d
    by places (spec.Fifo (Packets most) queue) some = (lt-ltb (length queue) most (omega (arith, some)), omega (arith, some))
    by places (spec.Fifo (Bytes most) queue) some = absurd (omega (arith, some))
    by places (spec.Prio priomap) some = absurd (omega (arith, some))
    by places (spec.Tbf bucket limit) some = absurd (omega (arith, some))
    by places (spec.Drr s) some = absurd (omega (arith, some))
    by places (spec.FqCodel s) some = absurd (omega (arith, some))

pub fits-more : (now : ℕ) (p : Descriptor) (n : Node Kept) (m : ℕ) → suc m ≤ room_at n → m ≤ room_at (with_queued now (p ∷ []) n)
fits-more now p n m = by n.memory.places n.own.discipline
  where
    by : (places : ℕ) (d : Discipline) → suc m ≤ room_in places d → m ≤ room_in places (queued_all now (p ∷ []) d)
    by places (spec.Fifo (Packets most) queue) some = omega (arith, some, length-append queue (stamped_at now (p ∷ [])))
    by places (spec.Fifo (Bytes most) queue) some = absurd (omega (arith, some))
    by places (spec.Prio priomap) some = absurd (omega (arith, some))
    by places (spec.Tbf bucket limit) some = absurd (omega (arith, some))
    by places (spec.Drr s) some = absurd (omega (arith, some))
    by places (spec.FqCodel s) some = absurd (omega (arith, some))

-- ---- the tree

-- where a packet has come, and where these have, one after another
abbrev one : ℕ → Descriptor → Inside → Inside
one now p a = record a { clock = now; top = with_arrivals (totals_in (p ∷ [])) a.top; root = with_queued now (p ∷ []) a.root }

abbrev pub came : ℕ → List Descriptor → Inside → Inside
came now [] a = a
came now (p ∷ ps) a = came now ps (one now p a)

-- it is so many arrivals, of packets that are kept
pub record IsBurst (now : ℕ) (ps : List Descriptor) (a b : Inside) : Type 0 where
  pub indexed : IsIndexedDevice b
  pub after : tree_seen b ≡ arrived_each kept now ps (tree_seen a)
  pub each : AreKept kept now ps (tree_seen a)

abbrev pub IsLong : ℕ → Descriptor → Type 0
IsLong mtu p = (1 ≤ p.len) × (p.len ≤ mtu)

pub burst-came : (now : ℕ) (ps : List Descriptor) (a : Inside) → IsIndexedDevice a → a.clock ≤ now → now ≤ 2 ^ 62 → AllByRecursion (IsLong a.mtu) ps
    → a.top.arrived.packets + length ps < 2 ^ 64 → a.top.arrived.bytes + (totals_in ps).bytes < 2 ^ 64 → length ps ≤ room_at a.root → a.root.below ≡ none → IsBurst now ps a (came now ps a)
burst-came now [] a k later low long packets bytes room alone = record { indexed = k; after = refl; each = tt }
burst-came now (p ∷ ps) a k later low long packets bytes room alone =
    let sums = sum_by-cons (λ (x : Descriptor). x.len) p ps in
    let count : CanCount a.top.arrived p = record { packets = omega (arith, packets); bytes = omega (arith, bytes, sums) } in
    let keep : CanKeep p.len a.root = fits-one p.len a.root (omega (arith, room)) in
    let come = come-one now p a.root alone a.mtu long.0.1 keep in
    let row = row-one a.top p in
    let can : CanArrive (route_seen p a.mtu a.root) (tree_seen a) = record { place = place-one now p a.root alone a.mtu long.0.1 keep; packets = count.packets; bytes = count.bytes } in
    let b : Inside = one now p a in
    let first : tree_seen b ≡ (arrive kept p now (tree_seen a)).device =
    tree-exact a k now p later low long.0.0 count nothing_lost b.root come b.top row can in
    let rest = burst-came now ps b (tree-indexed a k now p later low long.0.0 count nothing_lost b.root come b.top row) (omega arith) low long.1
    (omega (arith, packets)) (omega (arith, bytes, sums)) (fits-more now p a.root (length ps) room) alone in
    record {
      indexed = rest.indexed;
      after = rest.after ∙ ap (λ (d : DeviceState Kept). arrived_each kept now ps d) first;
      each = (
        record {
          fate = ap (λ c. reply.Fate (fate_of c)) (sym (tree-loss a k now p later low long.0.0 count nothing_lost b.root come));
          losses =
              let empty : SinkState = record { losses = []; room = 0 } in sym
              (told-tree a k now p later low long.0.0 count empty empty (told-one now p a.root alone a.mtu long.0.1 keep empty)).lost;
        },
        subst (λ (d : DeviceState Kept). AreKept kept now ps d) first rest.each,
      );
    }

-- ---- all of them at once

pub queued-none : (now : ℕ) (n : Node Kept) → with_queued now [] n ≡ n
queued-none now n =
    λ i. record n {
      own = record n.own { discipline = d n.own.discipline i };
      memory = record n.memory
          { counts = record n.memory.counts { arrived = sym (none-more n.memory.counts.arrived) i } };
    }
  where
    d : (x : Discipline) → queued_all now [] x ≡ x
    d (spec.Fifo limit queue) = ap (λ (q : List Stamped). spec.Fifo limit q) (append-nil queue)
    d (spec.Prio priomap) = refl
    d (spec.Tbf bucket limit) = refl
    d (spec.Drr s) = refl
    d (spec.FqCodel s) = refl

queued-both : (now : ℕ) (p : Descriptor) (ps : List Descriptor) (n : Node Kept) → with_queued now ps (with_queued now (p ∷ []) n) ≡ with_queued now (p ∷ ps) n
queued-both now p ps n =
    λ i. record n {
      own = record n.own { discipline = d n.own.discipline i };
      memory = record n.memory
          { counts = record n.memory.counts { arrived = both n.memory.counts.arrived (p ∷ []) ps i } };
    }
  where
    d : (x : Discipline) → queued_all now ps (queued_all now (p ∷ []) x) ≡ queued_all now (p ∷ ps) x
    d (spec.Fifo limit queue) = ap (λ (q : List Stamped). spec.Fifo limit q) (append_assoc queue (stamped_at now (p ∷ [])) (stamped_at now ps))
    d (spec.Prio priomap) = refl
    d (spec.Tbf bucket limit) = refl
    d (spec.Drr s) = refl
    d (spec.FqCodel s) = refl

pub row-both : (p : Descriptor) (ps : List Descriptor) (r : Row) → with_arrivals (totals_in ps) (with_arrivals (totals_in (p ∷ [])) r) ≡ with_arrivals (totals_in (p ∷ ps)) r
row-both p ps r = λ i. record r { arrived = both r.arrived (p ∷ []) ps i; queued = both r.queued (p ∷ []) ps i }

-- a row that counts some, and then others
pub row-after : (ps qs : List Descriptor) (r : Row) → with_arrivals (totals_in qs) (with_arrivals (totals_in ps) r) ≡ with_arrivals (totals_in (ps ++ qs)) r
row-after ps qs r = λ i. record r { arrived = both r.arrived ps qs i; queued = both r.queued ps qs i }

pub row-none : (r : Row) → with_arrivals (totals_in []) r ≡ r
row-none r = λ i. record r { arrived = sym (none-more r.arrived) i; queued = sym (none-more r.queued) i }

pub came-at-once : (now : ℕ) (ps : List Descriptor) (a : Inside) → a.clock ≡ now → came now ps a ≡ record a { top = with_arrivals (totals_in ps) a.top; root = with_queued now ps a.root }
came-at-once now [] a e = λ i. record a { top = sym (row-none a.top) i; root = sym (queued-none now a.root) i }
came-at-once now (p ∷ ps) a e =
    came-at-once now ps (one now p a) refl
    ∙ (λ i. record a { clock = sym e i; top = row-both p ps a.top i; root = queued-both now p ps a.root i })

pub came-all : (now : ℕ) (ps : List Descriptor) (a : Inside) → 1 ≤ length ps → came now ps a ≡ record a { clock = now; top = with_arrivals (totals_in ps) a.top; root = with_queued now ps a.root }
came-all now [] a some = absurd (omega (arith, some))
came-all now (p ∷ ps) a some = came-at-once now (p ∷ ps) (record a { clock = now }) refl

-- ---- what is asked of a burst

pub bytes-bound : (cs : List StoredPacket) → All HasWidths cs → (totals_in (map descriptor cs)).bytes ≤ length cs * 65535
bytes-bound cs widths =
    let bound =
    sum_by-le (λ (p : Descriptor). p.len) 65535 (map descriptor cs)
    (All-map (λ (p : Descriptor). p.len ≤ 65535) descriptor cs
    (All-weaker HasWidths (λ (c : StoredPacket). c.len ≤ 65535) (λ c w. omega (arith, w.len)) cs widths)) in
    subst (λ (k : ℕ). (totals_in (map descriptor cs)).bytes ≤ k * 65535) (length-map cs descriptor) bound

pub long-each : (mtu : ℕ) (cs : List StoredPacket) → All (IsShort mtu) cs → AllByRecursion (IsLong mtu) (map descriptor cs)
long-each mtu cs short =
    recursion_from_All (IsLong mtu) (map descriptor cs)
    (All-map (IsLong mtu) descriptor cs (All-weaker (IsShort mtu) (λ (c : StoredPacket). (1 ≤ c.len) × (c.len ≤ mtu))
    (λ c s. (s.in_range.len, s.short)) cs short))
