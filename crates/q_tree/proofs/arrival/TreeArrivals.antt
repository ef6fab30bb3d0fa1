-- A packet that arrives at a tree of the code in one walk: the tree is then what the rules make of it, but for places.
use Rattle.std.proofs.Common.{◌≡◌, ℕ, ◌<◌, ◌≤◌, ◌^◌, ◌∙◌, Result, Ok, Err, List, [], ◌∷◌, refl, sym, ap, subst, Option, Some, None, inl, inr, arith}
use Rattle.std.specs.declared.alloc.AllocError.{AllocError}
use Rattle.std.specs.Prelude.{Bool, true, false, nat_lt, IfOk, IfSome, OnOk, if◌then◌else◌}
use Rattle.std.proofs.lemmas.Bool.{ltb-true}
use Rattle.q_packet.specs.Descriptor.{Descriptor}
use Rattle.q_packet.specs.declared.cause.Cause.TheVariants.{TooLong}
use Rattle.q_codel.specs.Losses.{IsTold, SinkState}
use Rattle.q_model.specs.declared.row.Row.{Row}
use Rattle.q_model.specs.Node.{Node, shape}
use Rattle.q_model.specs.Route.{Route, route, device_route}
use Rattle.q_model.specs.Step.{DeviceState}
use Rattle.q_model.specs.Tally.{Counts, no_totals, totals, with_packet}
use Rattle.q_model.specs.TreeState.{TreeState, noted_by_put, own_loss, put, put_on}
use Rattle.q_model.proofs.ShrinkSteps.{put-stands}
use Rattle.q_tree.specs.arrival.Arrivals.{CanCount, HasPlace, IsLostOf, with_arrival}
use Rattle.q_tree.specs.arrival.ArriveSteps.{CanCome, HasCome, HasComeBelow, IsPlaced, rises_along}
use Rattle.q_tree.specs.arrival.Places.{places_at}
use Rattle.q_tree.specs.departure.AskSteps.{IsToldOf}
use Rattle.q_tree.specs.Kept.{Kept, kept}
use Rattle.q_tree.specs.route.RouteSeen.{RouteSeen, route_seen}
use Rattle.q_tree.specs.TreeSeen.{tree_seen, numbers, tree_numbers, CanArrive, IsIndexedDevice, IsKeptDevice}
use Rattle.q_tree.specs.declared.arrival.outcome.Outcome.{Outcome}
use Rattle.q_tree.specs.declared.tree.Tree.TheInside.{Inside}
use Rattle.q_tree.proofs.arrival.Arriving.{lt-false, lt-true, refusal-counted, same-shape}
use Rattle.q_tree.proofs.arrival.Puts.{same-way}
use Rattle.q_tree.proofs.arrival.TreePuts.{arrives-still, can-put, loss-is, prepared-kept, put-device, put-lost, put-tree, same-routes, still}
use Rattle.q_tree.proofs.commands.TreeIndex.{IsSameForm, placed-form, put-form, still-indexed}
use Rattle.q_tree.proofs.laws.OtherSubtrees.{put-root-places}
use Rattle.q_tree.proofs.TreeLemmas.{lawful-root, stands}

-- ---- above the root

pub above-root : (now : ℕ) (p : Descriptor) (mtu : ℕ) (n m : Node Kept) (o : Outcome) → mtu < p.len → m ≡ n → (q : Descriptor) → q ≡ p
    → o ≡ record { loss = Some TooLong; refused = with_packet no_totals q; dropped = no_totals }
    → HasComeBelow now p (device_route p mtu n) n m o
above-root now p mtu n m o long same q packet is = subst (λ b. HasComeBelow now p (if b then None else Some (route p n)) n m o) (sym (lt-true mtu p.len long)) (record {
  placed = n;
  is_placed = record { same = refl; grows = λ way. omega arith };
  place = tt;
  becomes = same ∙ sym (still n);
  arrived = inr (ap (λ (x : Node Kept). x.memory.counts.arrived) same);
  outcome = record {
    loss = ap (λ (x : Outcome). x.loss) is;
    refused = ap (λ (x : Outcome). x.refused) is ∙ ap (with_packet no_totals) packet ∙ sym (ap (λ (c : Counts). c.refused) (refusal-counted p TooLong refl));
    dropped = ap (λ (x : Outcome). x.dropped) is ∙ sym (ap (λ (c : Counts). c.dropped) (refusal-counted p TooLong refl));
  };
  in_place = λ there. refl;
})

pub above-told : (now : ℕ) (p : Descriptor) (mtu : ℕ) (n : Node Kept) (sink sink2 : SinkState) → mtu < p.len → (q : Descriptor) → q ≡ p
    → IsTold (record { packet = q; cause = TooLong } ∷ []) sink sink2
    → IsToldOf (put_on now p (device_route p mtu n) (shape n)).rises sink sink2
above-told now p mtu n sink sink2 long q packet told =
    subst (λ b. IsToldOf (put_on now p (if b then None else Some (route p n)) (shape n)).rises sink sink2) (sym (lt-true mtu p.len long))
    (subst (λ (x : Descriptor). IsTold (record { packet = x; cause = TooLong } ∷ []) sink sink2) packet told)

pub at-root : (now : ℕ) (p : Descriptor) (mtu : ℕ) (n m : Node Kept) (res : Result Outcome AllocError) → p.len ≤ mtu
    → IfOk res (λ o. HasCome now p n m o) → IfOk res (λ o. HasComeBelow now p (device_route p mtu n) n m o)
at-root now p mtu n m (Err e) short h = tt
at-root now p mtu n m (Ok o) short h = subst (λ b. HasComeBelow now p (if b then None else Some (route p n)) n m o) (sym (lt-false mtu p.len short)) (record {
  placed = h.placed;
  is_placed = h.is_placed;
  place = h.can.place;
  becomes = h.becomes;
  arrived = inl h.arrived;
  outcome = h.outcome;
  in_place = h.in_place;
})

pub at-root-told : (now : ℕ) (p : Descriptor) (mtu : ℕ) (n : Node Kept) (res : Result Outcome AllocError) (sink sink2 : SinkState) → p.len ≤ mtu → OnOk res (IsToldOf (rises_along now p n) sink sink2)
    → OnOk res (IsToldOf (put_on now p (device_route p mtu n) (shape n)).rises sink sink2)
at-root-told now p mtu n (Err e) sink sink2 short h = tt
at-root-told now p mtu n (Ok o) sink sink2 short h = subst (λ b. IsToldOf (put_on now p (if b then None else Some (route p n)) (shape n)).rises sink sink2) (sym (lt-false mtu p.len short)) h

-- the place that is there for a packet which can arrive
pub place-there : (p : Descriptor) (d : DeviceState Kept) → CanArrive (route_seen p d.tree.device.mtu d.tree.root) d → p.len ≤ d.tree.device.mtu
    → (route p d.tree.root).refusal ≡ None → HasPlace (route p d.tree.root).path d.tree.root
place-there p d can short none = by (nat_lt d.tree.device.mtu p.len) refl can.place none
  where
    by : (long : Bool) → nat_lt d.tree.device.mtu p.len ≡ long → IfSome (if long then None else Some (route p d.tree.root)) (λ (way : Route). way.refusal ≡ None → HasPlace way.path d.tree.root)
        → (route p d.tree.root).refusal ≡ None → HasPlace (route p d.tree.root).path d.tree.root
    by true e there none = absurd (omega (arith, short, ltb-true d.tree.device.mtu p.len e))
    by false e there none = there none

-- ---- the tree, where places alone were made

module _ (a : Inside) (k : IsIndexedDevice a) (root : Node Kept) (h : IsPlaced a.root root) where
  pub placed-indexed : IsIndexedDevice (record a { root = root })
  placed-indexed = still-indexed a (record a { root = root }) k (prepared-kept a k.device root h.same) refl (placed-form a.root root h.same)

  pub placed-numbers : numbers (tree_seen (record a { root = root })) ≡ numbers (tree_seen a)
  placed-numbers = λ i. record { clock = a.clock; tree = record { device = (tree_seen a).tree.device; top = (tree_seen a).tree.top.counts; root = h.same i } }

  pub placed-keeps : (other : RouteSeen) → CanArrive other (tree_seen a) → CanArrive other (tree_seen (record a { root = root }))
  placed-keeps other can = arrives-still other (tree_seen a) (tree_seen (record a { root = root })) placed-numbers h.grows can

-- ---- the tree, where the packet came

module _ (a : Inside) (k : IsIndexedDevice a) (now : ℕ) (p : Descriptor) (later : a.clock ≤ now) (low : now ≤ 2 ^ 62) (byte : 1 ≤ p.len) (room : CanCount a.top.arrived p) where
  pub can-come : p.len ≤ a.mtu → CanCome now p a.root
  can-come short = record {
    mtu = a.mtu;
    fits = (byte, short);
    lawful = lawful-root a k.device now later low;
    counts = record { packets = omega (arith, k.device.within.packets, room.packets); bytes = omega (arith, k.device.within.bytes, room.bytes) };
  }

  shape-route : device_route p a.mtu (shape a.root) ≡ device_route p a.mtu a.root
  shape-route = ap (λ (x : Route). if nat_lt a.mtu p.len then None else Some x) (same-way p a.root)

  pub told-tree : (sink sink2 : SinkState) → IsToldOf (put_on now p (device_route p a.mtu a.root) (shape a.root)).rises sink sink2 → IsToldOf (noted_by_put now p (tree_seen a).tree) sink sink2
  told-tree sink sink2 h = subst (λ (x : Option Route). IsToldOf (put_on now p x (shape a.root)).rises sink sink2) (sym shape-route) h

  module _ (o : Outcome) (after : Node Kept) (h : HasComeBelow now p (device_route p a.mtu a.root) a.root after o) where
    mid-kept : IsKeptDevice (record a { root = h.placed })
    mid-kept = prepared-kept a k.device h.placed h.is_placed.same

    mid-route : device_route p a.mtu a.root ≡ device_route p a.mtu h.placed
    mid-route = sym (same-routes p h.placed a.root a.mtu h.is_placed.same)

    mid-ready : CanArrive (record { len = p.len; route = device_route p a.mtu a.root }) (tree_seen (record a { root = h.placed }))
    mid-ready = record { place = h.place; packets = room.packets; bytes = room.bytes }

    pub tree-lost : IsLostOf p o a.top.queued
    tree-lost = put-lost (record a { root = h.placed }) mid-kept p now later low byte (device_route p a.mtu a.root) mid-route mid-ready o h.outcome

    pub tree-loss : o.loss ≡ own_loss now p (tree_seen a).tree.device (shape a.root)
    tree-loss =
        h.outcome.loss
        ∙ sym (loss-is (record a { root = h.placed }) mid-kept p now later low byte (device_route p a.mtu a.root) mid-route mid-ready)
        ∙ ap (own_loss now p (tree_seen a).tree.device) (same-shape a.root h.placed h.is_placed.same)

    pub tree-places : (path : List ℕ) → places_at path a.root ≤ places_at path after
    tree-places path = omega (arith, h.is_placed.grows path, put-root-places now p (device_route p a.mtu a.root) h.placed path, ap (places_at path) h.becomes)

    module _ (row : Row) (row_is : row ≡ with_arrival p o a.top) where
      pub tree-after : numbers (tree_seen (record a { clock = now; top = row; root = after })) ≡ record { clock = now; tree = put totals now p (tree_numbers (tree_seen a).tree) }
      tree-after =
          ap numbers (put-tree (record a { root = h.placed }) mid-kept p now later low byte (device_route p a.mtu a.root) mid-route mid-ready o
          h.outcome row row_is after h.becomes (record a { clock = now; top = row; root = after }) refl)
          ∙ ap (λ (t : TreeState Counts). record { clock = now; tree = t })
          (put-stands kept totals (λ (m : Kept). m.counts) stands now p (tree_seen (record a { root = h.placed })).tree
          ∙ ap (λ (d : DeviceState Counts). put totals now p d.tree) (placed-numbers a k h.placed h.is_placed))

      -- where the place was there, places are as they were
      pub tree-exact : CanArrive (route_seen p a.mtu a.root) (tree_seen a)
          → tree_seen (record a { clock = now; top = row; root = after }) ≡ record { clock = now; tree = put kept now p (tree_seen a).tree }
      tree-exact can =
          put-tree (record a { root = h.placed }) mid-kept p now later low byte (device_route p a.mtu a.root) mid-route mid-ready o h.outcome row
          row_is after h.becomes (record a { clock = now; top = row; root = after }) refl
          ∙ ap (λ (n : Node Kept). record { clock = now; tree = put kept now p (tree_seen (record a { root = n })).tree }) (h.in_place can.place)

      tree-form : IsSameForm a.root after
      tree-form =
          let made = placed-form a.root h.placed h.is_placed.same in
          let done =
          put-form now p h.placed after (device_route p a.mtu a.root)
          (can-put (record a { root = h.placed }) mid-kept p now later low byte (device_route p a.mtu a.root) mid-route mid-ready) h.becomes in
          record { handles = done.handles ∙ made.handles; nodes = done.nodes ∙ made.nodes }

      pub tree-indexed : IsIndexedDevice (record a { clock = now; top = row; root = after })
      tree-indexed = still-indexed a (record a { clock = now; top = row; root = after }) k
          (put-device (record a { root = h.placed }) mid-kept p now later low byte (device_route p a.mtu a.root) mid-route mid-ready o h.outcome row
          row_is after h.becomes (record a { clock = now; top = row; root = after }) refl h.arrived)
          refl tree-form
