-- Arrivals at a tree of the code: their routes, the place that is made for them, and what is left of the tree.
use Rattle.std.proofs.Common.{◌≡◌, ℕ, suc, ◌≤◌, ◌^◌, ◌∙◌, List, [], ◌∷◌, length, refl, sym, ap, subst, Option, Some, None, option_and_then, inl, inr, arith}
use Rattle.std.specs.Prelude.{Bool, true, false, nat_lt, IfSome, IsSome, if◌then◌else◌}
use Rattle.std.proofs.lemmas.Bool.{ltb-false}
use Rattle.std.proofs.lemmas.Option.{same_Some}
use Rattle.q_packet.specs.Descriptor.{Descriptor}
use Rattle.q_packet.specs.declared.cause.Cause.{Cause}
use Rattle.q_packet.specs.declared.cause.Cause.TheVariants.{TooLong}
use Rattle.q_model.specs.declared.row.Row.{Row}
use Rattle.q_model.specs.declared.totals.Totals.{Totals}
use Rattle.q_model.specs.Beneath.{beneath, beneath_own, totals_in}
use Rattle.q_model.specs.Find.{depth, greatest, node_at}
use Rattle.q_model.specs.Node.{Node, Own, shape, with_memory}
use Rattle.q_model.specs.Route.{Route, way, route, device_route}
use Rattle.q_model.specs.Step.{DeviceState}
use Rattle.q_model.specs.Tally.{Arrived, Lost, Counts, counts_in, history, noted, totals, with_packet}
use Rattle.q_model.specs.TreeState.{TreeState, put, put_on, loss_on, own_loss, with_work}
use Rattle.q_model.specs.Work.{Work, quiet, booked}
use Rattle.q_model.proofs.ShrinkLemmas.{totals_for_history, each-each_memory}
use Rattle.q_model.proofs.ShrinkSteps.{put-stands}
use Rattle.q_invariants.specs.Kept.{IsKeptTree}
use Rattle.q_invariants.proofs.ask.Answer.{one}
use Rattle.q_invariants.proofs.put.Puts.{put-kept}
use Rattle.q_invariants.proofs.sums.Counted.{bytes}
use Rattle.q_invariants.proofs.sums.Weights.{arrived-nil, arrived-cons, sent-nil, sent-cons, lost-nil, lost-cons, marked-nil, marked-cons}
use Rattle.q_invariants.proofs.tree.Ways.{route-goes}
use Rattle.q_tree.specs.arrival.Arrivals.{CanPut, HasPlace, IsOutcome, IsLostOf, with_arrival}
use Rattle.q_tree.specs.arrival.Places.{unplaced, places_at}
use Rattle.q_tree.specs.Kept.{Kept, kept}
use Rattle.q_tree.specs.route.RouteSeen.{RouteSeen}
use Rattle.q_tree.specs.Seen.{IsCountedWithin}
use Rattle.q_tree.specs.TreeSeen.{tree_seen, numbers, tree_numbers, IsKeptDevice, CanArrive, IsArrived, IsRouteIn}
use Rattle.q_tree.specs.declared.arrival.outcome.Outcome.{Outcome}
use Rattle.q_tree.specs.declared.tree.Tree.TheInside.{Inside}
use Rattle.q_tree.proofs.arrival.PlacesLemmas.{place-stays}
use Rattle.q_tree.proofs.arrival.Puts.{same-way, are-losses, shifted}
use Rattle.q_tree.proofs.counters.Rows.{counts_in_row, AreLosses, IsShifted, counted-arrival, outcome-weighs, lost-of, queued-after}
use Rattle.q_tree.proofs.departure.Forms.{booked-quiet, noted-kept}
use Rattle.q_tree.proofs.TreeLemmas.{stands, lawful-root}

-- the way of a route leads to a node
leads : (p : Descriptor) (path : List ℕ) (refusal : Option Cause) (n : Node Kept) → route p n ≡ record { path = path; refusal = refusal } → IsSome (node_at path n)
leads p [] refusal n e = refl
leads p (i ∷ path) refusal n e =
    let on = route-goes p n i path refusal e in
    subst (λ (o : Option (Node Kept)). IsSome (option_and_then (node_at path) o)) (sym on.there) (leads p path refusal on.child on.way)

-- a route that reaches the root is that of a packet which is not too long
pub record Reaches (p : Descriptor) (mtu : ℕ) (root : Node Kept) (r : Route) : Type 0 where
  pub short : p.len ≤ mtu
  pub is : route p root ≡ r

pub reaches : (p : Descriptor) (mtu : ℕ) (root : Node Kept) (r : Route) → Some r ≡ device_route p mtu root → Reaches p mtu root r
reaches p mtu root r e = by (nat_lt mtu p.len) refl e
  where
    by : (long : Bool) → nat_lt mtu p.len ≡ long → Some r ≡ (if long then None else Some (route p root)) → Reaches p mtu root r
    by true h e = cc
    by false h e = record { short = ltb-false mtu p.len h; is = sym (same_Some r (route p root) e) }

pub route-leads : (route : RouteSeen) (r : Route) (d : DeviceState Kept) → route.route ≡ Some r → IsRouteIn route d → IsSome (node_at r.path d.tree.root)
route-leads route r d e h =
    let on = reaches h.packet d.tree.device.mtu d.tree.root r (sym e ∙ ap (λ (x : RouteSeen). x.route) h.is) in
    leads h.packet r.path r.refusal d.tree.root on.is

-- the route looks at no memory
pub same-routes : (p : Descriptor) (n m : Node Kept) (mtu : ℕ) → unplaced n ≡ unplaced m → device_route p mtu n ≡ device_route p mtu m
same-routes p n m mtu e =
    let step : Own → List Route → Route = λ own below. way p own below own.discipline in
    let bare : (x : Node Kept) → route p (unplaced x) ≡ route p x = λ x. ap (step x.own) (each-each_memory step (λ (k : Kept). k.counts) x.below) in
    ap (λ (r : Route). if nat_lt mtu p.len then None else Some r) (sym (bare n) ∙ ap (λ (x : Node Counts). route p x) e ∙ bare m)

-- a root that a packet never reaches
pub still : (n : Node Kept) → booked kept n (quiet (shape n)) ≡ n
still n = ap (λ b. record { own = n.own; memory = n.memory; below = b }) (booked-quiet kept n.below)

-- what could arrive can arrive where the numbers are the same and no queue has fewer places
pub arrives-still : (r : RouteSeen) (d e : DeviceState Kept) → numbers e ≡ numbers d → ((path : List ℕ) → places_at path d.tree.root ≤ places_at path e.tree.root) → CanArrive r d → CanArrive r e
arrives-still r d e same grow h = record {
  place = by r.route h.place;
  packets = omega (arith, h.packets, ap (λ (x : DeviceState Counts). x.tree.top.arrived.packets) same);
  bytes = omega (arith, h.bytes, ap (λ (x : DeviceState Counts). x.tree.top.arrived.bytes) same);
} where
  by : (o : Option Route) → IfSome o (λ (way : Route). way.refusal ≡ None → HasPlace way.path d.tree.root) → IfSome o (λ (way : Route). way.refusal ≡ None → HasPlace way.path e.tree.root)
  by None is = tt
  by (Some way) is = λ goes. place-stays way.path d.tree.root e.tree.root (ap (λ (x : DeviceState Counts). x.tree.root) same) (grow way.path) (is goes)

module _ (a : Inside) (k : IsKeptDevice a) where
  pub levels : depth a.root ≤ 8
  levels =
      let deep : Own → List ℕ → ℕ = λ own below. suc (greatest below) in
      let here : depth (with_memory (λ (m : Kept). m.counts) a.root) ≡ depth a.root = ap (deep a.root.own) (each-each_memory deep (λ (m : Kept). m.counts) a.root.below) in
      let there : depth (with_memory counts_in k.history.root) ≡ depth k.history.root = ap (deep k.history.root.own) (each-each_memory deep counts_in k.history.root.below) in
      omega (arith, k.keeps.levels, here, there, ap (λ (s : TreeState Counts). depth s.root) k.same)

  -- where a place was made
  pub prepared-kept : (root : Node Kept) → unplaced root ≡ unplaced a.root → IsKeptDevice (record a { root = root })
  prepared-kept root e =
      let waits : (n : Node Kept) → beneath (unplaced n) ≡ beneath n = λ n. ap (beneath_own n.own) (each-each_memory beneath_own (λ (m : Kept). m.counts) n.below) in
      record {
        history = k.history;
        keeps = k.keeps;
        same = (λ i. record { device = (tree_seen a).tree.device; top = (tree_seen a).tree.top.counts; root = e i }) ∙ k.same;
        queued = k.queued ∙ ap totals_in (sym (waits a.root) ∙ ap beneath (sym e) ∙ waits root);
        within = subst (λ (t : Totals). IsCountedWithin t a.top.arrived) (ap (λ (n : Node Counts). n.memory.arrived) (sym e)) k.within;
      }

  module _ (p : Descriptor) (now : ℕ) (later : a.clock ≤ now) (low : now ≤ 2 ^ 62) (byte : 1 ≤ p.len) (r : Option Route)
      (is : r ≡ device_route p a.mtu a.root) (ready : CanArrive (record { len = p.len; route = r }) (tree_seen a)) where
    pub can-put : IfSome r (λ (x : Route). CanPut now p x.path x.refusal a.root)
    can-put = by r is ready
      where
        by : (o : Option Route) → o ≡ device_route p a.mtu a.root → CanArrive (record { len = p.len; route = o }) (tree_seen a) → IfSome o (λ (x : Route). CanPut now p x.path x.refusal a.root)
        by None e h = tt
        by (Some x) e h =
            let on = reaches p a.mtu a.root x e in
            record {
              mtu = a.mtu;
              fits = (byte, on.short);
              lawful = lawful-root a k now later low;
              way = on.is;
              place = h.place;
              counts = record {
                packets = omega (arith, k.within.packets, h.packets);
                bytes = omega (arith, k.within.bytes, h.bytes);
              };
            }

    -- what is told is of losses alone, and what waits is the packet more and those less
    refusal-alone : AreLosses (Lost p TooLong ∷ [])
    refusal-alone = record {
      no_arrival = λ w. omega (arith, arrived-cons w (Lost p TooLong) [], arrived-nil w);
      nothing_sent = λ w. omega (arith, sent-cons w (Lost p TooLong) [], sent-nil w);
      nothing_marked = λ w. omega (arith, marked-cons w (Lost p TooLong) [], marked-nil w);
    }

    put-losses : (o : Option Route) → IfSome o (λ (x : Route). CanPut now p x.path x.refusal a.root) → AreLosses (put_on now p o (shape a.root)).rises
    put-losses None h = refusal-alone
    put-losses (Some x) h = are-losses now p x.path x.refusal a.root h

    put-shifted : (o : Option Route) → IfSome o (λ (x : Route). CanPut now p x.path x.refusal a.root)
        → IsShifted p (put_on now p o (shape a.root)).rises (beneath a.root) (beneath (booked kept a.root (put_on now p o (shape a.root)).node))
    put-shifted None h =
        let same = ap (λ (n : Node Kept). beneath n) (still a.root) in
        record {
          packets = omega (arith, lost-cons one (Lost p TooLong) [], lost-nil one, ap (λ (xs : List Descriptor). length xs) same);
          bytes = omega (arith, lost-cons bytes (Lost p TooLong) [], lost-nil bytes, ap (λ (xs : List Descriptor). (totals_in xs).bytes) same);
        }
    put-shifted (Some x) h = shifted now p x.path x.refusal a.root h

    -- the route from the shape is the same
    shape-route : device_route p a.mtu (shape a.root) ≡ r
    shape-route = ap (λ (x : Route). if nat_lt a.mtu p.len then None else Some x) (same-way p a.root) ∙ sym is

    pub work-is : (put_on now p (device_route p a.mtu (shape a.root)) (shape a.root)) ≡ put_on now p r (shape a.root)
    work-is = ap (λ (o : Option Route). put_on now p o (shape a.root)) shape-route

    pub loss-is : own_loss now p (tree_seen a).tree.device (shape a.root) ≡ loss_on now p r (shape a.root)
    loss-is = ap (λ (o : Option Route). loss_on now p o (shape a.root)) shape-route

    module _ (o : Outcome) (out : IsOutcome (loss_on now p r (shape a.root)) (put_on now p r (shape a.root)).rises o) where
      pub put-lost : IsLostOf p o a.top.queued
      put-lost =
          lost-of p (put_on now p r (shape a.root)).rises o (beneath a.root) (beneath (booked kept a.root (put_on now p r (shape a.root)).node))
          a.top.queued (outcome-weighs (loss_on now p r (shape a.root)) (put_on now p r (shape a.root)).rises o out)
          (put-shifted r can-put) k.queued

      module _ (row : Row) (row_is : row ≡ with_arrival p o a.top) (root : Node Kept)
          (new : root ≡ booked kept a.root (put_on now p r (shape a.root)).node) (b : Inside)
          (b_is : b ≡ record a { clock = now; top = row; root = root }) where
        pub put-tree : tree_seen b ≡ record { clock = now; tree = put kept now p (tree_seen a).tree }
        put-tree =
            let w : Work = put_on now p r (shape a.root) in
            let top : record { counts = counts_in_row row; places = 0 } ≡ noted kept (tree_seen a).tree.top (Arrived p ∷ w.rises) =
            ap (λ c. record { counts = c; places = 0 }) (ap counts_in_row row_is ∙ counted-arrival p (loss_on now p r (shape a.root)) w.rises o a.top (put-losses r can-put) out)
            ∙ sym (noted-kept (tree_seen a).tree.top (Arrived p ∷ w.rises)) in
            ap tree_seen b_is
            ∙ (λ i. record { clock = now; tree = record { device = (tree_seen a).tree.device; top = top i; root = new i } })
            ∙ ap (λ (x : Work). record { clock = now; tree = with_work kept (Arrived p ∷ x.rises) x.node (tree_seen a).tree }) (sym work-is)

        pub put-device : IsArrived p a.root root → IsKeptDevice b
        put-device counted = record {
          history = put history now p k.history;
          keeps = subst (λ n. IsKeptTree n (put history now p k.history)) (sym (ap (λ (y : Inside). y.clock) b_is)) (put-kept a.clock now k.history p k.keeps later low byte);
          same = ap (λ (d : DeviceState Kept). tree_numbers d.tree) put-tree ∙ put-stands kept totals (λ (m : Kept). m.counts) stands now p (tree_seen a).tree ∙ ap (put totals now p) k.same
              ∙ sym (put-stands history totals counts_in totals_for_history now p k.history);
          queued = subst (λ (y : Inside). y.top.queued ≡ totals_in (beneath y.root)) (sym b_is)
              (ap (λ (x : Row). x.queued) row_is
              ∙ queued-after p (put_on now p r (shape a.root)).rises o (beneath a.root) (beneath (booked kept a.root (put_on now p r (shape a.root)).node)) a.top
              (outcome-weighs (loss_on now p r (shape a.root)) (put_on now p r (shape a.root)).rises o out) (put-shifted r can-put) k.queued
              ∙ ap (λ (n : Node Kept). totals_in (beneath n)) (sym new));
          within = subst (λ (y : Inside). IsCountedWithin y.root.memory.counts.arrived y.top.arrived) (sym b_is)
              (subst (λ (t : Totals). IsCountedWithin root.memory.counts.arrived t) (sym (ap (λ (x : Row). x.arrived) row_is)) (elim counted [
                | inl more ↦ subst (λ (t : Totals). IsCountedWithin t (with_packet a.top.arrived p)) (sym more)
                    (record { packets = omega (arith, k.within.packets); bytes = omega (arith, k.within.bytes) })
                | inr same ↦ subst (λ (t : Totals). IsCountedWithin t (with_packet a.top.arrived p)) (sym same)
                    (record { packets = omega (arith, k.within.packets); bytes = omega (arith, k.within.bytes) })
              ]));
        }
