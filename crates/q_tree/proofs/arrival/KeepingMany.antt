-- Packets that are kept one after another with nothing lost and no place made, at a node that counts them together, and in a tree.
use Rattle.std.proofs.Common.{inl, ◌≡◌, ℕ, ◌+◌, ◌*◌, ◌<◌, ◌≤◌, ◌^◌, ◌∙◌, List, [], ◌∷◌, ◌++◌, length, refl, sym, ap, ap₂, map, subst, Option, Some, None, arith}
use Rattle.std.specs.Prelude.{Bool, IfSome, take, if◌then◌else◌}
use Rattle.std.proofs.lemmas.List.Sums.{sum_by-cons, sum_by_push}
use Rattle.std.specs.List.{AllByRecursion}
use Rattle.q_packet.specs.Descriptor.{Descriptor}
use Rattle.q_model.specs.declared.reply.Reply.TheVariants as reply
use Rattle.q_model.specs.declared.totals.Totals.{Totals}
use Rattle.q_model.specs.Beneath.{beneath_own, totals_in}
use Rattle.q_model.specs.Node.{Node, shape}
use Rattle.q_model.specs.Numbers.{IsWithin}
use Rattle.q_model.specs.Put.{put_along}
use Rattle.q_model.specs.Route.{Route, route, device_route}
use Rattle.q_model.specs.Step.{DeviceState, arrive, fate_of}
use Rattle.q_model.specs.TreeState.{put_on}
use Rattle.q_model.specs.Work.{booked}
use Rattle.q_invariants.specs.Kept.{IsLawfulRoot}
use Rattle.q_invariants.proofs.tree.Forests.{lawful-with_memory}
use Rattle.q_model.specs.Lawful.{IsLawfulOwn}
use Rattle.q_invariants.proofs.put.Puts.{along-put}
use Rattle.q_invariants.proofs.sums.Told.{IsRootTold, booked-lawful, each-booked, root-memory}
use Rattle.q_tree.specs.arrival.Arrivals.{CanCount, HasPlace, with_arrival}
use Rattle.q_tree.specs.arrival.ArriveSteps.{CanCome, HasComeBelow, nothing_lost}
use Rattle.q_tree.specs.arrival.KeepSteps.{AreKeptAlong, AreKeptBelow, IsKeptAlong, IsKeptIn, no_sink}
use Rattle.q_tree.specs.Bursts.{AreKept, arrived_each, with_arrivals}
use Rattle.q_tree.specs.departure.AskSteps.{IsToldOf}
use Rattle.q_tree.specs.Kept.{Kept, kept}
use Rattle.q_tree.specs.route.RouteSeen.{route_seen}
use Rattle.q_tree.specs.Seen.{IsKept, seen}
use Rattle.q_tree.specs.TreeSeen.{CanArrive, IsIndexedDevice, tree_seen}
use Rattle.q_tree.specs.declared.node.Discipline.{Discipline}
use Rattle.q_tree.specs.declared.node.Node.TheInside as node
use Rattle.q_tree.specs.declared.tree.Tree.TheInside.{Inside}
use Rattle.q_tree.proofs.arrival.Arriving.{lt-false}
use Rattle.q_tree.proofs.arrival.BurstArrivals.{IsBurst, IsLong, row-after, row-both, row-none, row-one}
use Rattle.q_tree.proofs.arrival.Keeping.{kept-node, kept-up, same-kept, same-node}
use Rattle.q_tree.specs.arrival.KeepSteps.{IsKeeping}
use Rattle.q_tree.specs.commands.DisciplineChanges.{IsUnchanged}
use Rattle.q_packet.specs.Stored.{descriptor}
use Rattle.q_packet.specs.declared.stored_packet.StoredPacket.{StoredPacket}
use Rattle.q_codel.specs.Bursts.{HasWidths}
use Rattle.q_model.specs.declared.filter.Filter.{Filter}
use Rattle.std.proofs.lemmas.List.{length-append}
use Rattle.q_tree.proofs.arrival.Puts.{same-way}
use Rattle.q_tree.proofs.arrival.TreeArrivals.{told-tree, tree-exact, tree-indexed, tree-loss}

-- ---- a node

-- it stays lawful
pub lawful-kept : (now mtu : ℕ) (p : Descriptor) (n m : Node Kept) → IsWithin 1 mtu p.len → IsLawfulRoot mtu now n → IsKeptAlong now p n m → IsLawfulRoot mtu now m
lawful-kept now mtu p n m fits lawful h =
    let stays : h.come.placed ≡ n = h.come.in_place (λ none. h.place) in
    let r : Route = route p n in
    let w = (put_along now p r.refusal r.path (shape n)).node in
    let put = along-put mtu now (omega (arith, fits.0, fits.1)) p fits r.path r.refusal (shape n) (same-way p n) (lawful-with_memory mtu now (λ m. tt) n lawful) in
    let told : IsRootTold n w = root-memory (λ m. tt) n w (root-memory (λ u. []) (shape n) w put.told) in
    subst (IsLawfulRoot mtu now) (ap (λ (x : Node Kept). booked kept x (put_along now p r.refusal r.path (shape x)).node) (sym stays) ∙ sym h.come.becomes) (
      subst (IsLawfulOwn mtu now w.own) (sym (each-booked kept beneath_own n.below w.below told.2)) put.lawful.0,
      booked-lawful kept mtu now n.below w.below told.2 put.lawful.1,
    )

-- one more of them
pub along-more : (now : ℕ) (ps : List Descriptor) (p : Descriptor) (n m k : Node Kept) → AreKeptAlong now ps n m → IsKeptAlong now p m k → AreKeptAlong now (ps ++ p ∷ []) n k
along-more now [] p n m k h one = (k, subst (λ (x : Node Kept). IsKeptAlong now p x k) h one, refl)
along-more now (q ∷ ps) p n m k h one = (h.0, h.1, along-more now ps p h.0 m k h.2 one)

module _ (now mtu : ℕ) (a : node.Inside) where
  abbrev at : List Descriptor → Discipline → node.Inside
  at ps d = record a { row = with_arrivals (totals_in ps) a.row; discipline = d }

  row-more : (ps : List Descriptor) (p : Descriptor) → with_arrival p nothing_lost (with_arrivals (totals_in ps) a.row) ≡ with_arrivals (totals_in (ps ++ p ∷ [])) a.row
  row-more ps p = sym (row-one (with_arrivals (totals_in ps) a.row) p) ∙ row-after ps (p ∷ []) a.row

  pub below-begins : IsKept a → IsLawfulRoot mtu now (seen a) → AreKeptBelow now mtu [] a a.discipline
  below-begins k lawful =
      let same : at [] a.discipline ≡ a = λ i. record a { row = row-none a.row i } in
      record {
        lawful = subst (λ (x : node.Inside). IsLawfulRoot mtu now (seen x)) (sym same) lawful;
        kept = subst IsKept (sym same) k;
        along = ap seen same;
      }

  pub can-next : (ps : List Descriptor) (d : Discipline) (p : Descriptor) → AreKeptBelow now mtu ps a d → IsWithin 1 mtu p.len
      → CanCount (with_arrivals (totals_in ps) a.row).arrived p → CanCome now p (seen (at ps d))
  can-next ps d p h fits room = record { mtu = mtu; fits = fits; lawful = h.lawful; counts = room }

  pub below-more : (ps : List Descriptor) (d : Discipline) (p : Descriptor) (h : AreKeptBelow now mtu ps a d) → IsWithin 1 mtu p.len
      → CanCount (with_arrivals (totals_in ps) a.row).arrived p → (e : Discipline) → IsKeptIn now p a.filters d e
      → AreKeptBelow now mtu (ps ++ p ∷ []) a e
  below-more ps d p h fits room e step =
      let can = can-next ps d p h fits room in
      let row = sym (row-more ps p) in
      let one : IsKeptAlong now p (seen (at ps d)) (seen (at (ps ++ p ∷ []) e)) = kept-up now p (at ps d) (seen (at ps d)) h.kept refl can a.filters refl e step (with_arrivals (totals_in (ps ++ p ∷ [])) a.row) row in
      record {
        lawful = lawful-kept now mtu p (seen (at ps d)) (seen (at (ps ++ p ∷ []) e)) fits h.lawful one;
        kept = kept-node now p (at ps d) (seen (at ps d)) h.kept refl can a.filters refl e step (with_arrivals (totals_in (ps ++ p ∷ [])) a.row) row;
        along = along-more now ps p (seen a) (seen (at ps d)) (seen (at (ps ++ p ∷ []) e)) h.along one;
      }

  -- where the next one is not kept
  pub below-same : (ps : List Descriptor) (d e : Discipline) → AreKeptBelow now mtu ps a d → IsUnchanged d e → AreKeptBelow now mtu ps a e
  below-same ps d e h same =
      let stays : seen (at ps e) ≡ seen (at ps d) = same-node (at ps d) (seen (at ps d)) refl e same in
      record {
        lawful = subst (IsLawfulRoot mtu now) (sym stays) h.lawful;
        kept = same-kept (at ps d) (seen (at ps d)) refl e same h.kept;
        along = subst (λ (n : Node Kept). AreKeptAlong now ps (seen a) n) (sym stays) h.along;
      }

-- ---- in a discipline

-- the packet after those that were kept
pub next-fits : (now mtu i : ℕ) (a : node.Inside) (packets : List StoredPacket) (filters : List Filter) (d : Discipline) (c : StoredPacket) (bytes : ℕ)
    → IsKeeping now mtu (length packets) filters d a → i < length packets → HasWidths c → bytes ≤ i * 65535
    → record { packets = i; bytes = bytes } ≡ totals_in (map descriptor (take i packets))
    → CanCount (with_arrivals (totals_in (map descriptor (take i packets))) a.row).arrived (descriptor c)
next-fits now mtu i a packets filters d c bytes is within widths few sums = record {
  packets = omega (arith, is.can.packets, within, ap (λ (t : Totals). t.packets) sums);
  bytes = omega (arith, is.can.bytes, within, widths.len, few, ap (λ (t : Totals). t.bytes) sums);
}

pub totals-more : (ps : List Descriptor) (p : Descriptor) (n b : ℕ) → record { packets = n; bytes = b } ≡ totals_in ps → record { packets = n + 1; bytes = b + p.len } ≡ totals_in (ps ++ p ∷ [])
totals-more ps p n b e =
    ap₂ (λ (x y : ℕ). record { packets = x; bytes = y }) (omega (arith, ap (λ (t : Totals). t.packets) e, length-append ps (p ∷ [])))
    (omega (arith, ap (λ (t : Totals). t.bytes) e, sum_by_push (λ (x : Descriptor). x.len) ps p))

-- ---- the tree

-- one of them has come below the device
pub come-below : (now mtu : ℕ) (p : Descriptor) (n m : Node Kept) → p.len ≤ mtu → IsKeptAlong now p n m → HasComeBelow now p (device_route p mtu n) n m nothing_lost
come-below now mtu p n m short h =
    let to : Some (route p n) ≡ device_route p mtu n = sym (ap (λ (b : Bool). if b then None else Some (route p n)) (lt-false mtu p.len short)) in
    subst (λ (r : Option Route). HasComeBelow now p r n m nothing_lost) to (record {
      placed = h.come.placed;
      is_placed = h.come.is_placed;
      place = h.come.can.place;
      becomes = h.come.becomes;
      arrived = inl h.come.arrived;
      outcome = h.come.outcome;
      in_place = λ there. h.come.in_place there;
    })

place-below : (now mtu : ℕ) (p : Descriptor) (n m : Node Kept) → p.len ≤ mtu → IsKeptAlong now p n m → IfSome (device_route p mtu n) (λ (way : Route). way.refusal ≡ None → HasPlace way.path n)
place-below now mtu p n m short h =
    let to : Some (route p n) ≡ device_route p mtu n = sym (ap (λ (b : Bool). if b then None else Some (route p n)) (lt-false mtu p.len short)) in
    subst (λ (r : Option Route). IfSome r (λ (way : Route). way.refusal ≡ None → HasPlace way.path n)) to (λ none. h.place)

told-below : (now mtu : ℕ) (p : Descriptor) (n m : Node Kept) → p.len ≤ mtu → IsKeptAlong now p n m → IsToldOf (put_on now p (device_route p mtu n) (shape n)).rises no_sink no_sink
told-below now mtu p n m short h =
    let to : Some (route p n) ≡ device_route p mtu n = sym (ap (λ (b : Bool). if b then None else Some (route p n)) (lt-false mtu p.len short)) in
    subst (λ (r : Option Route). IsToldOf (put_on now p r (shape n)).rises no_sink no_sink) to h.told

-- the tree once they have come
abbrev pub ended : ℕ → List Descriptor → Inside → Node Kept → Inside
ended now [] a m = record a { root = m }
ended now (p ∷ ps) a m = record a { clock = now; top = with_arrivals (totals_in (p ∷ ps)) a.top; root = m }

pub ended-some : (now : ℕ) (ps : List Descriptor) (a : Inside) (m : Node Kept) → 1 ≤ length ps → ended now ps a m ≡ record a { clock = now; top = with_arrivals (totals_in ps) a.top; root = m }
ended-some now [] a m some = absurd (omega (arith, some))
ended-some now (p ∷ ps) a m some = refl

abbrev one : ℕ → Descriptor → Inside → Node Kept → Inside
one now p a m = record a { clock = now; top = with_arrivals (totals_in (p ∷ [])) a.top; root = m }

ended-more : (now : ℕ) (p : Descriptor) (ps : List Descriptor) (a : Inside) (x m : Node Kept) → ended now ps (one now p a x) m ≡ ended now (p ∷ ps) a m
ended-more now p [] a x m = refl
ended-more now p (q ∷ qs) a x m = λ i. record a { clock = now; top = row-both p (q ∷ qs) a.top i; root = m }

pub burst-along : (now : ℕ) (ps : List Descriptor) (a : Inside) (m : Node Kept) → IsIndexedDevice a → a.clock ≤ now → now ≤ 2 ^ 62 → AllByRecursion (IsLong a.mtu) ps
    → a.top.arrived.packets + length ps < 2 ^ 64 → a.top.arrived.bytes + (totals_in ps).bytes < 2 ^ 64 → AreKeptAlong now ps a.root m → IsBurst now ps a (ended now ps a m)
burst-along now [] a m k later low long packets bytes h =
    let same : record a { root = m } ≡ a = λ i. record a { root = h i } in
    record { indexed = subst IsIndexedDevice (sym same) k; after = ap tree_seen same; each = tt }
burst-along now (p ∷ ps) a m k later low long packets bytes h =
    let sums = sum_by-cons (λ (x : Descriptor). x.len) p ps in
    let count : CanCount a.top.arrived p = record { packets = omega (arith, packets); bytes = omega (arith, bytes, sums) } in
    let x : Node Kept = h.0 in
    let come = come-below now a.mtu p a.root x long.0.1 h.1 in
    let row = row-one a.top p in
    let can : CanArrive (route_seen p a.mtu a.root) (tree_seen a) = record { place = place-below now a.mtu p a.root x long.0.1 h.1; packets = count.packets; bytes = count.bytes } in
    let b : Inside = one now p a x in
    let first : tree_seen b ≡ (arrive kept p now (tree_seen a)).device = tree-exact a k now p later low long.0.0 count nothing_lost x come b.top row can in
    let rest = burst-along now ps b m (tree-indexed a k now p later low long.0.0 count nothing_lost x come b.top row) (omega arith) low long.1
    (omega (arith, packets)) (omega (arith, bytes, sums)) h.2 in
    subst (IsBurst now (p ∷ ps) a) (ended-more now p ps a x m) (record {
      indexed = rest.indexed;
      after = rest.after ∙ ap (λ (d : DeviceState Kept). arrived_each kept now ps d) first;
      each = (
        record {
          fate = ap (λ c. reply.Fate (fate_of c)) (sym (tree-loss a k now p later low long.0.0 count nothing_lost x come));
          losses = sym (told-tree a k now p later low long.0.0 count no_sink no_sink (told-below now a.mtu p a.root x long.0.1 h.1)).lost;
        },
        subst (λ (d : DeviceState Kept). AreKept kept now ps d) first rest.each,
      );
    })
