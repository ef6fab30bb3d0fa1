-- A node at which a packet has arrived: what its discipline came to, booked.
use Rattle.std.proofs.Common.{◌≡◌, ℕ, ◌≤◌, ◌∙◌, List, [], ◌∷◌, ◌++◌, length, refl, sym, ap, subst, Option, Some, None, option_and_then, arith}
use Rattle.std.specs.Prelude.{IfSome, slice_get}
use Rattle.std.specs.Option.{option_to_list}
use Rattle.std.specs.List.{flat_map}
use Rattle.std.proofs.lemmas.List.{length-append}
use Rattle.std.proofs.lemmas.Option.{same_Some}
use Rattle.q_packet.specs.Descriptor.{Descriptor}
use Rattle.q_packet.specs.declared.cause.Cause.{Cause}
use Rattle.q_codel.specs.Losses.{SinkState}
use Rattle.q_model.specs.declared.filter.Filter.{Filter}
use Rattle.q_model.specs.declared.row.Row.{Row}
use Rattle.q_model.specs.Beneath.{beneath, beneath_own, packets_in}
use Rattle.q_model.specs.Find.{node_at}
use Rattle.q_model.specs.Node.{Node, Shape, shape, side_by_side}
use Rattle.q_model.specs.Put.{put_along}
use Rattle.q_model.specs.Route.{Route, route}
use Rattle.q_model.specs.Tally.{Note}
use Rattle.q_invariants.specs.Kept.{IsLawfulRoot}
use Rattle.q_invariants.proofs.tree.Forests.{nodes-side, each-side, lawful-with_memory}
use Rattle.q_invariants.proofs.tree.Members.{All-at}
use Rattle.q_invariants.proofs.tree.Quiet.{child-lawful}
use Rattle.q_tree.specs.arrival.Arrivals.{CanPut, HasPlace, HasPlaceIn, IsLostOf, with_arrival}
use Rattle.q_tree.specs.arrival.ArriveSteps.{CanCome, CanComeIn, HasCome, HasComeIn, HasPlaceOn, IsPlaced, IsPlacedIn, IsPutOn, rises_along, way_in}
use Rattle.q_tree.specs.arrival.PutSteps.{IsPutInto, packets_beneath}
use Rattle.q_tree.specs.departure.AskSteps.{IsToldOf, packets_within}
use Rattle.q_tree.specs.Kept.{Kept}
use Rattle.q_tree.specs.Seen.{seen, discipline_seen, children_seen, IsKept, IsCountedWithin}
use Rattle.q_tree.specs.declared.node.Discipline.{Discipline}
use Rattle.q_tree.specs.declared.node.Node.TheInside.{Inside}
use Rattle.q_tree.specs.declared.arrival.outcome.Outcome.{Outcome}
use Rattle.q_tree.proofs.arrival.Arriving.{same-shape, same-route}
use Rattle.q_tree.proofs.arrival.PlacesLemmas.{kept-places, place-off, same-places, seen-places}
use Rattle.q_tree.proofs.arrival.Puts.{IsDone, can-flow, here-lost, here-at, here-rises, on-into, on-lost, on-at, on-rises}
use Rattle.q_tree.proofs.route.RouteLemmas.{way-from}
use Rattle.q_tree.proofs.TreeLemmas.{root-back}
use Rattle.q_tree.specs.departure.Holding.{packet_held, since_held}

pub lawful-placed : (mtu now : ℕ) (n m : Node Kept) → IsPlaced n m → IsLawfulRoot mtu now n → IsLawfulRoot mtu now m
lawful-placed mtu now n m h lawful = root-back mtu now (λ (k : Kept). k.counts) m (subst (IsLawfulRoot mtu now) (sym h.same) (lawful-with_memory mtu now (λ (k : Kept). k.counts) n lawful))

module _ (now : ℕ) (p : Descriptor) (a : Inside) (n : Node Kept) (k : IsKept a) (view : seen a ≡ n) (can : CanCome now p n) where
  kids : List (Node Kept)
  kids = children_seen a.discipline

  can-here : CanCome now p (seen a)
  can-here = subst (CanCome now p) (sym view) can

  pub can-come-in : CanComeIn now p a.discipline
  can-come-in =
      let h = can-here in
      record {
        flow = λ s e. can-flow now p a k h.mtu s e h.lawful.0 h.counts;
        child = λ i c at.
            let within = All-at (λ (child : Node Kept). IsCountedWithin child.memory.counts.arrived a.row.arrived) (children_seen a.discipline) i c k.within at in
            record {
              mtu = h.mtu;
              fits = h.fits;
              lawful = child-lawful h.mtu now (side_by_side (children_seen a.discipline)) i c h.lawful.1 (ap (λ xs. slice_get xs i) (nodes-side (children_seen a.discipline)) ∙ at);
              counts = record { packets = omega (arith, within.packets, h.counts.packets); bytes = omega (arith, within.bytes, h.counts.bytes) };
            };
      }

  module _ (filters : List Filter) (same : filters ≡ a.filters) where
    way-is : way_in p filters a.discipline ≡ route p n
    way-is = way-from p a n filters view same

    -- a place that is there for the node's route is there for the discipline's way
    pub place-within : ((route p n).refusal ≡ None → HasPlace (route p n).path n) → (way_in p filters a.discipline).refusal ≡ None → HasPlaceOn (way_in p filters a.discipline).path a.discipline
    place-within h none = subst (λ (w : Route). HasPlaceOn w.path a.discipline) (sym way-is) (by (route p n).path (h (ap (λ (w : Route). w.refusal) (sym way-is) ∙ none)))
      where
        by : (path : List ℕ) → HasPlace path n → HasPlaceOn path a.discipline
        by [] there = subst (λ (m : Node Kept). HasPlaceIn m.memory.places m.own.discipline) (sym view) there
        by (i ∷ rest) there = place-off i rest (i ∷ rest) a n view refl there

    module _ (d : Discipline) (o : Outcome) (sink sink2 : SinkState) (h : HasComeIn now p filters a.discipline d o sink sink2) where
      mid : Inside
      mid = record a { discipline = h.placed }

      pub is-placed : IsPlaced n (seen (record a { discipline = h.placed }))
      is-placed = record {
        same = same-places a h.placed h.is_placed.discipline h.is_placed.children n view;
        grows = seen-places a h.placed h.is_placed.places h.is_placed.grows n view;
      }

      kept-mid : IsKept (record a { discipline = h.placed })
      kept-mid = kept-places a h.placed h.is_placed.discipline h.is_placed.children k

      put-on : IsPutOn now p (route p n).refusal (route p n).path h.placed d o h.notes
      put-on = subst (λ (w : Route). IsPutOn now p w.refusal w.path h.placed d o h.notes) way-is h.put

      place-of : (path : List ℕ) (refusal : Option Cause) → IsPutOn now p refusal path h.placed d o h.notes → refusal ≡ None → HasPlace path (seen (record a { discipline = h.placed }))
      place-of [] refusal put none = put.place none
      place-of (i ∷ rest) refusal put none =
          subst (λ (x : Option (Node Kept)). IfSome (option_and_then (node_at rest) x)
          (λ (end : Node Kept). HasPlaceIn end.memory.places end.own.discipline))
          (sym (ap (λ xs. slice_get xs i) (nodes-side (children_seen h.placed)) ∙ put.there)) (put.place none)

      can-mid : CanPut now p (route p n).path (route p n).refusal (seen (record a { discipline = h.placed }))
      can-mid = record {
        mtu = can.mtu;
        fits = can.fits;
        lawful = lawful-placed can.mtu now n (seen (record a { discipline = h.placed })) is-placed can.lawful;
        way = same-route p n (seen (record a { discipline = h.placed })) is-placed.same;
        place = place-of (route p n).path (route p n).refusal put-on;
        counts = can-here.counts;
      }

      into : (i : ℕ) (rest : List ℕ) (refusal : Option Cause) → IsPutOn now p refusal (i ∷ rest) h.placed d o h.notes → (c : Node Kept)
          → slice_get (children_seen h.placed) i ≡ Some c → IsPutInto now p refusal rest i h.placed d c o
      into i rest refusal put c at = subst (λ (x : Node Kept). IsPutInto now p refusal rest i h.placed d x o) (same_Some put.child c (sym put.there ∙ at)) put.put

      lost-by : (path : List ℕ) (refusal : Option Cause) → IsPutOn now p refusal path h.placed d o h.notes
          → CanPut now p path refusal (seen (record a { discipline = h.placed })) → IsLostOf p o a.row.queued
      lost-by [] refusal put can2 = here-lost now p refusal (record a { discipline = h.placed }) (seen (record a { discipline = h.placed })) [] kept-mid refl can2 refl d o put.queued
      lost-by (i ∷ rest) refusal put can2 =
          on-lost now p refusal (record a { discipline = h.placed }) (seen (record a { discipline = h.placed })) (i ∷ rest) kept-mid refl can2 i rest
          refl d o (into i rest refusal put)

      pub come-lost : IsLostOf p o a.row.queued
      come-lost = lost-by (route p n).path (route p n).refusal put-on can-mid

      rises-by : (path : List ℕ) (refusal : Option Cause) → IsPutOn now p refusal path h.placed d o h.notes → CanPut now p path refusal (seen (record a { discipline = h.placed }))
          → h.notes ≡ (put_along now p refusal path (shape (seen (record a { discipline = h.placed })))).rises
      rises-by [] refusal put can2 = put.notes_are ∙ sym (here-rises now p refusal (record a { discipline = h.placed }) (seen (record a { discipline = h.placed })) [] kept-mid refl can2 refl)
      rises-by (i ∷ rest) refusal put can2 =
          let m : Node Kept = seen (record a { discipline = h.placed }) in
          let on = on-into now p refusal (record a { discipline = h.placed }) m (i ∷ rest) kept-mid refl can2 i rest refl in
          put.notes_are
          ∙ ap (λ (c : Node Kept). (put_along now p refusal rest (shape c)).rises) (same_Some put.child on.child (sym put.there ∙ on.there))
          ∙ sym (on-rises now p refusal (record a { discipline = h.placed }) m (i ∷ rest) kept-mid refl can2 i rest refl)

      pub come-told : IsToldOf (rises_along now p n) sink sink2
      come-told = subst (λ (notes : List Note). IsToldOf notes sink sink2)
          (rises-by (route p n).path (route p n).refusal put-on can-mid
          ∙ ap (λ (s : Shape). (put_along now p (route p n).refusal (route p n).path s).rises) (same-shape n (seen (record a { discipline = h.placed })) is-placed.same)) h.told

      module _ (row : Row) (row_is : row ≡ with_arrival p o a.row) where
        done-by : (path : List ℕ) (refusal : Option Cause) → IsPutOn now p refusal path h.placed d o h.notes → CanPut now p path refusal (seen (record a { discipline = h.placed }))
            → IsDone now p path refusal (seen (record a { discipline = h.placed })) (record a { row = row; discipline = d }) o
        done-by [] refusal put can2 = here-at now p refusal (record a { discipline = h.placed }) (seen (record a { discipline = h.placed })) [] kept-mid refl can2 refl d row o put.queued row_is
        done-by (i ∷ rest) refusal put can2 =
            on-at now p refusal (record a { discipline = h.placed }) (seen (record a { discipline = h.placed })) (i ∷ rest) kept-mid refl can2 i rest
            refl d row o (into i rest refusal put) row_is

        come-done : IsDone now p (route p n).path (route p n).refusal (seen (record a { discipline = h.placed })) (record a { row = row; discipline = d }) o
        come-done = done-by (route p n).path (route p n).refusal put-on can-mid

        pub come-kept : IsKept (record a { row = row; discipline = d })
        come-kept = come-done.stays

        pub come-after : HasCome now p n (seen (record a { row = row; discipline = d })) o
        come-after = record {
          placed = seen (record a { discipline = h.placed });
          is_placed = is-placed;
          can = can-mid;
          becomes = come-done.after;
          arrived = ap (λ (x : Row). x.arrived) row_is;
          outcome = come-done.outcome;
          in_place = λ there.
              let same = h.in_place (place-within there) in
              (λ j. record {
                own = record { handle = a.handle; discipline = h.is_placed.discipline j; held = packet_held a.held; since = since_held a.held; filters = a.filters };
                memory = record { counts = (seen a).memory.counts; places = same.places j };
                below = side_by_side (same.children j);
              })
              ∙ view;
        }

-- where memory was refused beneath it
module _ (a : Inside) (n : Node Kept) (k : IsKept a) (view : seen a ≡ n) (d : Discipline) (h : IsPlacedIn a.discipline d) where
  pub placed-kept : IsKept (record a { discipline = d })
  placed-kept = kept-places a d h.discipline h.children k

  pub placed-after : IsPlaced n (seen (record a { discipline = d }))
  placed-after = record { same = same-places a d h.discipline h.children n view; grows = seen-places a d h.places h.grows n view }

-- the room that the losses beneath it need
pub within-room : (a : Inside) (n : Node Kept) → seen a ≡ n → length (packets_within a.discipline) ≤ length (beneath n)
within-room a n view =
    let own : List Descriptor = packets_in (discipline_seen a.discipline) in
    let deep : List Descriptor = packets_beneath (children_seen a.discipline) in
    let held : List Descriptor = option_to_list (packet_held a.held) in
    let waiting : beneath (seen a) ≡ held ++ own ++ deep = ap (λ (bs : List (List Descriptor)). held ++ own ++ flat_map (λ packets. packets) bs) (each-side beneath_own (children_seen a.discipline)) in
    omega (arith, ap (λ (xs : List Descriptor). length xs) waiting, ap (λ (m : Node Kept). length (beneath m)) view, length-append (held ++ own) deep, length-append held own, length-append own deep)
