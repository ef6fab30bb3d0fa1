-- A packet that arrives at a node: what a discipline makes of it, and what the node then is.
use Rattle.std.proofs.Common.{◌≡◌, ℕ, ◌≤◌, ◌<◌, ◌-◌, ◌∙◌, Result, Ok, Err, List, [], ◌∷◌, ◌++◌, map, set, length, refl, sym, ap, subst, Option, Some, None, option_map, option_and_then, arith}
use Rattle.std.specs.Prelude.{Bool, true, false, IfOk, IfSome, OnErr, OnOk, if◌then◌else◌, slice_get, slice_index, slice_index_or, nat_lt}
use Rattle.std.specs.Option.{option_map_or}
use Rattle.std.proofs.lemmas.Bool.{ltb-false, ltb-true}
use Rattle.std.proofs.lemmas.List.{set-set}
use Rattle.std.proofs.lemmas.Option.{slice_get-map, slice_get_read}
use Rattle.std.specs.declared.alloc.AllocError.{AllocError}
use Rattle.q_packet.specs.Cause.{is_refusal}
use Rattle.q_packet.specs.Descriptor.{Descriptor}
use Rattle.q_packet.specs.declared.cause.Cause.{Cause}
use Rattle.q_packet.specs.declared.cause.Cause.TheVariants.{NoClass, OverLimit, TooLong}
use Rattle.q_bucket.specs.Level.{TokenBucket}
use Rattle.q_drr.specs.Schedule as drr
use Rattle.q_drr.specs.Schedule.{Schedule}
use Rattle.q_codel.specs.FifoState.{FifoState, takes}
use Rattle.q_codel.specs.Losses.{IsTold, SinkState}
use Rattle.q_codel.proofs.SinkLemmas.{told_nothing}
use Rattle.q_fqcodel.specs.FqState.{FqState, packets_of}
use Rattle.q_model.specs.declared.filter.Filter.{Filter}
use Rattle.q_model.specs.Beneath.{is_empty}
use Rattle.q_model.specs.Filters.{named_class}
use Rattle.q_model.specs.Find.{node_at}
use Rattle.q_model.specs.Node as spec
use Rattle.q_model.specs.Node.{Own, Node, Shape, shape}
use Rattle.q_model.specs.Put.{put_along}
use Rattle.q_model.specs.Route.{Route, route, way, ends, refused, through, class_at}
use Rattle.q_model.specs.Tally.{Note, Lost, Counts, counted, no_counts, no_totals, with_packet}
use Rattle.q_model.specs.Work.{settled_in}
use Rattle.q_model.proofs.ShrinkLemmas.{each-each_memory, shape-with_memory}
use Rattle.q_tree.specs.arrival.Arrivals.{HasPlace, HasPlaceIn}
use Rattle.q_tree.specs.arrival.ArriveSteps.{HasArrived, HasCome, HasComeIn, HasPlaceOn, IsAsPlaced, IsPlaced, IsPlacedIn, IsPutOn, rises_along, way_in, IsPutInFlow}
use Rattle.q_tree.specs.arrival.Places.{unplaced, places_under}
use Rattle.q_tree.specs.arrival.PutSteps.{IsQueued, rises_here}
use Rattle.q_tree.specs.departure.AskSteps.{IsToldOf, own_of}
use Rattle.q_tree.specs.Kept.{Kept}
use Rattle.q_tree.specs.route.Ahead.{ways}
use Rattle.q_tree.specs.Seen.{discipline_seen, children_seen, places_seen}
use Rattle.q_tree.specs.declared.node.Discipline.{Discipline}
use Rattle.q_tree.specs.declared.node.Discipline.TheVariants as code
use Rattle.q_tree.specs.declared.arrival.outcome.Outcome.{Outcome}
use Rattle.q_tree.proofs.arrival.PlacesLemmas.{set-back, set-places, set-there, set-unplaced}
use Rattle.q_tree.proofs.disciplines.HereLemmas.{queued-flow, told-here}

-- ---- places

pub nothing-placed : (d : Discipline) → IsPlacedIn d d
nothing-placed d = record { discipline = refl; children = refl; places = omega arith; grows = λ way i. omega arith }

-- one of the children was given places
pub placed-at : (before after : Discipline) (ns : List (Node Kept)) (i : ℕ) (x x2 : Node Kept) → children_seen before ≡ ns → x ≡ slice_index_or ns i x
    → IsPlaced x x2 → children_seen after ≡ set ns i x2
    → discipline_seen after ≡ discipline_seen before → places_seen after ≡ places_seen before → IsPlacedIn before after
placed-at before after ns i x x2 kids is h kids2 same places = record {
  discipline = same;
  children = ap (map unplaced) kids2 ∙ set-unplaced ns i x x2 is h.same ∙ ap (map unplaced) (sym kids);
  places = omega (arith, places);
  grows = λ way j.
      subst (λ xs. places_under way j xs ≤ places_under way j (children_seen after)) (sym kids)
      (subst (λ ys. places_under way j ns ≤ places_under way j ys) (sym kids2) (set-places ns i x x2 is h.grows way j));
}

-- neither the shape nor the route looks at places
pub same-shape : (n m : Node Kept) → unplaced m ≡ unplaced n → shape m ≡ shape n
same-shape n m e = sym (shape-with_memory (λ (k : Kept). k.counts) m) ∙ ap (λ (x : Node Counts). shape x) e ∙ shape-with_memory (λ (k : Kept). k.counts) n

pub same-route : (p : Descriptor) (n m : Node Kept) → unplaced m ≡ unplaced n → route p m ≡ route p n
same-route p n m e =
    let step : Own → List Route → Route = λ own below. way p own below own.discipline in
    let bare : (x : Node Kept) → route p (unplaced x) ≡ route p x = λ x. ap (step x.own) (each-each_memory step (λ (k : Kept). k.counts) x.below) in
    sym (bare m) ∙ ap (λ (x : Node Counts). route p x) e ∙ bare n

-- ---- where the way ends

-- in a refusal
pub refusal-counted : (p : Descriptor) (cause : Cause) → is_refusal cause ≡ true → counted no_counts (Lost p cause) ≡ record no_counts { refused = with_packet no_totals p }
refusal-counted p cause e = ap (λ b. if b then record no_counts { refused = with_packet no_totals p } else record no_counts { dropped = with_packet no_totals p }) e

pub refused-in : (now : ℕ) (p : Descriptor) (cause : Cause) (filters : List Filter) (d : Discipline) (o : Outcome) (sink sink2 : SinkState)
    → is_refusal cause ≡ true → way_in p filters d ≡ refused cause
    → (q : Descriptor) → q ≡ p → o ≡ record { loss = Some cause; refused = with_packet no_totals q; dropped = no_totals } → IsTold (record { packet = q; cause = cause } ∷ []) sink sink2
    → HasComeIn now p filters d d o sink sink2
refused-in now p cause filters d o sink sink2 refusal way q same is told = record {
  placed = d;
  is_placed = nothing-placed d;
  notes = Lost p cause ∷ [];
  put = subst (λ (w : Route). IsPutOn now p w.refusal w.path d d o (Lost p cause ∷ [])) (sym way) (record {
    place = λ none. cc;
    queued = record {
      discipline = refl;
      children = refl;
      places = refl;
      outcome = record {
        loss = ap (λ (x : Outcome). x.loss) is;
        refused = ap (λ (x : Outcome). x.refused) is ∙ ap (with_packet no_totals) same ∙ sym (ap (λ (c : Counts). c.refused) (refusal-counted p cause refusal));
        dropped = ap (λ (x : Outcome). x.dropped) is ∙ sym (ap (λ (c : Counts). c.dropped) (refusal-counted p cause refusal));
      };
    };
    notes_are = refl;
  });
  told = subst (λ (x : Descriptor). IsTold (record { packet = x; cause = cause } ∷ []) sink sink2) same told;
  in_place = λ there. record { children = refl; places = refl };
}

-- in an fq_codel
pub queued-in-flows : (now : ℕ) (p : Descriptor) (filters : List Filter) (before placed after : Discipline) (s : FqState) (o : Outcome)
    (notes : List Note) (sink sink2 : SinkState)
    → discipline_seen before ≡ spec.FqCodel s
    → IsPlacedIn before placed → HasPlaceIn (places_seen placed) (discipline_seen placed) → IsQueued now p None placed after o → notes ≡ rises_here now p None (discipline_seen placed)
    → IsToldOf notes sink sink2
    → (((way_in p filters before).refusal ≡ None → HasPlaceOn (way_in p filters before).path before) → IsAsPlaced before placed)
    → HasComeIn now p filters before after o sink sink2
queued-in-flows now p filters before placed after s o notes sink sink2 is h room queued are told stays = record {
  placed = placed;
  is_placed = h;
  notes = notes;
  put =
      subst (λ (w : Route). IsPutOn now p w.refusal w.path placed after o notes)
      (sym (ap (λ d. way p (own_of None filters d) (ways p (children_seen before)) d) is))
      (record { place = λ none. room; queued = queued; notes_are = are });
  told = told;
  in_place = stays;
}

-- ---- where it goes on

pub through-at : (p : Descriptor) (ns : List (Node Kept)) (i : ℕ) (x : Node Kept) → slice_get ns i ≡ Some x
    → through (ways p ns) i ≡ record { path = i ∷ (route p x).path; refusal = (route p x).refusal }
through-at p ns i x e = ap (λ (o : Option Route). option_map_or (λ (r : Route). record r { path = i ∷ r.path }) o (refused NoClass)) (slice_get-map (route p) ns i ∙ ap (option_map (route p)) e)

pub through-past : (p : Descriptor) (ns : List (Node Kept)) (i : ℕ) → slice_get ns i ≡ None → through (ways p ns) i ≡ refused NoClass
through-past p ns i e = ap (λ (o : Option Route). option_map_or (λ (r : Route). record r { path = i ∷ r.path }) o (refused NoClass)) (slice_get-map (route p) ns i ∙ ap (option_map (route p)) e)

module _ (now : ℕ) (p : Descriptor) (filters : List Filter) (before placed after : Discipline) (ns : List (Node Kept)) (i : ℕ) (x x2 : Node Kept)
    (o : Outcome) (kids : children_seen before ≡ ns) (inside : i < length ns)
    (is : x ≡ slice_index_or ns i x) (to : way_in p filters before ≡ through (ways p ns) i) where
  on : slice_get ns i ≡ Some x
  on = slice_get_read ns (length ns) i x refl inside is

  -- the place that is there for the discipline's way is there for the child's
  pub place-below : ((way_in p filters before).refusal ≡ None → HasPlaceOn (way_in p filters before).path before) → (route p x).refusal ≡ None → HasPlace (route p x).path x
  place-below h none =
      let w : way_in p filters before ≡ record { path = i ∷ (route p x).path; refusal = (route p x).refusal } = to ∙ through-at p ns i x on in
      let there : HasPlaceOn (i ∷ (route p x).path) before = subst (λ (v : Route). HasPlaceOn v.path before) w (h (ap (λ (v : Route). v.refusal) w ∙ none)) in
      subst (λ (y : Option (Node Kept)). IfSome (option_and_then (node_at (route p x).path) y)
      (λ (end : Node Kept). HasPlaceIn end.memory.places end.own.discipline)) (ap (λ xs. slice_get xs i) kids ∙ on) there

  pub gone-in : (h : HasCome now p x x2 o) → children_seen placed ≡ set ns i h.placed → discipline_seen placed ≡ discipline_seen before
      → places_seen placed ≡ places_seen before → children_seen after ≡ set ns i x2
      → places_seen after ≡ places_seen before → discipline_seen after ≡ settled_in i (is_empty (put_along now p (route p x).refusal (route p x).path (shape h.placed)).node) (discipline_seen before)
      → (sink sink2 : SinkState) → IsToldOf (rises_along now p x) sink sink2 → HasComeIn now p filters before after o sink sink2
  gone-in h kids2 same2 places2 kids3 places3 settled sink sink2 told =
      let there : slice_get (children_seen placed) i ≡ Some h.placed = ap (λ xs. slice_get xs i) kids2 ∙ set-there ns i h.placed inside in
      record {
        placed = placed;
        is_placed = placed-at before placed ns i x h.placed kids is h.is_placed kids2 same2 places2;
        notes = rises_along now p x;
        put = subst (λ (w : Route). IsPutOn now p w.refusal w.path placed after o (rises_along now p x)) (sym (to ∙ through-at p ns i x on)) (record {
          child = h.placed;
          there = there;
          place = h.can.place;
          put = record {
            children = kids3 ∙ sym (ap (λ xs. set xs i x2) kids2 ∙ set-set ns i h.placed x2) ∙ ap (set (children_seen placed) i) h.becomes;
            discipline = settled ∙ ap (settled_in i (is_empty (put_along now p (route p x).refusal (route p x).path (shape h.placed)).node)) (sym same2);
            arrived = sym (ap (λ (n : Node Kept). n.memory.counts.arrived) h.becomes) ∙ h.arrived;
            places = places3 ∙ sym places2;
            outcome = h.outcome;
          };
          notes_are = ap (λ (s : Shape). (put_along now p (route p x).refusal (route p x).path s).rises) (sym (same-shape x h.placed h.is_placed.same));
        });
        told = told;
        in_place = λ place. record {
          children = kids2 ∙ ap (set ns i) (h.in_place (place-below place)) ∙ set-back ns i x is ∙ sym kids;
          places = places2;
        };
      }

-- ---- by what the discipline is

module _ (p : Descriptor) (filters : List Filter) (d : Discipline) where
  pub fifo-place : (f : FifoState) → d ≡ code.Fifo f → ((way_in p filters d).refusal ≡ None → HasPlaceOn (way_in p filters d).path d)
      → takes f.limit f.packets p.len ≡ true → length f.packets < f.places
  fifo-place f is h fits =
      let w : way_in p filters d ≡ ends = ap (way_in p filters) is ∙ ap (λ b. if b then ends else refused OverLimit) fits in
      subst (λ (x : Discipline). HasPlaceOn [] x) is (subst (λ (v : Route). HasPlaceOn v.path d) w (h (ap (λ (v : Route). v.refusal) w)))

  pub flows-place : (s : FqState) (places : ℕ) → discipline_seen d ≡ spec.FqCodel s → places_seen d ≡ places
      → ((way_in p filters d).refusal ≡ None → HasPlaceOn (way_in p filters d).path d) → packets_of s.flows < places
  flows-place s places is same h =
      let w : way_in p filters d ≡ ends = ap (λ (x : spec.Discipline). way p (own_of None filters x) (ways p (children_seen d)) x) is in
      subst (λ (x : spec.Discipline). HasPlaceIn places x) is
      (subst (λ n. HasPlaceIn n (discipline_seen d)) same (subst (λ (v : Route). HasPlaceOn v.path d) w (h (ap (λ (v : Route). v.refusal) w))))

  pub prio-way : (priomap : List ℕ) (ns : List (Node Kept)) (k : ℕ) → discipline_seen d ≡ spec.Prio priomap → children_seen d ≡ ns
      → k ≡ option_map_or (λ minor. minor - 1) (named_class filters p) (slice_index priomap p.prio)
      → way_in p filters d ≡ through (ways p ns) k
  prio-way priomap ns k is kids at =
      ap (λ (x : spec.Discipline). way p (own_of None filters x) (ways p (children_seen d)) x) is
      ∙ ap (λ xs. through (ways p xs) (option_map_or (λ minor. minor - 1) (named_class filters p) (slice_index priomap p.prio))) kids
      ∙ ap (through (ways p ns)) (sym at)

  pub tbf-way : (bucket : TokenBucket) (limit : ℕ) (ns : List (Node Kept)) → discipline_seen d ≡ spec.Tbf bucket limit → children_seen d ≡ ns
      → way_in p filters d ≡ (if nat_lt bucket.burst p.len then refused TooLong else through (ways p ns) 0)
  tbf-way bucket limit ns is kids =
      ap (λ (x : spec.Discipline). way p (own_of None filters x) (ways p (children_seen d)) x) is ∙ ap (λ xs. if nat_lt bucket.burst p.len then refused TooLong else through (ways p xs) 0) kids

  pub drr-way : (s : Schedule) (ns : List (Node Kept)) (o : Option ℕ) → discipline_seen d ≡ spec.Drr s → children_seen d ≡ ns
      → o ≡ option_and_then (λ minor. drr.place_of minor s.classes) (named_class filters p)
      → way_in p filters d ≡ option_map_or (through (ways p ns)) o (refused NoClass)
  drr-way s ns o is kids at =
      ap (λ (x : spec.Discipline). way p (own_of None filters x) (ways p (children_seen d)) x) is
      ∙ by (named_class filters p)
      ∙ ap (λ x. option_map_or (through (ways p (children_seen d))) x (refused NoClass)) (sym at)
      ∙ ap (λ xs. option_map_or (through (ways p xs)) o (refused NoClass)) kids
    where
      by : (x : Option ℕ) → elim x [ None ↦ refused NoClass | Some minor ↦ option_map_or (through (ways p (children_seen d))) (class_at minor s) (refused NoClass) ]
          ≡ option_map_or (through (ways p (children_seen d))) (option_and_then (λ minor. drr.place_of minor s.classes) x) (refused NoClass)
      by None = refl
      by (Some minor) = refl

-- what a fifo made of it
pub queued-in-fifo : (now : ℕ) (p : Descriptor) (filters : List Filter) (f f2 : FifoState) (places : ℕ) (o : Outcome) (sink : SinkState) → takes f.limit f.packets p.len ≡ true → f.places ≤ places
    → length f.packets < places → (length f.packets < f.places → places ≡ f.places)
    → f2 ≡ record { packets = f.packets ++ record { packet = p; at = now } ∷ []; limit = f.limit; places = places }
    → o ≡ record { loss = None; refused = no_totals; dropped = no_totals }
    → HasComeIn now p filters (code.Fifo f) (code.Fifo f2) o sink sink
queued-in-fifo now p filters f f2 places o sink fits grows room stays is out = record {
  placed = code.Fifo (record f { places = places });
  is_placed = record { discipline = refl; children = refl; places = grows; grows = λ way i. omega arith };
  notes = [];
  put =
      subst (λ b. IsPutOn now p (if b then ends else refused OverLimit).refusal (if b then ends else refused OverLimit).path
      (code.Fifo (record f { places = places })) (code.Fifo f2) o []) (sym fits) (record {
        place = λ none. room;
        queued = record {
          discipline = ap (λ (x : FifoState). spec.Fifo x.limit x.packets) is;
          children = refl;
          places = ap (λ (x : FifoState). x.places) is;
          outcome = record { loss = ap (λ (x : Outcome). x.loss) out; refused = ap (λ (x : Outcome). x.refused) out; dropped = ap (λ (x : Outcome). x.dropped) out };
        };
        notes_are = refl;
      });
  told = told_nothing sink;
  in_place = λ there. record { children = refl; places = stays (fifo-place p filters (code.Fifo f) f refl there fits) };
}

-- what an fq_codel made of it
pub flows-after : (now : ℕ) (p : Descriptor) (filters : List Filter) (before placed after : Discipline) (s s2 : FqState) (places : ℕ) (res : Result Outcome AllocError) (sink sink2 : SinkState)
    → discipline_seen before ≡ spec.FqCodel s → children_seen before ≡ [] → places_seen before ≤ places → discipline_seen placed ≡ spec.FqCodel s
    → children_seen placed ≡ [] → places_seen placed ≡ places
    → discipline_seen after ≡ spec.FqCodel s2 → children_seen after ≡ [] → places_seen after ≡ places
    → OnOk res (packets_of s.flows < places) → (packets_of s.flows < places_seen before → places ≡ places_seen before) → IfOk res (λ o. IsPutInFlow now p s s2 o sink sink2)
    → IfOk res (λ o. HasComeIn now p filters before after o sink sink2)
flows-after now p filters before placed after s s2 places (Err e) sink sink2 is kids more isP kidsP placesP isA kidsA placesA room stays put = tt
flows-after now p filters before placed after s s2 places (Ok o) sink sink2 is kids more isP kidsP placesP isA kidsA placesA room stays put =
    queued-in-flows now p filters before placed after s o (rises_here now p None (discipline_seen placed)) sink sink2 is
    (record {
      discipline = isP ∙ sym is;
      children = ap (map unplaced) (kidsP ∙ sym kids);
      places = omega (arith, more, placesP);
      grows = λ way i. subst (λ xs. places_under way i (children_seen before) ≤ places_under way i xs) (kids ∙ sym kidsP) (omega arith);
    })
    (subst (HasPlaceIn (places_seen placed)) (sym isP) (omega (arith, room, placesP)))
    (queued-flow now p None placed after s s2 o refl isP isA (kidsA ∙ sym kidsP) (placesA ∙ sym placesP) put.after put.loss put.refused put.dropped)
    refl
    (subst (λ xs. IsTold xs sink sink2) (sym (told-here now p None placed s refl isP)) put.told)
    (λ there. record { children = kidsP ∙ sym kids; places = placesP ∙ stays (flows-place p filters before s (places_seen before) is refl there) })

-- ---- where a child was asked, by what it answered

pub on-err : {A B : Type 0} {P : Type 0} (res : Result A B) → P → OnErr res P
on-err (Ok x) h = tt
on-err (Err e) h = h

pub lt-true : (a b : ℕ) → a < b → nat_lt a b ≡ true
lt-true a b h = by (nat_lt a b) refl
  where
    by : (x : Bool) → nat_lt a b ≡ x → nat_lt a b ≡ true
    by true e = e
    by false e = absurd (omega (arith, h, ltb-false a b e))

pub lt-false : (a b : ℕ) → b ≤ a → nat_lt a b ≡ false
lt-false a b h = by (nat_lt a b) refl
  where
    by : (x : Bool) → nat_lt a b ≡ x → nat_lt a b ≡ false
    by true e = absurd (omega (arith, h, ltb-true a b e))
    by false e = e

-- what a packet comes to where none was lost
pub nobody : Outcome
nobody = record { loss = None; refused = no_totals; dropped = no_totals }

-- a packet that came, and one that came where a child was asked
pub arrived-as : {Came : Outcome → Type 0} {Placed HasRoom : Type 0} {lost : Outcome} {sink sink2 : SinkState} (o : Outcome)
    → Came o → lost ≡ o → HasArrived (Ok o) Came Placed HasRoom lost sink sink2
arrived-as o came is = record { after = came; same = tt; not_lost = tt; succeeds = λ there. refl; lost_is = is }

pub gone-arrived : (now : ℕ) (p : Descriptor) (filters : List Filter) (before : Discipline) (ns : List (Node Kept)) (i : ℕ) (x x2 : Node Kept)
    → children_seen before ≡ ns → i < length ns → x ≡ slice_index_or ns i x
    → way_in p filters before ≡ through (ways p ns) i → (place : Node Kept → Discipline) → ((m : Node Kept) → children_seen (place m) ≡ set ns i m)
    → ((m : Node Kept) → discipline_seen (place m) ≡ discipline_seen before) → ((m : Node Kept) → places_seen (place m) ≡ places_seen before)
    → ((b : Bool) → discipline_seen (place x2) ≡ settled_in i b (discipline_seen before)) → (res : Result Outcome AllocError) (lost : Outcome) (sink sink2 : SinkState)
    → HasArrived res (HasCome now p x x2) (IsPlaced x x2) ((route p x).refusal ≡ None → HasPlace (route p x).path x) lost sink sink2
    → OnOk res (IsToldOf (rises_along now p x) sink sink2) → HasArrived res (λ o. HasComeIn now p filters before (place x2) o sink sink2)
    (IsPlacedIn before (place x2)) ((way_in p filters before).refusal ≡ None → HasPlaceOn (way_in p filters before).path before) lost sink sink2
gone-arrived now p filters before ns i x x2 kids inside is to place kids2 same2 places2 settled (Err e) lost sink sink2 h told = record {
  after = tt;
  same = placed-at before (place x2) ns i x x2 kids is h.same (kids2 x2) (same2 x2) (places2 x2);
  not_lost = h.not_lost;
  succeeds = λ there. h.succeeds (place-below now p filters before before before ns i x x2 nobody kids inside is to there);
  lost_is = tt;
}
gone-arrived now p filters before ns i x x2 kids inside is to place kids2 same2 places2 settled (Ok o) lost sink sink2 h told =
    arrived-as o (gone-in now p filters before (place h.after.placed) (place x2) ns i x x2 o kids inside is to h.after (kids2 h.after.placed) (same2 h.after.placed)
    (places2 h.after.placed) (kids2 x2) (places2 x2)
    (settled (is_empty (put_along now p (route p x).refusal (route p x).path (shape h.after.placed)).node)) sink sink2 told) h.lost_is

-- a fifo in which a place was made, and then the packet was put
pub fifo-form : (f g f2 : FifoState) (places : ℕ) (q p : Descriptor) (now : ℕ) → g ≡ record { packets = f.packets; limit = f.limit; places = places } → q ≡ p
    → f2 ≡ record { packets = g.packets ++ record { packet = q; at = now } ∷ []; limit = g.limit; places = g.places }
    → f2 ≡ record { packets = f.packets ++ record { packet = p; at = now } ∷ []; limit = f.limit; places = places }
fifo-form f g f2 places q p now same packet is =
    is
    ∙ ap (λ (x : FifoState). record { packets = x.packets ++ record { packet = q; at = now } ∷ []; limit = x.limit; places = x.places }) same
    ∙ ap (λ (y : Descriptor). record { packets = f.packets ++ record { packet = y; at = now } ∷ []; limit = f.limit; places = places }) packet
