-- The classes of a drr that are asked in turn, until one is met that can send its packet, or shows none.
use Rattle.std.proofs.Common.{◌≡◌, ℕ, zero, suc, ◌-◌, ◌≤◌, ◌<◌, ◌∙◌, List, [], ◌∷◌, ◌++◌, take, set, length, refl, sym, ap, ap₂, subst, inl, inr, ◌||◌, eq-eqb, Option, Some, None, option_and_then, option_map, arith}
use Rattle.std.specs.Prelude.{is_some, Bool, true, false, nat_lt, ◌==◌, slice_get, slice_index_or, unwrap_or}
use Rattle.std.specs.List.{All, sum_by}
use Rattle.std.specs.Option.{option_map_or}
use Rattle.std.proofs.lemmas.Bool.{cases_lt, cases_Bool, eqb-true, ltb-true, ltb-false, false≢true}
use Rattle.std.proofs.lemmas.List.{length-map, length-set, take_all, get_or-set_same}
use Rattle.std.proofs.lemmas.List.Elements.{All-head, All-set}
use Rattle.std.proofs.lemmas.Option.{same_Some, slice_get-map, slice_get_within, get_or_from_slice_get}
use Rattle.q_packet.specs.Descriptor.{Descriptor}
use Rattle.q_codel.specs.Losses.{SinkState}
use Rattle.q_codel.proofs.SinkLemmas.{told_nothing}
use Rattle.q_drr.specs.Schedule as drr
use Rattle.q_drr.specs.Schedule.{Entry, Schedule, has_class, place_of, front_of, is_active, quantum_of, turned, turn_answer, IsEntry}
use Rattle.q_drr.specs.Take.{choice_of, need, prepared}
use Rattle.q_drr.specs.declared.take.Met.{Met}
use Rattle.q_drr.specs.declared.active.Turn.TheVariants.{Send, Granted}
use Rattle.q_drr.proofs.ServingLemmas.{IsServing, IsCome, serving_start, serving_front, serving_granted, serving_ends}
use Rattle.q_drr.proofs.TakeLemmas.{Front, come_to, covers, falls_short, front_is, front_quantum, measure_falls, met_at, served_nothing, served_head}
use Rattle.q_model.specs.declared.totals.Totals.{Totals}
use Rattle.q_model.specs.Ask.{Asked, ask, ask_drr, head_of, peeked_classes, service_of, place_met, gives_nothing, class_gives, class_serves}
use Rattle.q_model.specs.Beneath.{beneath_own, is_empty}
use Rattle.q_model.specs.Grants.{asked_entries}
use Rattle.q_model.specs.Node as spec
use Rattle.q_model.specs.Node.{Node, Own, Forest, none, more, shape, side_by_side}
use Rattle.q_model.specs.Pop.{pop}
use Rattle.q_model.specs.Route.{class_at}
use Rattle.q_model.specs.Tally.{Note, counts_in}
use Rattle.q_model.specs.Work.{Worked, booked, each_booked, settled_class}
use Rattle.q_model.proofs.ClassesAsked.{asked-now, asked-all, nobody-asked, next-asked, before-asked, was-asked, rises_of, next-rises, head-is, class-known}
use Rattle.q_invariants.proofs.ask.DrrService.{shown-short}
use Rattle.q_invariants.proofs.class.Exact.{active-brought_up}
use Rattle.q_invariants.proofs.sums.Told.{root-booked}
use Rattle.q_invariants.proofs.tree.Members.{All-at}
use Rattle.q_tree.specs.arrival.PutSteps.{packets_beneath}
use Rattle.q_tree.specs.departure.AskSteps.{CanAsk, CanAskOnce, CanServe, AreAsked, IsAskedOnce, IsGivenBy, IsToldOf, answers}
use Rattle.q_tree.specs.departure.Shown.{Shown}
use Rattle.q_tree.specs.disciplines.Meeting as meeting
use Rattle.q_tree.specs.Kept.{Kept, kept}
use Rattle.q_tree.specs.NodeCode.{node_size, forest_size}
use Rattle.q_tree.specs.Seen.{IsCountedWithin}
use Rattle.q_tree.proofs.departure.Asking.{IsAsking, answered, taken-told, lawful-at, asking-starts, asking-goes, still-there, booked_all, side-all, all-at, all-set, set-at, set-same}
use Rattle.q_tree.proofs.departure.AskOnce.{IsCounted, can-ask, can-ask-once, counted-then, told-then}
use Rattle.q_tree.proofs.departure.Peeks.{popped-asked, hand-asked, since-asked}
use Rattle.q_tree.proofs.disciplines.AskBands.{get-there}
use Rattle.q_tree.proofs.route.RouteLemmas.{child-size}
use Rattle.q_model.specs.Since.{at_hand_since, since_of}

-- the head that each class shows, by its name
abbrev pub heads_of : ℕ → Schedule → List (Node Kept) → ℕ → Option ℕ
heads_of now first ns = head_of first (answers now ns)

-- the classes of the first entries of the active list were asked: what the children are, and what was told
abbrev pub classes_to : ℕ → Schedule → List (Node Kept) → ℕ → List Worked
classes_to now first ns turns = peeked_classes first (take turns first.active) (answers now ns)

abbrev pub rises_to : ℕ → Schedule → List (Node Kept) → ℕ → List Note
rises_to now first ns turns = rises_of first (take turns first.active) (answers now ns)

-- A drr in the midst of it: at first its schedule was `first` and its children `ns`; so many classes are still to be asked.
pub record AreClassesAsked (now : ℕ) (first s : Schedule) (ns ms : List (Node Kept)) (unasked : ℕ) (so_far : Shown) (sink sink2 : SinkState) : Type 0 where
  pub turns : ℕ
  pub serving : IsServing (heads_of now first ns) first s turns
  pub remaining : unasked ≡ length first.active - turns
  pub asking : IsAsking ns ms (classes_to now first ns turns) (rises_to now first ns turns)
  pub counted : IsCounted (rises_to now first ns turns) so_far
  pub told : IsToldOf (rises_to now first ns turns) sink sink2

answer-count : (now : ℕ) (ns : List (Node Kept)) → length (answers now ns) ≡ length ns
answer-count now ns = length-map ns (λ (n : Node Kept). ask now (shape n))

pub classes-start : (now : ℕ) (first : Schedule) (ns : List (Node Kept)) (unasked : ℕ) (s : Shown) (sink : SinkState) → CanServe now first ns → unasked ≡ length first.active → IsCounted [] s
    → AreClassesAsked now first first ns ns unasked s sink sink
classes-start now first ns unasked s sink can count counted = record {
  turns = 0;
  serving = serving_start (heads_of now first ns) first;
  remaining = omega (arith, count);
  asking = subst (λ (ws : List Worked). IsAsking ns ns ws []) (sym (nobody-asked first (answers now ns) (answer-count now ns ∙ can.same))) (asking-starts now ns);
  counted = counted;
  told = told_nothing sink;
}

size-booked : (x : Forest Kept) (y : Forest (List Note)) → forest_size (each_booked kept x y) ≤ forest_size x
size-booked none y = omega arith
size-booked (more own m below others) none = omega arith
size-booked (more own m below others) (more own2 notes below2 others2) = omega (arith, size-booked below below2, size-booked others others2)

-- the class in front has a child in the place that it is found at
pub record IsInFront (now : ℕ) (first : Schedule) (ns : List (Node Kept)) (n place : ℕ) : Type 0 where
  pub child : Node Kept
  pub at_place : class_at n first ≡ Some place
  pub there : slice_get ns place ≡ Some child

answer-of : (now : ℕ) (ns : List (Node Kept)) (i : ℕ) (a : Asked) → slice_get (answers now ns) i ≡ Some a → (c : Node Kept) × (slice_get ns i ≡ Some c)
answer-of now ns i a e = by (slice_get ns i) refl
  where
    by : (o : Option (Node Kept)) → slice_get ns i ≡ o → (c : Node Kept) × (slice_get ns i ≡ Some c)
    by (Some c) h = (c, h)
    by None h = let none : slice_get (answers now ns) i ≡ None = slice_get-map (λ (n : Node Kept). ask now (shape n)) ns i ∙ ap (option_map (λ (n : Node Kept). ask now (shape n))) h in cc

front-known : (s : Schedule) (n : ℕ) → drr.IsLawful s → Front n s → has_class n s.classes ≡ true
front-known s n law f =
    let is : IsEntry s.max_len s.classes f.first = All-head (IsEntry s.max_len s.classes) f.first f.rest (subst (All (IsEntry s.max_len s.classes)) f.is law.entries) in
    ap (λ m. has_class m s.classes) (sym f.class) ∙ is.there

module _ (now : ℕ) (first s : Schedule) (ns ms : List (Node Kept)) (unasked : ℕ) (so_far : Shown) (sink sink2 : SinkState) (can : CanServe now first ns) (h : AreClassesAsked now first s ns ms unasked so_far sink sink2) (n : ℕ) (law : drr.IsLawful s) (f : Front n s) where
  in-front : (i : ℕ) × IsInFront now first ns n i
  in-front =
      let known : has_class n first.classes ≡ true = ap (has_class n) (sym h.serving.classes) ∙ front-known s n law f in
      let found = class-known first (answers now ns) n known (answer-count now ns ∙ can.same) in
      let child = answer-of now ns found.0 found.1 found.3 in
      (found.0, record { child = child.0; at_place = found.2; there = child.1 })

  same-place : place_of n s.classes ≡ class_at n first
  same-place = ap (place_of n) h.serving.classes

  class-in-front : (place : ℕ) → Some place ≡ place_of n s.classes → IsInFront now first ns n place
  class-in-front place e = subst (IsInFront now first ns n) (same_Some in-front.0 place (sym in-front.1.at_place ∙ sym same-place ∙ sym e)) in-front.1

-- the class in front of a drr in the midst of it, and the place where it is found
pub record IsMet (now : ℕ) (first s : Schedule) (ns ms : List (Node Kept)) (unasked : ℕ) (so_far : Shown) (sink sink2 : SinkState) (place : ℕ) : Type 0 where
  pub can : CanServe now first ns
  pub asked : AreClassesAsked now first s ns ms unasked so_far sink sink2
  pub class : ℕ
  pub lawful : drr.IsLawful s
  pub front : Front class s
  pub at : IsInFront now first ns class place

pub front-met : {now : ℕ} {first s : Schedule} {ns ms : List (Node Kept)} {unasked : ℕ} {so_far : Shown} {sink sink2 : SinkState} → CanServe now first ns → AreClassesAsked now first s ns ms unasked so_far sink sink2 → drr.IsLawful s
    → (place : ℕ) → Some place ≡ option_and_then (λ n. place_of n s.classes) (front_of s) → IsMet now first s ns ms unasked so_far sink sink2 place
front-met {now} {first} {s} {ns} {ms} {unasked} {so_far} {sink} {sink2} can h law place e = by (front_of s) refl e
  where
    by : (o : Option ℕ) → front_of s ≡ o → Some place ≡ option_and_then (λ n. place_of n s.classes) o → IsMet now first s ns ms unasked so_far sink sink2 place
    by None is at = cc
    by (Some n) is at =
        let f : Front n s = front_is n s (sym is) in
        record { can = can; asked = h; class = n; lawful = law; front = f; at = class-in-front now first s ns ms unasked so_far sink sink2 can h n law f place at }

-- an entry of the list as it began
active-at : (n : ℕ) (es : List Entry) → is_active n es ≡ true → (k : ℕ) × (e : Entry) × (slice_get es k ≡ Some e) × (e.class ≡ n) × (k < length es)
active-at n [] h = absurd (false≢true h)
active-at n (x ∷ es) h = elim (cases_Bool (n == x.class)) [
  | inl same ↦ (0, x, refl, sym (eqb-true n x.class same), omega arith)
  | inr other ↦
      let rest = active-at n es (sym (ap (λ b. b || is_active n es) other) ∙ h) in
      (suc rest.0, rest.1, rest.2, rest.3, omega (arith, rest.4))
]

-- what a class shows when it comes to the front
pub record IsClassShown (now : ℕ) (first : Schedule) (ns ms : List (Node Kept)) (turns place : ℕ) (c d : Node Kept) (s : Shown) (sink sink2 : SinkState) : Type 0 where
  pub asking : IsAsking ns (set ms place d) (classes_to now first ns (suc turns)) (rises_to now first ns (suc turns))
  pub counted : IsCounted (rises_to now first ns (suc turns)) s
  pub told : IsToldOf (rises_to now first ns (suc turns)) sink sink2
  pub shown : s.packet ≡ (ask now (shape c)).shown
  pub peeked : d ≡ booked kept c (ask now (shape c)).peeked
  pub stored : slice_get (set ms place d) place ≡ Some d

-- what is known where this class stands in front
module _ {now : ℕ} {first s : Schedule} {ns ms : List (Node Kept)} {unasked : ℕ} {so_far : Shown} {sink sink2 : SinkState} {place : ℕ} (met : IsMet now first s ns ms unasked so_far sink sink2 place) where
  pub place-within : place < length ms
  place-within = omega (arith, slice_get_within ns place met.at.child met.at.there, met.asked.asking.long)

  -- no call that goes down from it is larger than its children were
  pub class-size : (dummy : Node Kept) → node_size (slice_index_or ms place dummy) < forest_size (side_by_side ns)
  class-size dummy =
      omega (arith, child-size ms place (slice_index_or ms place dummy) (get-there ms place dummy place-within), ap (λ xs. forest_size (side_by_side xs)) met.asked.asking.children, ap forest_size (side-all ns (classes_to now first ns met.asked.turns)), size-booked (side_by_side ns) (side_by_side (classes_to now first ns met.asked.turns)))

  answer-there : slice_get (answers now ns) place ≡ Some (ask now (shape met.at.child))
  answer-there = slice_get-map (λ (m : Node Kept). ask now (shape m)) ns place ∙ ap (option_map (λ (m : Node Kept). ask now (shape m))) met.at.there

  -- one that was not in front yet
  module _ (early : met.asked.turns < length first.active) where
    entry : (e : Entry) × (slice_get first.active met.asked.turns ≡ Some e) × (e.class ≡ met.class)
    entry = serving_front (heads_of now first ns) first s met.asked.turns met.class met.asked.serving early met.front

    entry-place : class_at entry.0.class first ≡ Some place
    entry-place = ap (λ m. class_at m first) entry.2 ∙ met.at.at_place

    unasked-before : slice_get (classes_to now first ns met.asked.turns) place ≡ Some (ask now (shape met.at.child)).before
    unasked-before = before-asked first (answers now ns) met.asked.turns entry.0 place (ask now (shape met.at.child)) met.can.schedule entry.1 entry-place answer-there

    pub still-child : slice_get ms place ≡ Some met.at.child
    still-child = still-there now ns ms (classes_to now first ns met.asked.turns) (rises_to now first ns met.asked.turns) met.asked.asking place met.at.child met.at.there unasked-before

    early-once : (sink sink2 : SinkState) → IsToldOf (rises_to now first ns met.asked.turns) sink sink2 → length (packets_beneath ns) ≤ sink.room → CanAskOnce now met.at.child so_far sink2.room
    early-once sink sink2 told room = can-ask-once now ns ms (classes_to now first ns met.asked.turns) (rises_to now first ns met.asked.turns) met.can.each met.asked.asking place met.at.child met.at.there unasked-before so_far met.asked.counted sink sink2 told room

    early-shown : (d : Node Kept) (result : Shown) (sink sink2 sink3 : SinkState) → IsToldOf (rises_to now first ns met.asked.turns) sink sink2 → IsAskedOnce now met.at.child d so_far result sink2 sink3
        → IsClassShown now first ns ms met.asked.turns place met.at.child d result sink sink3
    early-shown d result sink sink2 sink3 before asked =
        let a : Asked = ask now (shape met.at.child) in
        let rises : List Note = rises_to now first ns met.asked.turns in
        let more : rises ++ a.rises ≡ rises_to now first ns (suc met.asked.turns) = sym (next-rises first (answers now ns) met.asked.turns entry.0 place a entry.1 entry-place answer-there) in
        let next : set (classes_to now first ns met.asked.turns) place a.peeked ≡ classes_to now first ns (suc met.asked.turns) = sym (next-asked first (answers now ns) met.asked.turns entry.0 place a met.can.schedule entry.1 entry-place answer-there) in
        let shown : Shown = record { packet = a.shown; dropped = (counts_in a.rises).dropped; marked = (counts_in a.rises).marked } in
        record {
          asking = subst (λ notes. IsAsking ns (set ms place d) (classes_to now first ns (suc met.asked.turns)) notes) more
              (subst (λ ws. IsAsking ns (set ms place d) ws (rises ++ a.rises)) next
              (asking-goes now ns ms (classes_to now first ns met.asked.turns) rises met.asked.asking place met.at.child met.at.there unasked-before (can-ask now ns ms (classes_to now first ns met.asked.turns) rises met.can.each met.asked.asking place met.at.child met.at.there unasked-before) d asked.peeked asked.arrived));
          counted = subst (λ notes. IsCounted notes result) more (counted-then rises a.rises so_far shown result met.asked.counted refl refl asked.dropped asked.marked);
          told = subst (λ notes. IsToldOf notes sink sink3) more (told-then rises a.rises sink sink2 sink3 before asked.told);
          shown = asked.packet;
          peeked = asked.peeked;
          stored = set-at ms place met.at.child d still-child;
        }

  -- one that was in front before
  module _ (late : length first.active ≤ met.asked.turns) where
    stood : (k : ℕ) × (e : Entry) × (slice_get first.active k ≡ Some e) × (e.class ≡ met.class) × (k < length first.active)
    stood =
        let heads = heads_of now first ns in
        let here : is_active met.class s.active ≡ true = ap (is_active met.class) met.front.is ∙ ap (λ b. b || is_active met.class met.front.rest) (eq-eqb met.class met.front.first.class (sym met.front.class)) in
        let same : is_active met.class s.active ≡ is_active met.class first.active =
        sym (active-brought_up met.class (λ m. quantum_of m s.classes) (choice_of heads s) s.active)
        ∙ ap (λ (v : Schedule). is_active met.class v.active) met.asked.serving.ready
        ∙ active-brought_up met.class (λ m. quantum_of m first.classes) (choice_of heads first) first.active in
        active-at met.class first.active (sym same ∙ here)

    peeked-there : slice_get (classes_to now first ns met.asked.turns) place ≡ Some (ask now (shape met.at.child)).peeked
    peeked-there = was-asked first (answers now ns) met.asked.turns stood.0 stood.1 place (ask now (shape met.at.child)) (omega (arith, stood.4, late)) stood.2 (ap (λ m. class_at m first) stood.3 ∙ met.at.at_place) answer-there

    peeked-child : slice_get ms place ≡ Some (booked kept met.at.child (ask now (shape met.at.child)).peeked)
    peeked-child = ap (λ xs. slice_get xs place) met.asked.asking.children ∙ all-at ns (classes_to now first ns met.asked.turns) place met.at.child (ask now (shape met.at.child)).peeked met.at.there peeked-there

    all-turns : take met.asked.turns first.active ≡ take (suc met.asked.turns) first.active
    all-turns = take_all met.asked.turns first.active late ∙ sym (take_all (suc met.asked.turns) first.active (omega (arith, late)))

    late-shown : CanAsk now met.at.child → (d : Node Kept) (result : Shown) (sink sink2 : SinkState) → IsToldOf (rises_to now first ns met.asked.turns) sink sink2 → d ≡ booked kept met.at.child (ask now (shape met.at.child)).peeked
        → result ≡ record so_far { packet = (pop (booked kept met.at.child (ask now (shape met.at.child)).peeked)).shown } → IsClassShown now first ns ms met.asked.turns place met.at.child d result sink sink2
    late-shown may d result sink sink2 told is result_is =
        let a : Asked = ask now (shape met.at.child) in
        let stays : set ms place d ≡ ms = ap (set ms place) is ∙ set-same ms place (booked kept met.at.child a.peeked) peeked-child in
        record {
          asking = subst (λ (es : List Entry). IsAsking ns (set ms place d) (peeked_classes first es (answers now ns)) (rises_of first es (answers now ns))) all-turns
              (subst (λ xs. IsAsking ns xs (classes_to now first ns met.asked.turns) (rises_to now first ns met.asked.turns)) (sym stays) met.asked.asking);
          counted = subst (λ (es : List Entry). IsCounted (rises_of first es (answers now ns)) result) all-turns
              (record { dropped = ap (λ (x : Shown). x.dropped) result_is ∙ met.asked.counted.dropped; marked = ap (λ (x : Shown). x.marked) result_is ∙ met.asked.counted.marked });
          told = subst (λ (es : List Entry). IsToldOf (rises_of first es (answers now ns)) sink sink2) all-turns told;
          shown = ap (λ (x : Shown). x.packet) result_is ∙ hand-asked now met.at.child (booked kept met.at.child a.peeked) may refl;
          peeked = is;
          stored = set-at ms place (booked kept met.at.child a.peeked) d peeked-child;
        }

  abbrev child-can : CanAsk now met.at.child
  child-can = record { mtu = met.can.each.mtu; least = met.can.each.least; moment = met.can.each.moment; lawful = lawful-at met.can.each.mtu now ns place met.at.child met.can.each.lawful met.at.there }

  -- the class as the code has it
  module _ (dummy : Node Kept) where
    pub class-once : nat_lt 0 unasked ≡ true → length (packets_beneath ns) ≤ sink.room → CanAskOnce now (slice_index_or ms place dummy) so_far sink2.room
    class-once some room =
        let early : met.asked.turns < length first.active = omega (arith, ltb-true 0 unasked some, met.asked.remaining) in
        subst (λ (m : Node Kept). CanAskOnce now m so_far sink2.room) (sym (get_or_from_slice_get ms place met.at.child dummy (still-child early))) (early-once early sink sink2 met.asked.told room)

    pub class-shown : {d : Node Kept} {result : Shown} {sink3 : SinkState}
        → (nat_lt 0 unasked ≡ true → IsAskedOnce now (slice_index_or ms place dummy) d so_far result sink2 sink3)
        → (nat_lt 0 unasked ≡ false → (d ≡ slice_index_or ms place dummy) × (result ≡ record so_far { packet = (pop (slice_index_or ms place dummy)).shown }))
        → (nat_lt 0 unasked ≡ false → sink3 ≡ sink2) → IsClassShown now first ns ms met.asked.turns place met.at.child d result sink sink3
    class-shown {d} {result} {sink3} asked hand kept_told = elim (cases_Bool (nat_lt 0 unasked)) [
      | inl some ↦
          let early : met.asked.turns < length first.active = omega (arith, ltb-true 0 unasked some, met.asked.remaining) in
          let is : slice_index_or ms place dummy ≡ met.at.child = get_or_from_slice_get ms place met.at.child dummy (still-child early) in
          early-shown early d result sink sink2 sink3 met.asked.told (subst (λ (m : Node Kept). IsAskedOnce now m d so_far result sink2 sink3) is (asked some))
      | inr asked_all ↦
          let late : length first.active ≤ met.asked.turns = omega (arith, ltb-false 0 unasked asked_all, met.asked.remaining) in
          let is : slice_index_or ms place dummy ≡ booked kept met.at.child (ask now (shape met.at.child)).peeked = get_or_from_slice_get ms place (booked kept met.at.child (ask now (shape met.at.child)).peeked) dummy (peeked-child late) in
          let same = hand asked_all in
          let nothing = kept_told asked_all in
          late-shown late child-can d result sink sink3 (subst (λ t. IsToldOf (rises_to now first ns met.asked.turns) sink t) (sym nothing) met.asked.told)
          (same.0 ∙ is) (same.1 ∙ ap (λ (m : Node Kept). record so_far { packet = (pop m).shown }) is)
    ]

  -- the head of the class is what was shown
  shown-head : (o : Option Descriptor) → (ask now (shape met.at.child)).shown ≡ o → heads_of now first ns met.class ≡ option_map (λ (x : Descriptor). x.len) o
  shown-head o e = head-is first (answers now ns) met.class place (ask now (shape met.at.child)) met.at.at_place answer-there ∙ ap (option_map (λ (x : Descriptor). x.len)) e

  -- what is asked where the take ends here
  module _ (o : Option Descriptor) (e : (ask now (shape met.at.child)).shown ≡ o) (covered : (len : ℕ) → option_map (λ (x : Descriptor). x.len) o ≡ Some len → len ≤ met.front.first.deficit) where
    come : IsCome (heads_of now first ns) first met.asked.turns
    come = serving_ends (heads_of now first ns) first s met.asked.turns met.class met.asked.serving met.front (option_map (λ (x : Descriptor). x.len) o) (shown-head o e) covered

    pub asked-to : asked_entries (choice_of (heads_of now first ns) first) first.active ≡ take (suc met.asked.turns) first.active
    asked-to = ap (λ x. asked_entries x first.active) come.is ∙ elim (cases_lt met.asked.turns (length first.active)) [
      | inl early ↦ asked-now come.choice first.active (come.early early).0 ∙ ap (λ k. take (suc k) first.active) (come.early early).1
      | inr late ↦ asked-all come.choice first.active (come.late late) ∙ sym (take_all (suc met.asked.turns) first.active (omega (arith, late)))
    ]

    ready : prepared (heads_of now first ns) first ≡ s
    ready = come_to (heads_of now first ns) first s met.class met.front (option_map (λ (x : Descriptor). x.len) o) (shown-head o e) covered met.lawful met.asked.serving.ready

    pub drr-answer : (own : Own) → ask_drr own (answers now ns) first
        ≡ option_map_or (class_gives own (answers now ns) (service_of first (answers now ns)) place (ask now (shape met.at.child))) o (gives_nothing own (answers now ns) (service_of first (answers now ns)))
    drr-answer own =
        let below : List Asked = answers now ns in
        let v = service_of first below in
        let nothing : Asked = gives_nothing own below v in
        let meets : place_met first below ≡ Some place =
        ap (option_and_then (λ (m : Met). class_at m.class first)) (sym (met_at (heads_of now first ns) first s met.class met.front (option_map (λ (x : Descriptor). x.len) o) (shown-head o e) ready)) ∙ met.at.at_place in
        ap (λ i. option_map_or (λ i. option_map_or (class_serves own below v i) (slice_get below i) nothing) i nothing) meets
        ∙ ap (λ x. option_map_or (class_serves own below v place) x nothing) answer-there
        ∙ ap (λ x. option_map_or (class_gives own below v place (ask now (shape met.at.child))) x nothing) e

    service-below : (service_of first (answers now ns)).below ≡ classes_to now first ns (suc met.asked.turns)
    service-below = ap (λ (es : List Entry). peeked_classes first es (answers now ns)) asked-to

    service-rises : (service_of first (answers now ns)).rises ≡ rises_to now first ns (suc met.asked.turns)
    service-rises = ap (λ (es : List Entry). rises_of first es (answers now ns)) asked-to

  -- a class that shows nothing ends it
  module _ {d : Node Kept} {result : Shown} {sink3 : SinkState} (shows : IsClassShown now first ns ms met.asked.turns place met.at.child d result sink sink3) where
    module _ (empty : result.packet ≡ None) where
      silent : (ask now (shape met.at.child)).shown ≡ None
      silent = sym shows.shown ∙ empty

      uncovered : (len : ℕ) → option_map (λ (x : Descriptor). x.len) None ≡ Some len → len ≤ met.front.first.deficit
      uncovered len e = cc

      nothing-schedule : (own : Own) → spec.Drr s ≡ (ask_drr own (answers now ns) first).peeked.own.discipline
      nothing-schedule own =
          ap spec.Drr (served_nothing (heads_of now first ns) first s met.class met.front (shown-head None silent) (ready None silent uncovered))
          ∙ ap (λ (x : Asked). x.peeked.own.discipline) (sym (drr-answer None silent uncovered own))

      nothing-since : (own : Own) → 0 ≡ (ask_drr own (answers now ns) first).peeked.own.since
      nothing-since own = ap (λ (x : Asked). x.peeked.own.since) (sym (drr-answer None silent uncovered own))

      nothing-told : (own : Own) → IsToldOf (ask_drr own (answers now ns) first).rises sink sink3
      nothing-told own = subst (λ notes. IsToldOf notes sink sink3) (sym (ap (λ (x : Asked). x.rises) (drr-answer None silent uncovered own) ∙ service-rises None silent uncovered)) shows.told

      nothing-asked : (own : Own) → AreAsked (ask_drr own (answers now ns) first) ns (set ms place d) result sink sink3
      nothing-asked own =
          let rises : (ask_drr own (answers now ns) first).rises ≡ rises_to now first ns (suc met.asked.turns) = ap (λ (x : Asked). x.rises) (drr-answer None silent uncovered own) ∙ service-rises None silent uncovered in
          record {
            long = shows.asking.long;
            nodes = ap side_by_side shows.asking.children ∙ side-all ns (classes_to now first ns (suc met.asked.turns))
                ∙ ap (λ ws. each_booked kept (side_by_side ns) (side_by_side ws)) (sym (service-below None silent uncovered))
                ∙ ap (λ (x : Asked). each_booked kept (side_by_side ns) x.peeked.below) (sym (drr-answer None silent uncovered own));
            within = shows.asking.within;
            shown = record {
              packet = empty ∙ ap (λ (x : Asked). x.shown) (sym (drr-answer None silent uncovered own));
              dropped = shows.counted.dropped ∙ ap (λ notes. (counts_in notes).dropped) (sym rises);
              marked = shows.counted.marked ∙ ap (λ notes. (counts_in notes).marked) (sym rises);
            };
            told = nothing-told own;
          }

      pub class-unserved : meeting.AreUnserved now first s ns (set ms place d) result sink sink3
      class-unserved = record { empty = empty; since = nothing-since; served = λ own. record { schedule = nothing-schedule own; asked = nothing-asked own } }

    -- what it gives is what it showed
    given-packet : (pop d).shown ≡ result.packet
    given-packet = hand-asked now met.at.child d child-can shows.peeked ∙ sym shows.shown

    -- one that shows a packet of this length
    module _ {len : ℕ} (offer : (x : Descriptor) × (result.packet ≡ Some x) × (x.len ≡ len)) where
      offers : (ask now (shape met.at.child)).shown ≡ Some offer.0
      offers = sym shows.shown ∙ offer.1

      pub short-enough : len ≤ s.max_len
      short-enough = omega (arith, shown-short met.can.each.mtu now (ask now (shape met.at.child)) offer.0 (answered now met.at.child child-can) offers, met.can.longest, met.asked.serving.longest, offer.2)

      pub offered-head : heads_of now first ns met.class ≡ Some len
      offered-head = shown-head (Some offer.0) offers ∙ ap Some offer.2

      -- what was told, and when the packet arrived, where it can send it
      module _ (send : Send ≡ turn_answer len s.active) {s1 : Schedule} (turn : s1 ≡ turned len s) where
        enough : (m : ℕ) → option_map (λ (x : Descriptor). x.len) (Some offer.0) ≡ Some m → m ≤ met.front.first.deficit
        enough m e = subst (λ m. m ≤ met.front.first.deficit) (sym offer.2 ∙ same_Some offer.0.len m e) (covers s met.class len met.front send)

        given-since : (own : Own) → since_of result.packet (unwrap_or (at_hand_since d) 0) ≡ (ask_drr own (answers now ns) first).peeked.own.since
        given-since own =
            ap (λ (o : Option Descriptor). since_of o (unwrap_or (at_hand_since d) 0)) offer.1
            ∙ ap (λ (o : Option ℕ). unwrap_or o 0) (since-asked now met.at.child d child-can shows.peeked)
            ∙ ap (λ (y : Asked). y.peeked.own.since) (sym (drr-answer (Some offer.0) offers enough own))

        given-told : (own : Own) → IsToldOf (ask_drr own (answers now ns) first).rises sink sink3
        given-told own =
            subst (λ notes. IsToldOf notes sink sink3) (sym (ap (λ (y : Asked). y.rises) (drr-answer (Some offer.0) offers enough own) ∙ service-rises (Some offer.0) offers enough)) shows.told

      -- gives it where it can send it
      module _ (send : Send ≡ turn_answer len s.active) {s1 s2 : Schedule} {ms2 : List (Node Kept)} (turn : s1 ≡ turned len s) (given : (c : Node Kept) → slice_get (set ms place d) place ≡ Some c → IsGivenBy place c s1 s2 (set ms place d) ms2) where
        pays : len ≤ met.front.first.deficit
        pays = covers s met.class len met.front send

        covered : (m : ℕ) → option_map (λ (x : Descriptor). x.len) (Some offer.0) ≡ Some m → m ≤ met.front.first.deficit
        covered m e = subst (λ m. m ≤ met.front.first.deficit) (sym offer.2 ∙ same_Some offer.0.len m e) pays

        gift : IsGivenBy place d (turned len s) s2 (set ms place d) ms2
        gift = subst (λ t. IsGivenBy place d t s2 (set ms place d) ms2) turn (given d shows.stored)

        left : booked kept d (pop d).after ≡ booked kept met.at.child (ask now (shape met.at.child)).taken
        left = (popped-asked now met.at.child d offer.0 child-can shows.peeked offers).left

        emptied : is_empty (booked kept d (pop d).after) ≡ is_empty (ask now (shape met.at.child)).taken
        emptied =
            ap (λ (m : Node Kept). is_empty m) left
            ∙ ap (λ (packets : List Descriptor). length packets == 0) (root-booked kept beneath_own met.at.child (ask now (shape met.at.child)).taken (taken-told now met.at.child child-can))

        answer : (own : Own) → ask_drr own (answers now ns) first ≡ class_gives own (answers now ns) (service_of first (answers now ns)) place (ask now (shape met.at.child)) offer.0
        answer own = drr-answer (Some offer.0) offers covered own

        given-schedule : (own : Own) → spec.Drr s2 ≡ (ask_drr own (answers now ns) first).peeked.own.discipline
        given-schedule own =
            ap spec.Drr (gift.schedule ∙ ap₂ (λ b t. settled_class place b t) emptied (served_head (heads_of now first ns) first s met.class len met.front offered-head pays (ready (Some offer.0) offers covered)))
            ∙ ap (λ (y : Asked). y.peeked.own.discipline) (sym (answer own))

        given-asked : (own : Own) → AreAsked (ask_drr own (answers now ns) first) ns ms2 result sink sink3
        given-asked own =
            let a : Asked = ask now (shape met.at.child) in
            let ws : List Worked = classes_to now first ns (suc met.asked.turns) in
            let rises : (ask_drr own (answers now ns) first).rises ≡ rises_to now first ns (suc met.asked.turns) = ap (λ (y : Asked). y.rises) (answer own) ∙ service-rises (Some offer.0) offers covered in
            let is : ms2 ≡ booked_all ns (set ws place a.taken) =
            gift.classes ∙ ap (set (set ms place d) place) left ∙ ap (λ xs. set xs place (booked kept met.at.child a.taken)) shows.asking.children ∙ all-set ns ws place met.at.child a.taken met.at.there in
            record {
              long = ap (λ xs. length xs) gift.classes ∙ length-set (set ms place d) place (booked kept d (pop d).after) ∙ shows.asking.long;
              nodes = ap side_by_side is ∙ side-all ns (set ws place a.taken)
                  ∙ ap (λ xs. each_booked kept (side_by_side ns) (side_by_side (set xs place a.taken))) (sym (service-below (Some offer.0) offers covered))
                  ∙ ap (λ (y : Asked). each_booked kept (side_by_side ns) y.peeked.below) (sym (answer own));
              within = λ t all.
                  let so_fine = shows.asking.within t all in
                  subst (All (λ (child : Node Kept). IsCountedWithin child.memory.counts.arrived t)) (sym gift.classes)
                  (All-set (λ (child : Node Kept). IsCountedWithin child.memory.counts.arrived t) (set ms place d) place (booked kept d (pop d).after)
                  (subst (λ (y : Totals). IsCountedWithin y t) (sym gift.arrived) (All-at (λ (child : Node Kept). IsCountedWithin child.memory.counts.arrived t) (set ms place d) place d so_fine shows.stored)) so_fine);
              shown = record {
                packet = offer.1 ∙ ap (λ (y : Asked). y.shown) (sym (answer own));
                dropped = shows.counted.dropped ∙ ap (λ notes. (counts_in notes).dropped) (sym rises);
                marked = shows.counted.marked ∙ ap (λ notes. (counts_in notes).marked) (sym rises);
              };
              told = given-told send turn own;
            }

      pub class-sends : Send ≡ turn_answer len s.active → {s1 : Schedule} → s1 ≡ turned len s → meeting.IsMet now place first s1 ns (set ms place d) result sink sink3
      class-sends send turn = record {
        inside = omega (arith, place-within, length-set ms place d);
        some = ap is_some offer.1;
        shown = λ class at. ap (λ (n : Node Kept). (pop n).shown) (here class at) ∙ given-packet;
        since = λ class at own. ap (λ (n : Node Kept). since_of result.packet (unwrap_or (at_hand_since n) 0)) (here class at) ∙ given-since send turn own;
        told = given-told send turn;
        served = λ given ks gift own. record { schedule = given-schedule send turn gift own; asked = given-asked send turn gift own };
      }
        where
          here : (class : Node Kept) → slice_get (set ms place d) place ≡ Some class → class ≡ d
          here class at = same_Some class d (sym at ∙ shows.stored)

      -- and is granted its quantum where it cannot
      module _ (granted : Granted ≡ turn_answer len s.active) {s1 : Schedule} (turn : s1 ≡ turned len s) where
        pub short : met.front.first.deficit < len
        short = falls_short s met.class len met.front granted

        abbrev needs : Schedule → ℕ
        needs t = sum_by (need (λ m. quantum_of m t.classes) (heads_of now first ns)) t.active

        pub fewer-grants : needs s1 < needs s
        fewer-grants = subst (λ t. needs t < needs s) (sym turn) (measure_falls (heads_of now first ns) s met.class len met.front offered-head (front_quantum s met.class met.front met.lawful) short)

        pub classes-go-on : {left : ℕ} → left ≡ unasked - 1 → AreClassesAsked now first s1 ns (set ms place d) left result sink sink3
        classes-go-on count = record {
          turns = suc met.asked.turns;
          serving = subst (λ t. IsServing (heads_of now first ns) first t (suc met.asked.turns)) (sym turn) (serving_granted (heads_of now first ns) first s met.asked.turns met.class len met.asked.serving met.lawful met.front offered-head short);
          remaining = omega (arith, count, met.asked.remaining);
          asking = shows.asking;
          counted = shows.counted;
          told = shows.told;
        }

-- the class in a place that is there
pub class-there : (ns : List (Node Kept)) (i : ℕ) → i < length ns → (c : Node Kept) × (slice_get ns i ≡ Some c)
class-there [] i inside = absurd (omega (arith, inside))
class-there (n ∷ ns) zero inside = (n, refl)
class-there (n ∷ ns) (suc i) inside = class-there ns i (omega (arith, inside))

-- which has handed out its packet, after which the schedule was settled
pub class-given : (ns : List (Node Kept)) (i : ℕ) (class x y z : Node Kept) (before after : Schedule) (e : Bool) → slice_get ns i ≡ Some class
    → y ≡ booked kept (slice_index_or ns i x) (pop (slice_index_or ns i x)).after → y.memory.counts.arrived ≡ (slice_index_or ns i x).memory.counts.arrived
    → e ≡ is_empty (slice_index_or (set ns i y) i z) → after ≡ settled_class i e before → IsGivenBy i class before after ns (set ns i y)
class-given ns i class x y z before after e at left arrived empty settled =
    let here : slice_index_or ns i x ≡ class = get_or_from_slice_get ns i class x at in
    let new : y ≡ booked kept class (pop class).after = left ∙ ap (λ (n : Node Kept). booked kept n (pop n).after) here in
    record {
      classes = ap (set ns i) new;
      schedule = settled ∙ ap (λ b. settled_class i b before) (empty ∙ ap (λ (n : Node Kept). is_empty n) (get_or-set_same ns i y z (slice_get_within ns i class at) ∙ new));
      arrived = sym (ap (λ (n : Node Kept). n.memory.counts.arrived) new) ∙ arrived ∙ ap (λ (n : Node Kept). n.memory.counts.arrived) here;
    }
