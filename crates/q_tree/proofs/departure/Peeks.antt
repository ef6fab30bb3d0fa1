-- A node that is asked: what its discipline can rely on, what is booked, and what the node is then.
use Rattle.std.proofs.Common.{◌≡◌, ℕ, ◌≤◌, ◌<◌, ◌^◌, ◌∙◌, List, [], ◌∷◌, ◌++◌, map, take, drop, length, refl, sym, ap, ap₂, subst, Option, Some, None, option_to_list, flat_map, arith}
use Rattle.std.specs.Prelude.{Bool, true, false, is_some, slice_get, if◌then◌else◌, unwrap_or}
use Rattle.std.specs.Option.{option_map_or}
use Rattle.std.specs.List.{All}
use Rattle.std.proofs.lemmas.List.{append-nil, drop_all, take_all, length-append, length-map}
use Rattle.std.proofs.lemmas.List.Sums.{sum_by-append}
use Rattle.q_packet.specs.Descriptor.{Descriptor}
use Rattle.q_codel.specs.declared.limit.Limit.{Limit}
use Rattle.q_codel.specs.Losses.{SinkState}
use Rattle.q_codel.proofs.SinkLemmas.{told_nothing}
use Rattle.q_bucket.specs.Level.{TokenBucket, allows}
use Rattle.q_drr.specs.Schedule.{Schedule, is_active}
use Rattle.q_model.specs.declared.filter.Filter.{Filter}
use Rattle.q_model.specs.declared.row.Row.{Row}
use Rattle.q_model.specs.declared.totals.Totals.{Totals}
use Rattle.q_model.specs.Ask.{Asked, befores, ask, ask_discipline, holding, waits, spends, ask_child}
use Rattle.q_model.specs.Beneath.{beneath, beneath_own, packets_in, packets_of, totals_in}
use Rattle.q_model.specs.Lawful.{IsLawfulDiscipline}
use Rattle.q_model.specs.Node as spec
use Rattle.q_model.specs.Node.{Node, Own, shape, side_by_side, each}
use Rattle.q_model.specs.Pop.{Popping, pop, pop_own}
use Rattle.q_model.specs.Tally.{counts_in, no_totals}
use Rattle.q_model.specs.Work.{booked, each_booked}
use Rattle.q_invariants.specs.Kept.{AllLawful, AreLawful}
use Rattle.q_invariants.proofs.ask.Pops.{ask-popped, booked-then}
use Rattle.q_invariants.proofs.class.Exact.{exact-length}
use Rattle.q_invariants.proofs.sums.Told.{root-booked}
use Rattle.q_invariants.proofs.tree.Forests.{each-side}
use Rattle.q_tree.specs.arrival.PutSteps.{packets_beneath}
use Rattle.q_tree.specs.departure.AskSteps.{CanAsk, CanAskEach, CanServe, CanAskIn, CanShow, IsShown, IsPeeked, AreAsked, IsToldOf, IsAskedIn, answers, answer_of, own_of, held_in, packets_within, with_shown}
use Rattle.q_tree.specs.disciplines.Meeting.{IsAllowed, IsWaiting}
use Rattle.q_tree.specs.Kept.{Kept, kept}
use Rattle.q_tree.specs.Seen.{seen, discipline_seen, children_seen, places_seen, IsKept, IsCountedWithin}
use Rattle.q_tree.specs.declared.node.Discipline.{Discipline}
use Rattle.q_tree.specs.declared.node.Node.TheInside.{Inside}
use Rattle.q_tree.specs.departure.Shown.{Shown}
use Rattle.q_tree.specs.declared.departure.signals.Signals.{Signals}
use Rattle.q_tree.proofs.counters.RowsOf.{IsRowOf, row-of, kept-of, can-show, row-shown}
use Rattle.q_tree.proofs.departure.AskForms.{ask-holding, ask-none, peeked-is}
use Rattle.q_invariants.proofs.sums.Weights.{IsQuiet}
use Rattle.q_tree.proofs.departure.Asking.{asked-told, asked-weighs, all-before, side-all}
use Rattle.q_tree.proofs.departure.PopLemmas.{set-within}
use Rattle.q_tree.specs.departure.Holding.{packet_held, held_with}
use Rattle.q_tree.proofs.departure.HeldLemmas.{empty-held}
use Rattle.q_packet.specs.declared.stamped.Stamped.{Stamped}
use Rattle.q_model.specs.Since.{at_hand_since, since_own}

-- one that was asked has at hand what it showed
pub hand-asked : (now : ℕ) (n m : Node Kept) → CanAsk now n → m ≡ booked kept n (ask now (shape n)).peeked → (pop m).shown ≡ (ask now (shape n)).shown
hand-asked now n m can new =
    let a : Asked = ask now (shape n) in
    ap (λ (x : Node Kept). (pop x).shown) new ∙ ap (λ (b : Popping). b.shown) (root-booked kept pop_own n a.peeked (asked-told now n can)) ∙ (ask-popped now (shape n)).shown

-- and that packet arrived when the model says
pub since-asked : (now : ℕ) (n m : Node Kept) → CanAsk now n → m ≡ booked kept n (ask now (shape n)).peeked → at_hand_since m ≡ at_hand_since (ask now (shape n)).peeked
since-asked now n m can new = ap (λ (x : Node Kept). at_hand_since x) new ∙ root-booked kept since_own n (ask now (shape n)).peeked (asked-told now n can)

-- one that was asked, and then gives the packet that it showed
pub record IsGivenAsked (now : ℕ) (n m : Node Kept) (p : Descriptor) : Type 0 where
  pub at_hand : (pop m).shown ≡ Some p
  pub left : booked kept m (pop m).after ≡ booked kept n (ask now (shape n)).taken

pub popped-asked : (now : ℕ) (n m : Node Kept) (p : Descriptor) → CanAsk now n → m ≡ booked kept n (ask now (shape n)).peeked → (ask now (shape n)).shown ≡ Some p → IsGivenAsked now n m p
popped-asked now n m p can new shown =
    let a : Asked = ask now (shape n) in
    let same : pop m ≡ pop a.peeked = ap pop new ∙ root-booked kept pop_own n a.peeked (asked-told now n can) in
    let h = ask-popped now (shape n) in
    record {
      at_hand = ap (λ (b : Popping). b.shown) same ∙ h.shown ∙ shown;
      left = ap₂ (λ (x : Node Kept) (b : Popping). booked kept x b.after) new same
          ∙ booked-then kept n a.peeked (pop a.peeked).after a.taken (h.taken (ap is_some shown));
    }

-- a tbf whose bucket allows the packet of its child
tbf-gave : {sink sink2 : SinkState} (now : ℕ) (own : Own) (b : TokenBucket) (limit : ℕ) (n m c : Node Kept) (p : Descriptor) (s : Shown) → CanAsk now n
    → m ≡ booked kept n (ask now (shape n)).peeked → (ask now (shape n)).shown ≡ Some p
    → allows b now p.len ≡ true → c ≡ booked kept m (pop m).after → c.memory.counts.arrived ≡ n.memory.counts.arrived → s.packet ≡ (pop m).shown
    → s.dropped ≡ (counts_in (ask now (shape n)).rises).dropped → s.marked ≡ (counts_in (ask now (shape n)).rises).marked
    → IsToldOf (ask now (shape n)).rises sink sink2 → AreAsked (ask_child now own (ask now (shape n) ∷ []) b limit (ask now (shape n))) (n ∷ []) (c ∷ []) s sink sink2
tbf-gave {sink} {sink2} now own b limit n m c p s can new shown may given arrived packet dropped marked told =
    let a : Asked = ask now (shape n) in
    let below : List Asked = a ∷ [] in
    let g = popped-asked now n m p can new shown in
    let is : ask_child now own below b limit a ≡ spends own below b limit now a p =
    ap (λ (o : Option Descriptor). option_map_or (λ (p : Descriptor). if allows b now p.len then spends own below b limit now a p else waits own below a) o (waits own below a)) shown
    ∙ ap (λ (t : Bool). if t then spends own below b limit now a p else waits own below a) may in
    subst (λ (x : Asked). AreAsked x (n ∷ []) (c ∷ []) s sink sink2) (sym is) (record {
      long = refl;
      nodes = ap (λ (x : Node Kept). side_by_side (x ∷ [])) (given ∙ g.left);
      within = λ t all. set-within (n ∷ []) 0 n c refl arrived t all;
      shown = record { packet = packet ∙ g.at_hand; dropped = dropped; marked = marked };
      told = told;
    })

-- and one whose child shows nothing
pub tbf-none : {sink sink2 : SinkState} (now : ℕ) (own : Own) (b : TokenBucket) (limit : ℕ) (n m : Node Kept) (s : Shown) → m ≡ booked kept n (ask now (shape n)).peeked
    → m.memory.counts.arrived ≡ n.memory.counts.arrived → IsShown (ask now (shape n)) s → s.packet ≡ None
    → IsToldOf (ask now (shape n)).rises sink sink2 → AreAsked (ask_child now own (ask now (shape n) ∷ []) b limit (ask now (shape n))) (n ∷ []) (m ∷ []) s sink sink2
tbf-none {sink} {sink2} now own b limit n m s new arrived shown none told =
    let a : Asked = ask now (shape n) in
    let below : List Asked = a ∷ [] in
    let silent : a.shown ≡ None = sym shown.packet ∙ none in
    let is : ask_child now own below b limit a ≡ waits own below a =
    ap (λ (o : Option Descriptor). option_map_or (λ (p : Descriptor). if allows b now p.len then spends own below b limit now a p else waits own below a) o (waits own below a)) silent in
    subst (λ (x : Asked). AreAsked x (n ∷ []) (m ∷ []) s sink sink2) (sym is) (record {
      long = refl;
      nodes = ap (λ (x : Node Kept). side_by_side (x ∷ [])) new;
      within = λ t all. set-within (n ∷ []) 0 n m refl arrived t all;
      shown = record { packet = none; dropped = shown.dropped; marked = shown.marked };
      told = told;
    })

-- when the packet arrived that a tbf then has
tbf-gave-since : (now : ℕ) (own : Own) (b : TokenBucket) (limit : ℕ) (n m : Node Kept) (p : Descriptor) → CanAsk now n
    → m ≡ booked kept n (ask now (shape n)).peeked → (ask now (shape n)).shown ≡ Some p
    → allows b now p.len ≡ true → unwrap_or (at_hand_since m) 0 ≡ (ask_child now own (ask now (shape n) ∷ []) b limit (ask now (shape n))).peeked.own.since
tbf-gave-since now own b limit n m p can new shown may =
    let a : Asked = ask now (shape n) in
    let below : List Asked = a ∷ [] in
    let is : ask_child now own below b limit a ≡ spends own below b limit now a p =
    ap (λ (o : Option Descriptor). option_map_or (λ (p : Descriptor). if allows b now p.len then spends own below b limit now a p else waits own below a) o (waits own below a)) shown
    ∙ ap (λ (t : Bool). if t then spends own below b limit now a p else waits own below a) may in
    ap (λ (o : Option ℕ). unwrap_or o 0) (since-asked now n m can new) ∙ ap (λ (x : Asked). x.peeked.own.since) (sym is)

-- and 0 where its child shows nothing
pub tbf-none-since : (now : ℕ) (own : Own) (b : TokenBucket) (limit : ℕ) (n : Node Kept) → (ask now (shape n)).shown ≡ None
    → 0 ≡ (ask_child now own (ask now (shape n) ∷ []) b limit (ask now (shape n))).peeked.own.since
tbf-none-since now own b limit n silent =
    let a : Asked = ask now (shape n) in
    let below : List Asked = a ∷ [] in
    ap (λ (o : Option Descriptor). (option_map_or
    (λ (p : Descriptor). if allows b now p.len then spends own below b limit now a p else waits own below a) o
    (waits own below a)).peeked.own.since) (sym silent)

-- the bucket allows what the child shows
pub tbf-allowed : {sink sink2 : SinkState} (now : ℕ) (b : TokenBucket) (n m : Node Kept) (counted : Signals) (s : Shown) → CanAsk now n → IsPeeked now n m counted s sink sink2
    → (p q : Descriptor) → s.packet ≡ Some p → s.packet ≡ Some q → allows b now q.len ≡ true
    → IsAllowed now p b n m s sink sink2
tbf-allowed now b n m counted s can peeked p q is shown may =
    let offered : (ask now (shape n)).shown ≡ Some q = sym peeked.shown.packet ∙ shown in
    let given = hand-asked now n m can peeked.after in
    record {
      shown = given ∙ sym peeked.shown.packet ∙ is;
      since = λ own limit. tbf-gave-since now own b limit n m q can peeked.after offered may;
      asked = λ c after arrived own limit.
          tbf-gave now own b limit n m c q s can peeked.after offered may after (arrived ∙ peeked.arrived) (peeked.shown.packet ∙ sym given) peeked.shown.dropped peeked.shown.marked peeked.told;
    }

-- one whose bucket does not allow what its child shows
tbf-waits : {sink sink2 : SinkState} (now : ℕ) (own : Own) (b : TokenBucket) (limit : ℕ) (n m : Node Kept) (p : Descriptor) (r s : Shown)
    → m ≡ booked kept n (ask now (shape n)).peeked → m.memory.counts.arrived ≡ n.memory.counts.arrived → IsShown (ask now (shape n)) r
    → (ask now (shape n)).shown ≡ Some p → allows b now p.len ≡ false → s.packet ≡ None → s.dropped ≡ r.dropped → s.marked ≡ r.marked
    → IsToldOf (ask now (shape n)).rises sink sink2 → AreAsked (ask_child now own (ask now (shape n) ∷ []) b limit (ask now (shape n))) (n ∷ []) (m ∷ []) s sink sink2
tbf-waits {sink} {sink2} now own b limit n m p r s new arrived offer shown may none dropped marked told =
    let a : Asked = ask now (shape n) in
    let below : List Asked = a ∷ [] in
    let is : ask_child now own below b limit a ≡ waits own below a =
    ap (λ (o : Option Descriptor). option_map_or (λ (p : Descriptor). if allows b now p.len then spends own below b limit now a p else waits own below a) o (waits own below a)) shown
    ∙ ap (λ (t : Bool). if t then spends own below b limit now a p else waits own below a) may in
    subst (λ (x : Asked). AreAsked x (n ∷ []) (m ∷ []) s sink sink2) (sym is) (record {
      long = refl;
      nodes = ap (λ (x : Node Kept). side_by_side (x ∷ [])) new;
      within = λ t all. set-within (n ∷ []) 0 n m refl arrived t all;
      shown = record { packet = none; dropped = dropped ∙ offer.dropped; marked = marked ∙ offer.marked };
      told = told;
    })

tbf-waits-since : (now : ℕ) (own : Own) (b : TokenBucket) (limit : ℕ) (n : Node Kept) (p : Descriptor) → (ask now (shape n)).shown ≡ Some p → allows b now p.len ≡ false
    → 0 ≡ (ask_child now own (ask now (shape n) ∷ []) b limit (ask now (shape n))).peeked.own.since
tbf-waits-since now own b limit n p shown may =
    let a : Asked = ask now (shape n) in
    let below : List Asked = a ∷ [] in
    ap (λ (t : Bool). (if t then spends own below b limit now a p else waits own below a).peeked.own.since) (sym may)
    ∙ ap (λ (o : Option Descriptor). (option_map_or
    (λ (p : Descriptor). if allows b now p.len then spends own below b limit now a p else waits own below a) o
    (waits own below a)).peeked.own.since) (sym shown)

-- it does not allow what the child shows
pub tbf-waiting : {sink sink2 : SinkState} (now : ℕ) (own : Own) (b : TokenBucket) (limit : ℕ) (n m : Node Kept) (counted : Signals) (r s : Shown) → IsPeeked now n m counted r sink sink2
    → (p : Descriptor) → r.packet ≡ Some p → allows b now p.len ≡ false
    → s.packet ≡ None → s.dropped ≡ r.dropped → s.marked ≡ r.marked → IsWaiting now own limit b n m s sink sink2
tbf-waiting now own b limit n m counted r s peeked p is may none dropped marked =
    let shown : (ask now (shape n)).shown ≡ Some p = sym peeked.shown.packet ∙ is in
    record {
      since = tbf-waits-since now own b limit n p shown may;
      asked = tbf-waits now own b limit n m p r s peeked.after peeked.arrived peeked.shown shown may none dropped marked peeked.told;
    }

-- children of a discipline that can be asked
abbrev each-here : (now : ℕ) (d : Discipline) → CanAskIn now d → CanAskEach now (children_seen d)
each-here now d can =
    let own : List Descriptor = packets_in (discipline_seen d) in
    record {
      mtu = can.mtu;
      least = can.least;
      moment = can.moment;
      lawful = can.lawful;
      packets = omega (arith, can.packets, length-append own (packets_beneath (children_seen d)));
      bytes = omega (arith, can.bytes, sum_by-append (λ (p : Descriptor). p.len) own (packets_beneath (children_seen d)));
    }

pub each-of : (now : ℕ) (d : Discipline) (ns : List (Node Kept)) → CanAskIn now d → ns ≡ children_seen d → CanAskEach now ns
each-of now d ns can is = subst (CanAskEach now) (sym is) (each-here now d can)

pub room-of : (d : Discipline) (ns : List (Node Kept)) → ns ≡ children_seen d → length (packets_beneath ns) ≤ length (packets_within d)
room-of d ns is = omega (arith, length-append (packets_in (discipline_seen d)) (packets_beneath (children_seen d)), ap (λ xs. length (packets_beneath xs)) is)

pub own-room : (d : Discipline) → length (packets_in (discipline_seen d)) ≤ length (packets_within d)
own-room d = omega (arith, length-append (packets_in (discipline_seen d)) (packets_beneath (children_seen d)))

pub serve-of : (now : ℕ) (d : Discipline) (s : Schedule) (ns : List (Node Kept)) → CanAskIn now d → discipline_seen d ≡ spec.Drr s → ns ≡ children_seen d → CanServe now s ns
serve-of now d s ns can is kids =
    let law = subst (IsLawfulDiscipline can.mtu now (map beneath (children_seen d))) is can.own in
    subst (CanServe now s) (sym kids) (record {
      each = each-here now d can;
      schedule = law.schedule;
      longest = law.longest;
      same = sym (length-map (children_seen d) beneath) ∙ sym (exact-length (λ m. is_active m s.active) s.classes (map beneath (children_seen d)) law.exact);
    })

-- the items of a list of children that were changed in place
pub items-are : (items new : List (Node Kept)) (len : ℕ) → length items ≡ len → length new ≡ length items → take len (new ++ drop (length new) items) ≡ new
items-are items new len is same =
    ap (λ xs. take len (new ++ xs)) (drop_all (length new) items (omega (arith, same))) ∙ ap (take len) (append-nil new) ∙ take_all len new (omega (arith, is, same))

-- what a discipline answers, by what it is
pub answer-is : (now : ℕ) (handle : Option ℕ) (filters : List Filter) (d : Discipline) (k : spec.Discipline) (ns : List (Node Kept))
    → discipline_seen d ≡ k → children_seen d ≡ ns → answer_of now handle filters d ≡ ask_discipline now (own_of handle filters k) (answers now ns) k
answer-is now handle filters d k ns is kids = ap₂ (λ x xs. ask_discipline now (own_of handle filters x) (answers now xs) x) is kids

-- what a node with this discipline holds of the packet that it shows
pub held-of : (now : ℕ) (handle : Option ℕ) (filters : List Filter) (d : Discipline) (k : spec.Discipline) (ns : List (Node Kept))
    (held : Option Stamped) (o : Option Descriptor)
    → discipline_seen d ≡ k → children_seen d ≡ ns
    → held ≡ held_with o (ask_discipline now (own_of handle filters k) (answers now ns) k).peeked.own.since → held ≡ held_with o (answer_of now handle filters d).peeked.own.since
held-of now handle filters d k ns held o is kids holds = holds ∙ ap (λ (a : Asked). held_with o a.peeked.own.since) (sym (answer-is now handle filters d k ns is kids))

pub asked-in : {sink sink2 : SinkState} (now : ℕ) (handle : Option ℕ) (filters : List Filter) (before after : Discipline) (k k2 : spec.Discipline) (ns ns2 : List (Node Kept))
    (s : Shown)
    → discipline_seen before ≡ k → children_seen before ≡ ns
    → discipline_seen after ≡ k2 → children_seen after ≡ ns2 → places_seen after ≡ places_seen before → k2 ≡ (ask_discipline now (own_of handle filters k) (answers now ns) k).peeked.own.discipline
    → AreAsked (ask_discipline now (own_of handle filters k) (answers now ns) k) ns ns2 s sink sink2 → IsAskedIn (answer_of now handle filters before) before after s sink sink2
asked-in {sink} {sink2} now handle filters before after k k2 ns ns2 s is kids is2 kids2 places discipline asked =
    let e = answer-is now handle filters before k ns is kids in
    subst (λ (a : Asked). IsAskedIn a before after s sink sink2) (sym e) (record {
      discipline = is2 ∙ discipline;
      children = subst (λ xs. AreAsked (ask_discipline now (own_of handle filters k) (answers now ns) k) xs (children_seen after) s sink sink2) (sym kids)
          (subst (λ xs. AreAsked (ask_discipline now (own_of handle filters k) (answers now ns) k) ns xs s sink sink2) (sym kids2) asked);
      places = places;
    })

-- a fifo that shows its head
pub fifo-asked : {sink : SinkState} (now : ℕ) (handle : Option ℕ) (filters : List Filter) (d : Discipline) (limit : Limit) (queue : List Stamped) (s : Shown)
    → discipline_seen d ≡ spec.Fifo limit queue → children_seen d ≡ []
    → s.packet ≡ slice_get (packets_of queue) 0 → s.dropped ≡ no_totals → s.marked ≡ no_totals → IsAskedIn (answer_of now handle filters d) d d s sink sink
fifo-asked {sink} now handle filters d limit queue s is kids packet dropped marked =
    asked-in now handle filters d d (spec.Fifo limit queue) (spec.Fifo limit queue) [] [] s is kids is kids refl refl
    (record { long = refl; nodes = refl; within = λ t h. h; shown = record { packet = packet; dropped = dropped; marked = marked }; told = told_nothing sink })

-- a node that holds a packet stays as it is
pub holding-after : (now : ℕ) (a : Inside) (n : Node Kept) (p : Descriptor) → seen a ≡ n → packet_held a.held ≡ Some p → n ≡ booked kept n (ask now (shape n)).peeked
holding-after now a n p view e =
    let ns : List (Node Kept) = children_seen a.discipline in
    let below : each_booked kept (side_by_side ns) (side_by_side (befores (answers now ns))) ≡ side_by_side ns = sym (side-all ns (befores (answers now ns))) ∙ ap side_by_side (all-before now ns) in
    let still : booked kept (seen a) (holding (seen a).own (answers now ns) p).peeked ≡ seen a = ap (λ b. record { own = (seen a).own; memory = (seen a).memory; below = b }) below in
    subst (λ (m : Node Kept). m ≡ booked kept m (ask now (shape m)).peeked) view (sym still ∙ ap (λ (x : Asked). booked kept (seen a) x.peeked) (sym (ask-holding now a p e)))

-- one that holds none asks its discipline
pub record IsPeekedAs (now : ℕ) (n : Node Kept) (inside : Inside) : Type 0 where
  pub stays : IsKept inside
  pub after : seen inside ≡ booked kept n (ask now (shape n)).peeked

module _ (now : ℕ) (a : Inside) (n : Node Kept) (k : IsKept a) (view : seen a ≡ n) (can : CanAsk now n) where
  can-here : CanAsk now (seen a)
  can-here = subst (CanAsk now) (sym view) can

  same-waiting : beneath (seen a) ≡ option_to_list (packet_held a.held) ++ packets_in (discipline_seen a.discipline) ++ packets_beneath (children_seen a.discipline)
  same-waiting =
      ap (λ (bs : List (List Descriptor)). option_to_list (packet_held a.held) ++ packets_in (discipline_seen a.discipline)
      ++ flat_map (λ packets. packets) bs) (each-side beneath_own (children_seen a.discipline))

  within-packets : length (packets_within a.discipline) ≤ length (beneath (seen a))
  within-packets =
      let own : List Descriptor = packets_in (discipline_seen a.discipline) in
      let deep : List Descriptor = packets_beneath (children_seen a.discipline) in
      omega (
        arith,
        ap (λ (xs : List Descriptor). length xs) same-waiting,
        length-append (option_to_list (packet_held a.held) ++ own) deep,
        length-append (option_to_list (packet_held a.held)) own,
        length-append own deep,
      )

  within-bytes : (totals_in (packets_within a.discipline)).bytes ≤ (totals_in (beneath (seen a))).bytes
  within-bytes =
      let own : List Descriptor = packets_in (discipline_seen a.discipline) in
      let deep : List Descriptor = packets_beneath (children_seen a.discipline) in
      let len : Descriptor → ℕ = λ p. p.len in
      omega (
        arith,
        ap (λ (xs : List Descriptor). (totals_in xs).bytes) same-waiting,
        sum_by-append len (option_to_list (packet_held a.held) ++ own)
            deep,
        sum_by-append len (option_to_list (packet_held a.held)) own,
        sum_by-append len own deep,
      )

  pub can-in : a.row.queued.packets < 2 ^ 64 → a.row.queued.bytes < 2 ^ 64 → CanAskIn now a.discipline
  can-in packets_fit bytes_fit =
      let h = can-here in
      record {
        mtu = h.mtu;
        least = h.least;
        moment = h.moment;
        own = subst (λ bs. IsLawfulDiscipline h.mtu now bs (discipline_seen a.discipline)) (each-side beneath_own (children_seen a.discipline)) h.lawful.0.discipline;
        lawful = from h.mtu (children_seen a.discipline) h.lawful.1;
        packets = omega (arith, within-packets, packets_fit, ap (λ (t : Totals). t.packets) k.queued);
        bytes = omega (arith, within-bytes, bytes_fit, ap (λ (t : Totals). t.bytes) k.queued);
      }
    where
      from : (mtu : ℕ) (ns : List (Node Kept)) → AllLawful mtu now (side_by_side ns) → AreLawful mtu now ns
      from mtu [] h = tt
      from mtu (m ∷ ns) h = ((h.0, h.1), from mtu ns h.2)

  pub enough : (room : ℕ) → length (beneath n) ≤ room → length (packets_within a.discipline) ≤ room
  enough room h = omega (arith, h, within-packets, ap (λ (m : Node Kept). length (beneath m)) view)

  module _ (none : packet_held a.held ≡ None) where
    pub told-here : (sink sink2 : SinkState) → IsToldOf (answer_of now a.handle a.filters a.discipline).rises sink sink2 → IsToldOf (ask now (shape n)).rises sink sink2
    told-here sink sink2 h = subst (λ (m : Node Kept). IsToldOf (ask now (shape m)).rises sink sink2) view (subst (λ (x : Asked). IsToldOf x.rises sink sink2) (sym (ask-none now a none)) h)

    module _ (s : Shown) (shown : IsShown (answer_of now a.handle a.filters a.discipline) s) where
      pub shown-inside : IsShown (ask now (shape (seen a))) s
      shown-inside = subst (λ (x : Asked). IsShown x s) (sym (ask-none now a none)) shown

      pub shown-here : IsShown (ask now (shape n)) s
      shown-here = subst (λ (m : Node Kept). IsShown (ask now (shape m)) s) view shown-inside

      pub can-book : a.row.arrived.packets < 2 ^ 64 → a.row.arrived.bytes < 2 ^ 64 → CanShow s a.row
      can-book packets_fit bytes_fit =
          let x : Asked = ask now (shape (seen a)) in
          can-show (seen a) a.row (row-of a k) (booked kept (seen a) x.peeked) x.rises s (asked-weighs now (seen a) can-here) shown-inside.dropped shown-inside.marked packets_fit bytes_fit

    module _ {sink sink2 : SinkState} (d : Discipline) (s : Shown) (q : IsAskedIn (answer_of now a.handle a.filters a.discipline) a.discipline d s sink sink2) where
      pub peeked-done : (r : Row) (held : Option Stamped) → CanShow s a.row → r ≡ with_shown s a.row
          → held ≡ held_with (held_in (discipline_seen d) s.packet) (answer_of now a.handle a.filters a.discipline).peeked.own.since
          → IsPeekedAs now n (record a { held = held; row = r; discipline = d })
      peeked-done r held fit row holds =
          let x : Asked = ask now (shape (seen a)) in
          let w = asked-weighs now (seen a) can-here in
          let inside = shown-inside s q.children.shown in
          let m : Node Kept = booked kept (seen a) x.peeked in
          let value = peeked-is now a d r s held none q (subst (λ (y : Asked). IsQuiet y.rises) (ask-none now a none) w.quiet) row holds in
          record {
            stays = kept-of (record a { held = held; row = r; discipline = d })
                (subst (IsRowOf r) (sym value) (subst (λ (y : Row). IsRowOf y m) (sym row) (row-shown (seen a) a.row (row-of a k) m x.rises s w inside.dropped inside.marked fit)))
                (subst (λ (y : Row). All (λ (child : Node Kept). IsCountedWithin child.memory.counts.arrived y.arrived) (children_seen d)) (sym row) (q.children.within a.row.arrived k.within));
            after = value ∙ ap (λ (m : Node Kept). booked kept m (ask now (shape m)).peeked) view;
          }

    -- a fifo shows its head, and stays as it is
    pub fifo-peeked : {sink sink2 : SinkState} (limit : Limit) (queue : List Stamped) (s : Shown) → discipline_seen a.discipline ≡ spec.Fifo limit queue
        → IsAskedIn (answer_of now a.handle a.filters a.discipline) a.discipline a.discipline s sink sink2
        → CanShow s a.row → a.row ≡ with_shown s a.row → n ≡ booked kept n (ask now (shape n)).peeked
    fifo-peeked limit queue s is asked fit row =
        sym view
        ∙ (peeked-done a.discipline s asked a.row a.held fit row
        (empty-held a.held none ∙ sym (ap (λ k. held_with (held_in k s.packet) (answer_of now a.handle a.filters a.discipline).peeked.own.since) is))).after
