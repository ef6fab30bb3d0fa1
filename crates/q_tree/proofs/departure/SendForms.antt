-- A node that is asked and gives its packet in one walk: what is left of its discipline, and what the node is then.
use Rattle.std.proofs.Common.{◌≡◌, ℕ, ◌∙◌, List, [], ◌∷◌, ◌++◌, map, drop, refl, sym, ap, subst, Option, Some, None, option_to_list}
use Rattle.std.specs.Prelude.{Bool, true, false, is_some, slice_get, if◌then◌else◌}
use Rattle.std.specs.List.{All}
use Rattle.std.specs.Option.{option_map_or}
use Rattle.std.proofs.lemmas.List.{append-nil}
use Rattle.q_packet.specs.Descriptor.{Descriptor}
use Rattle.q_codel.specs.Losses.{SinkState}
use Rattle.q_codel.proofs.SinkLemmas.{told_nothing}
use Rattle.q_packet.specs.declared.stamped.Stamped.{Stamped}
use Rattle.q_codel.specs.declared.limit.Limit.{Limit}
use Rattle.q_bucket.specs.Level.{TokenBucket, allows}
use Rattle.q_drr.specs.Schedule.{Schedule}
use Rattle.q_drr.specs.Take.{choice_of}
use Rattle.q_fqcodel.specs.Take.{selected, sent_from}
use Rattle.q_model.specs.declared.filter.Filter.{Filter}
use Rattle.q_model.specs.declared.row.Row.{Row}
use Rattle.q_model.specs.Ask.{Asked, dequeued, waits, spends, ask_child, ask_discipline, ask, take_from, head_of, service_of, place_met, gives_nothing, class_gives, class_serves}
use Rattle.q_model.specs.Beneath.{packets_of}
use Rattle.q_model.specs.Lawful.{CanHold}
use Rattle.q_model.specs.Node as spec
use Rattle.q_model.specs.Node.{Node, shape, side_by_side}
use Rattle.q_model.specs.Pop.{pop}
use Rattle.q_model.specs.Quanta.{flow_notes}
use Rattle.q_model.specs.Tally.{Note, Sent, Spent, counted, counts_in, no_totals, noted, totals}
use Rattle.q_model.specs.Work.{Worked, booked, each_booked}
use Rattle.q_invariants.proofs.ask.Answer.{IsSilent, silent-nil}
use Rattle.q_invariants.proofs.ask.AskTbf.{spent-note}
use Rattle.q_invariants.proofs.ask.DrrService.{notes-silent}
use Rattle.q_invariants.proofs.flow.FlowNotes.{flow-silent}
use Rattle.q_invariants.proofs.sums.Weights.{IsQuiet}
use Rattle.q_tree.specs.departure.AskSteps.{CanAsk, CanShow, IsShown, IsAskedIn, answers, answer_of, own_of, held_in, with_shown}
use Rattle.q_tree.specs.departure.PopSteps.{IsAmong, with_sent}
use Rattle.q_tree.specs.departure.SendSteps.{AreSent, IsSentIn, left_of}
use Rattle.q_tree.specs.departure.Shown.{Shown}
use Rattle.q_tree.specs.Kept.{Kept, kept}
use Rattle.q_tree.specs.Seen.{seen, discipline_seen, children_seen, places_seen, IsKept, IsCountedWithin}
use Rattle.q_tree.specs.declared.node.Discipline.{Discipline}
use Rattle.q_tree.specs.declared.node.Node.TheInside.{Inside}
use Rattle.q_tree.proofs.counters.AskRows.{counted-shown}
use Rattle.q_tree.proofs.counters.Rows.{counts_in_row}
use Rattle.q_tree.proofs.counters.RowsOf.{IsRowOf, row-of, kept-of, row-shown, row-popped, among}
use Rattle.q_tree.proofs.departure.AskForms.{ask-none, ask-holding}
use Rattle.q_tree.proofs.departure.Asking.{asked-weighs}
use Rattle.q_tree.proofs.departure.Forms.{noted-kept}
use Rattle.q_tree.proofs.departure.Peeks.{answer-is, peeked-done, popped-asked, shown-here, shown-inside}
use Rattle.q_tree.proofs.departure.SendLemmas.{left-some, left-none}
use Rattle.q_tree.proofs.TreeLemmas.{noted-push}
use Rattle.q_tree.specs.departure.Holding.{packet_held, since_held, held_with}
use Rattle.q_tree.proofs.departure.HeldLemmas.{empty-held}

-- a node that has given its packet, apart from its discipline and its children: it holds none, and has noted that for itself
record IsTaken (handle : Option ℕ) (filters : List Filter) (a : Asked) : Type 0 where
  own : a.taken.own ≡ record { handle = handle; discipline = a.taken.own.discipline; held = None; since = 0; filters = filters }
  mine : List Note
  silent : IsSilent mine
  noted : a.taken.memory ≡ a.rises ++ mine ++ map Sent (option_to_list a.shown)

-- one that can hold a packet is the same, whether it holds that packet or has given it
record IsApart (a : Asked) : Type 0 where
  discipline : a.peeked.own.discipline ≡ a.taken.own.discipline
  below : a.peeked.below ≡ a.taken.below

abbrev IsGiven : Option ℕ → List Filter → Asked → Type 0
IsGiven handle filters a = IsTaken handle filters a × IsApart a

module _ (now : ℕ) (handle : Option ℕ) (filters : List Filter) (below : List Asked) where
  tbf-given : (b : TokenBucket) (limit : ℕ) → IsGiven handle filters (ask_discipline now (own_of handle filters (spec.Tbf b limit)) below (spec.Tbf b limit))
  tbf-given b limit = child (slice_get below 0)
    where
      waiting : (a : Asked) → IsGiven handle filters (waits (own_of handle filters (spec.Tbf b limit)) below a)
      waiting a = (record { own = refl; mine = []; silent = silent-nil; noted = refl }, record { discipline = refl; below = refl })

      allowed : (a : Asked) (p : Descriptor) (may : Bool)
          → IsGiven handle filters (if may then spends (own_of handle filters (spec.Tbf b limit)) below b limit now a p else waits
          (own_of handle filters (spec.Tbf b limit)) below a)
      allowed a p true = (record { own = refl; mine = Spent p.len ∷ []; silent = spent-note p.len; noted = refl }, record { discipline = refl; below = refl })
      allowed a p false = waiting a

      packet : (a : Asked) (o : Option Descriptor)
          → IsGiven handle filters (option_map_or
          (λ (p : Descriptor). if allows b now p.len then spends (own_of handle filters (spec.Tbf b limit)) below b limit now a p else waits
          (own_of handle filters (spec.Tbf b limit)) below a) o (waits (own_of handle filters (spec.Tbf b limit)) below a))
      packet a None = waiting a
      packet a (Some p) = allowed a p (allows b now p.len)

      child : (o : Option Asked)
          → IsGiven handle filters (option_map_or (ask_child now (own_of handle filters (spec.Tbf b limit)) below b limit) o
          (dequeued (own_of handle filters (spec.Tbf b limit)) below
          (record { after = own_of handle filters (spec.Tbf b limit); children = []; rises = []; mine = []; packet = None; since = 0 })))
      child None = (record { own = refl; mine = []; silent = silent-nil; noted = refl }, record { discipline = refl; below = refl })
      child (Some a) = packet a a.shown

  drr-given : (s : Schedule) → IsGiven handle filters (ask_discipline now (own_of handle filters (spec.Drr s)) below (spec.Drr s))
  drr-given s = by (place_met s below)
    where
      nothing : IsGiven handle filters (gives_nothing (own_of handle filters (spec.Drr s)) below (service_of s below))
      nothing = (record { own = refl; mine = (service_of s below).grants; silent = notes-silent (choice_of (head_of s below) s) s.active; noted = refl }, record { discipline = refl; below = refl })

      serves : (i : ℕ) (a : Asked) (o : Option Descriptor)
          → IsGiven handle filters (option_map_or (class_gives (own_of handle filters (spec.Drr s)) below (service_of s below) i a) o
          (gives_nothing (own_of handle filters (spec.Drr s)) below (service_of s below)))
      serves i a None = nothing
      serves i a (Some p) = (
        record { own = refl; mine = (service_of s below).grants; silent = notes-silent (choice_of (head_of s below) s) s.active; noted = refl },
        record { discipline = refl; below = refl },
      )

      child : (i : ℕ) (o : Option Asked)
          → IsGiven handle filters (option_map_or (class_serves (own_of handle filters (spec.Drr s)) below (service_of s below) i) o
          (gives_nothing (own_of handle filters (spec.Drr s)) below (service_of s below)))
      child i None = nothing
      child i (Some a) = serves i a a.shown

      by : (o : Option ℕ)
          → IsGiven handle filters (option_map_or
          (λ i. option_map_or (class_serves (own_of handle filters (spec.Drr s)) below (service_of s below) i) (slice_get below i)
          (gives_nothing (own_of handle filters (spec.Drr s)) below (service_of s below))) o
          (gives_nothing (own_of handle filters (spec.Drr s)) below (service_of s below)))
      by None = nothing
      by (Some i) = child i (slice_get below i)

  taken-own : (d : spec.Discipline) → IsTaken handle filters (ask_discipline now (own_of handle filters d) below d)
  taken-own (spec.Fifo limit queue) = record { own = refl; mine = []; silent = silent-nil; noted = refl }
  taken-own (spec.Prio priomap) =
      let a : Asked = ask_discipline now (own_of handle filters (spec.Prio priomap)) below (spec.Prio priomap) in
      record { own = refl; mine = []; silent = silent-nil; noted = ap (λ (ns : List Note). ns ++ map Sent (option_to_list a.shown)) (sym (append-nil a.rises)) }
  taken-own (spec.Tbf b limit) = (tbf-given b limit).0
  taken-own (spec.Drr s) = (drr-given s).0
  taken-own (spec.FqCodel s) = record { own = refl; mine = flow_notes s (selected s) (sent_from now (selected s)); silent = flow-silent s (selected s) (sent_from now (selected s)); noted = refl }

  apart : (d : spec.Discipline) → CanHold d → IsApart (ask_discipline now (own_of handle filters d) below d)
  apart (spec.Fifo limit queue) can = absurd can
  apart (spec.Prio priomap) can = absurd can
  apart (spec.Tbf b limit) can = (tbf-given b limit).1
  apart (spec.Drr s) can = (drr-given s).1
  apart (spec.FqCodel s) can = record { discipline = refl; below = refl }

left-discipline : (a : Asked) (b : Bool) → IsApart a → a.peeked.own.discipline ≡ (if b then a.taken else a.peeked).own.discipline
left-discipline a true h = h.discipline
left-discipline a false h = refl

left-below : (a : Asked) (b : Bool) → IsApart a → a.peeked.below ≡ (if b then a.taken else a.peeked).below
left-below a true h = h.below
left-below a false h = refl

-- a discipline that can hold a packet: once it was asked, whether the packet is held then or was given
pub asked-sent-in : {sink sink2 : SinkState} (now : ℕ) (handle : Option ℕ) (filters : List Filter) (before after : Discipline) (s : Shown) → CanHold (discipline_seen before)
    → IsAskedIn (answer_of now handle filters before) before after s sink sink2 → IsSentIn (answer_of now handle filters before) before after s sink sink2
asked-sent-in now handle filters before after s can q =
    let x : Asked = answer_of now handle filters before in
    let h = apart now handle filters (answers now (children_seen before)) (discipline_seen before) can in
    record {
      discipline = q.discipline ∙ left-discipline x (is_some x.shown) h;
      children = record {
        long = q.children.long;
        nodes = q.children.nodes ∙ ap (each_booked kept (side_by_side (children_seen before))) (left-below x (is_some x.shown) h);
        within = q.children.within;
        shown = q.children.shown;
        told = q.children.told;
      };
      places = q.places;
    }

pub sent-in : {sink sink2 : SinkState} (now : ℕ) (handle : Option ℕ) (filters : List Filter) (before after : Discipline) (k k2 : spec.Discipline) (ns ns2 : List (Node Kept))
    (s : Shown)
    → discipline_seen before ≡ k → children_seen before ≡ ns
    → discipline_seen after ≡ k2 → children_seen after ≡ ns2 → places_seen after ≡ places_seen before → k2 ≡ (left_of (ask_discipline now (own_of handle filters k) (answers now ns) k)).own.discipline
    → AreSent (ask_discipline now (own_of handle filters k) (answers now ns) k) ns ns2 s sink sink2 → IsSentIn (answer_of now handle filters before) before after s sink sink2
sent-in {sink} {sink2} now handle filters before after k k2 ns ns2 s is kids is2 kids2 places discipline sent =
    let e = answer-is now handle filters before k ns is kids in
    subst (λ (a : Asked). IsSentIn a before after s sink sink2) (sym e) (record {
      discipline = is2 ∙ discipline;
      children = subst (λ xs. AreSent (ask_discipline now (own_of handle filters k) (answers now ns) k) xs (children_seen after) s sink sink2) (sym kids)
          (subst (λ xs. AreSent (ask_discipline now (own_of handle filters k) (answers now ns) k) ns xs s sink sink2) (sym kids2) sent);
      places = places;
    })

-- a prio keeps its own discipline
pub prio-left : (now : ℕ) (handle : Option ℕ) (filters : List Filter) (below : List Asked) (priomap : List ℕ)
    → spec.Prio priomap ≡ (left_of (ask_discipline now (own_of handle filters (spec.Prio priomap)) below (spec.Prio priomap))).own.discipline
prio-left now handle filters below priomap = by (is_some a.shown)
  where
    a : Asked
    a = ask_discipline now (own_of handle filters (spec.Prio priomap)) below (spec.Prio priomap)

    by : (b : Bool) → spec.Prio priomap ≡ (if b then a.taken else a.peeked).own.discipline
    by true = refl
    by false = refl

-- a fifo sends its head
pub fifo-sent : {sink : SinkState} (now : ℕ) (handle : Option ℕ) (filters : List Filter) (before after : Discipline) (limit : Limit) (queue : List Stamped) (s : Shown)
    → discipline_seen before ≡ spec.Fifo limit queue → children_seen before ≡ []
    → discipline_seen after ≡ spec.Fifo limit (drop 1 queue) → children_seen after ≡ [] → places_seen after ≡ places_seen before
    → s.packet ≡ slice_get (packets_of queue) 0 → s.dropped ≡ no_totals → s.marked ≡ no_totals
    → IsSentIn (answer_of now handle filters before) before after s sink sink
fifo-sent {sink} now handle filters before after limit queue s is kids is2 kids2 places packet dropped marked =
    sent-in now handle filters before after (spec.Fifo limit queue) (spec.Fifo limit (drop 1 queue)) [] [] s is kids is2 kids2 places (left queue)
    (record { long = refl; nodes = alone queue; within = λ t h. h; shown = record { packet = packet; dropped = dropped; marked = marked }; told = told_nothing sink })
  where
    left : (queue : List Stamped) → spec.Fifo limit (drop 1 queue) ≡ (left_of (ask_discipline now (own_of handle filters (spec.Fifo limit queue)) [] (spec.Fifo limit queue))).own.discipline
    left [] = refl
    left (x ∷ queue) = refl

    alone : (queue : List Stamped)
        → side_by_side [] ≡ each_booked kept (side_by_side [])
        (left_of (ask_discipline now (own_of handle filters (spec.Fifo limit queue)) [] (spec.Fifo limit queue))).below
    alone queue = refl

-- a node that holds a packet answers with that one
pub record IsHeldAnswer (now : ℕ) (n : Node Kept) (p : Descriptor) : Type 0 where
  pub packet : (ask now (shape n)).shown ≡ Some p
  pub rises : (ask now (shape n)).rises ≡ []

pub held-answer : (now : ℕ) (a : Inside) (n : Node Kept) (p : Descriptor) → seen a ≡ n → packet_held a.held ≡ Some p → IsHeldAnswer now n p
held-answer now a n p view e =
    subst (λ (m : Node Kept). IsHeldAnswer now m p) view
    (record { packet = ap (λ (x : Asked). x.shown) (ask-holding now a p e); rises = ap (λ (x : Asked). x.rises) (ask-holding now a p e) })

pub held-shows : (now : ℕ) (a : Inside) (n : Node Kept) (p : Descriptor) → seen a ≡ n → packet_held a.held ≡ Some p → (s : Shown)
    → s ≡ record { packet = Some p; dropped = no_totals; marked = no_totals } → IsShown (ask now (shape n)) s
held-shows now a n p view e s is =
    let h = held-answer now a n p view e in
    record {
      packet = ap (λ (x : Shown). x.packet) is ∙ sym h.packet;
      dropped = ap (λ (x : Shown). x.dropped) is ∙ ap (λ notes. (counts_in notes).dropped) (sym h.rises);
      marked = ap (λ (x : Shown). x.marked) is ∙ ap (λ notes. (counts_in notes).marked) (sym h.rises);
    }

held-nothing : (k : spec.Discipline) → held_in k None ≡ None
held-nothing (spec.Fifo limit queue) = refl
held-nothing (spec.Prio priomap) = refl
held-nothing (spec.Tbf b limit) = refl
held-nothing (spec.Drr s) = refl
held-nothing (spec.FqCodel s) = refl

pub record IsSentAs (now : ℕ) (n : Node Kept) (inside : Inside) : Type 0 where
  pub stays : IsKept inside
  pub after : seen inside ≡ booked kept n (take_from now (shape n)).node

module _ (now : ℕ) (a : Inside) (n : Node Kept) (k : IsKept a) (view : seen a ≡ n) (can : CanAsk now n) (none : packet_held a.held ≡ None)
    {sink sink2 : SinkState} (d : Discipline) (s : Shown) (q : IsSentIn (answer_of now a.handle a.filters a.discipline) a.discipline d s sink sink2) where
  here : CanAsk now (seen a)
  here = subst (CanAsk now) (sym view) can

  inside : IsShown (ask now (shape (seen a))) s
  inside = shown-inside now a n k view can none s q.children.shown

  module _ (r : Row) (fit : CanShow s a.row) (row : r ≡ with_shown s a.row) where
    -- where it shows nothing
    pub none-sent : s.packet ≡ None → IsSentAs now n (record a { row = r; discipline = d })
    none-sent empty =
        let x : Asked = answer_of now a.handle a.filters a.discipline in
        let silent : x.shown ≡ None = sym q.children.shown.packet ∙ empty in
        let left : left_of x ≡ x.peeked = ap (λ (o : Option Descriptor). if is_some o then x.taken else x.peeked) silent in
        let asked : IsAskedIn x a.discipline d s sink sink2 = record {
          discipline = q.discipline ∙ ap (λ (w : Worked). w.own.discipline) left;
          children = record {
            long = q.children.long;
            nodes = q.children.nodes ∙ ap (λ (w : Worked). each_booked kept (side_by_side (children_seen a.discipline)) w.below) left;
            within = q.children.within;
            shown = q.children.shown;
            told = q.children.told;
          };
          places = q.places;
        } in
        let done =
        peeked-done now a n k view can none d s asked r a.held fit row
        (empty-held a.held none ∙ ap (λ o. held_with o x.peeked.own.since)
        (sym (held-nothing (discipline_seen d)) ∙ ap (held_in (discipline_seen d)) (sym empty))) in
        record { stays = done.stays; after = done.after ∙ ap (λ (w : Worked). booked kept n w) (sym (left-none now n (sym (shown-here now a n k view can none s q.children.shown).packet ∙ empty))) }

    -- where it sends a packet: first that was at hand
    module _ (p : Descriptor) (some : s.packet ≡ Some p) where
      abbrev asked : Node Kept
      asked = booked kept (seen a) (ask now (shape (seen a))).peeked

      pub sent-row : IsRowOf r asked
      sent-row =
          let x : Asked = ask now (shape (seen a)) in
          subst (λ (y : Row). IsRowOf y asked) (sym row) (row-shown (seen a) a.row (row-of a k) asked x.rises s (asked-weighs now (seen a) here) inside.dropped inside.marked fit)

      offered : (ask now (shape (seen a))).shown ≡ Some p
      offered = sym inside.packet ∙ some

      hand : (pop asked).shown ≡ Some p
      hand = (popped-asked now (seen a) asked p here refl offered).at_hand

      pub sent-queued : IsAmong p r.queued
      sent-queued = among asked r sent-row p hand

      pub one-sent : (r2 : Row) → r2 ≡ with_sent p r → IsSentAs now n (record a { row = r2; discipline = d })
      one-sent r2 row2 =
          let x : Asked = answer_of now a.handle a.filters a.discipline in
          let is : ask now (shape (seen a)) ≡ x = ask-none now a none in
          let form = taken-own now a.handle a.filters (answers now (children_seen a.discipline)) (discipline_seen a.discipline) in
          let shows : x.shown ≡ Some p = sym q.children.shown.packet ∙ some in
          let left : left_of x ≡ x.taken = ap (λ (o : Option Descriptor). if is_some o then x.taken else x.peeked) shows in
          let quiet = subst (λ (y : Asked). IsQuiet y.rises) is (asked-weighs now (seen a) here).quiet in
          let notes : x.taken.memory ≡ (x.rises ++ form.mine) ++ Sent p ∷ [] =
          form.noted ∙ ap (λ (o : Option Descriptor). x.rises ++ form.mine ++ map Sent (option_to_list o)) shows in
          let counts : counts_in_row r2 ≡ noted totals (counts_in_row a.row) x.taken.memory =
          ap counts_in_row row2
          ∙ ap (λ c. counted c (Sent p)) (ap counts_in_row row ∙ counted-shown x.rises form.mine s a.row quiet form.silent q.children.shown.dropped q.children.shown.marked)
          ∙ sym (noted-push totals (counts_in_row a.row) (x.rises ++ form.mine) (Sent p)) ∙ ap (noted totals (counts_in_row a.row)) (sym notes) in
          let memory : record { counts = counts_in_row r2; places = places_seen d } ≡ noted kept (seen a).memory x.taken.memory =
          (λ i. record { counts = counts i; places = q.places i }) ∙ sym (noted-kept (seen a).memory x.taken.memory) in
          let discipline : discipline_seen d ≡ x.taken.own.discipline = q.discipline ∙ ap (λ (w : Worked). w.own.discipline) left in
          let own : record { handle = a.handle; discipline = discipline_seen d; held = packet_held a.held; since = since_held a.held; filters = a.filters } ≡ x.taken.own =
          (λ i. record {
            handle = a.handle;
            discipline = discipline i;
            held = packet_held (empty-held a.held none i);
            since = since_held
                (empty-held a.held none i);
            filters = a.filters;
          }) ∙ sym form.own in
          let below : side_by_side (children_seen d) ≡ each_booked kept (side_by_side (children_seen a.discipline)) x.taken.below =
          q.children.nodes ∙ ap (λ (w : Worked). each_booked kept (side_by_side (children_seen a.discipline)) w.below) left in
          let value : seen (record a { row = r2; discipline = d }) ≡ booked kept (seen a) (ask now (shape (seen a))).taken =
          (λ i. record { own = own i; memory = memory i; below = below i }) ∙ ap (λ (y : Asked). booked kept (seen a) y.taken) (sym is) in
          let gone : booked kept asked (pop asked).after ≡ booked kept (seen a) (ask now (shape (seen a))).taken = (popped-asked now (seen a) asked p here refl offered).left in
          let counted_row : a.row.arrived ≡ r2.arrived = sym (ap (λ (y : Row). y.arrived) row) ∙ sym (ap (λ (y : Row). y.arrived) row2) in
          record {
            stays = kept-of (record a { row = r2; discipline = d })
                (subst (IsRowOf r2) (gone ∙ sym value) (subst (λ (y : Row). IsRowOf y (booked kept asked (pop asked).after)) (sym row2) (row-popped asked r sent-row p hand)))
                (subst (λ t. All (λ (child : Node Kept). IsCountedWithin child.memory.counts.arrived t) (children_seen d)) counted_row (q.children.within a.row.arrived k.within));
            after = value
                ∙ ap (λ (w : Worked). booked kept (seen a) w) (sym (left-some now (seen a) p offered))
                ∙ ap (λ (m : Node Kept). booked kept m (take_from now (shape m)).node) view;
          }
