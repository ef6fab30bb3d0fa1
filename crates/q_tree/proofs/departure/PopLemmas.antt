-- Which band of a prio gives, and what popping leaves of a node.
use Rattle.std.proofs.Common.{◌≡◌, ℕ, zero, suc, ◌+◌, ◌≤◌, ◌<◌, ◌∙◌, List, [], ◌∷◌, map, drop, set, length, refl, sym, ap, ap₂, subst, arith, Option, Some, None, option_map, option_and_then, option_to_list}
use Rattle.std.specs.Prelude.{Bool, true, false, not, cond, is_some, slice_get, slice_index_or}
use Rattle.std.specs.List.{All}
use Rattle.std.proofs.lemmas.List.{drop_all, length-map, length-set}
use Rattle.std.proofs.lemmas.List.Elements.{All-set}
use Rattle.std.proofs.lemmas.Option.{slice_get-map, slice_get_within, same_Some, none-some, get_or_from_slice_get, slice_get-get_or}
use Rattle.q_packet.specs.Descriptor.{Descriptor}
use Rattle.q_codel.specs.declared.limit.Limit.{Limit}
use Rattle.q_model.specs.declared.row.Row.{Row}
use Rattle.q_model.specs.declared.totals.Totals.{Totals}
use Rattle.q_model.specs.declared.filter.Filter.{Filter}
use Rattle.q_model.specs.Lawful.{CanHold}
use Rattle.q_model.specs.Node as spec
use Rattle.q_model.specs.Node.{Own, Node, Forest, more, none, side_by_side, each, each_memory, with_memory}
use Rattle.q_model.specs.Pop.{Popping, as_they_are, first_ready, first_shown, popped_at, pop_discipline, pop_own, pop}
use Rattle.q_model.specs.Tally.{Tally, Note, Sent, noted, totals}
use Rattle.q_model.specs.Work.{Worked, worked, booked, each_booked}
use Rattle.q_invariants.proofs.ask.Pops.{pop-before}
use Rattle.q_invariants.proofs.tree.Forests.{each-side}
use Rattle.q_invariants.proofs.tree.Members.{All-at}
use Rattle.q_tree.specs.departure.AskSteps.{own_of}
use Rattle.q_tree.specs.departure.PopSteps.{ArePopped, IsPoppedIn, popping_of, with_sent}
use Rattle.q_tree.specs.Kept.{Kept, kept}
use Rattle.q_tree.specs.Seen.{seen, discipline_seen, children_seen, places_seen, IsKept, IsCountedWithin}
use Rattle.q_tree.specs.declared.node.Discipline.{Discipline}
use Rattle.q_tree.specs.declared.node.Node.TheInside.{Inside}
use Rattle.q_tree.proofs.counters.Rows.{counts_in_row}
use Rattle.q_tree.proofs.counters.RowsOf.{IsRowOf, row-of, kept-of, row-popped, row-still}
use Rattle.q_tree.proofs.departure.Asking.{set-same}
use Rattle.q_tree.proofs.departure.Forms.{noted-kept}
use Rattle.q_tree.proofs.disciplines.AtHandLemmas.{front-of, first-some, first-none}
use Rattle.q_tree.specs.departure.Holding.{packet_held, since_held}
use Rattle.q_packet.specs.declared.stamped.Stamped.{Stamped}
use Rattle.q_tree.proofs.departure.HeldLemmas.{empty-held}

-- the bands before this place have nothing at hand
abbrev pub NoneBefore : ℕ → List (Node Kept) → Type 0
NoneBefore i ns = first_ready (map pop ns) ≡ i + first_ready (map pop (drop i ns))

front-at : (ns : List (Node Kept)) (i : ℕ) (x : Node Kept) → slice_get ns i ≡ Some x → map pop (drop i ns) ≡ pop x ∷ map pop (drop (i + 1) ns)
front-at ns i x at = front-of ns i x (slice_get_within ns i x at) (sym (get_or_from_slice_get ns i x x at))

pub ready-here : (ns : List (Node Kept)) (i : ℕ) (x : Node Kept) → slice_get ns i ≡ Some x → is_some (pop x).shown ≡ true → NoneBefore i ns → i ≡ first_ready (map pop ns)
ready-here ns i x at some before =
    let front : first_ready (map pop (drop i ns)) ≡ 0 =
    ap first_ready (front-at ns i x at) ∙ ap (λ (b : Bool). cond (not b) (1 + first_ready (map pop (drop (i + 1) ns))) 0) some in
    omega (arith, before, front)

pub ready-next : (ns : List (Node Kept)) (i : ℕ) (x : Node Kept) → slice_get ns i ≡ Some x → is_some (pop x).shown ≡ false → NoneBefore i ns → NoneBefore (i + 1) ns
ready-next ns i x at nothing before =
    let front : first_ready (map pop (drop i ns)) ≡ 1 + first_ready (map pop (drop (i + 1) ns)) =
    ap first_ready (front-at ns i x at) ∙ ap (λ (b : Bool). cond (not b) (1 + first_ready (map pop (drop (i + 1) ns))) 0) nothing in
    omega (arith, before, front)

pub ready-none : (ns : List (Node Kept)) (i : ℕ) → length ns ≤ i → i ≤ length ns → NoneBefore i ns → first_ready (map pop ns) ≡ length (map pop ns)
ready-none ns i past inside before =
    let rest : first_ready (map pop (drop i ns)) ≡ 0 = ap (λ (xs : List (Node Kept)). first_ready (map pop xs)) (drop_all i ns past) in
    omega (arith, before, rest, past, inside, length-map ns pop)

-- children of which nothing is popped stay as they are
still-booked : {M : Type 0} (t : Tally M) (x : Forest M) → each_booked t x (each_memory (λ u. []) x) ≡ x
still-booked t none = refl
still-booked t (more own m below others) = ap₂ (λ b o. more own m b o) (still-booked t below) (still-booked t others)

pub side-still : (ns : List (Node Kept)) → each_booked kept (side_by_side ns) (side_by_side (as_they_are (map pop ns))) ≡ side_by_side ns
side-still [] = refl
side-still (n ∷ ns) =
    ap (λ (w : Worked). each_booked kept (side_by_side (n ∷ ns)) (side_by_side (w ∷ as_they_are (map pop ns)))) (pop-before n)
    ∙ ap₂ (λ b o. more n.own n.memory b o) (still-booked kept n.below) (side-still ns)

-- and one of them gives
pub side-popped : (ns : List (Node Kept)) (k : ℕ) (c : Node Kept) → slice_get ns k ≡ Some c
    → each_booked kept (side_by_side ns) (side_by_side (popped_at k (map pop ns))) ≡ side_by_side (set ns k (booked kept c (pop c).after))
side-popped [] k c e = cc
side-popped (n ∷ ns) zero c e =
    ap (λ (o : Forest Kept). more (pop n).after.own (noted kept n.memory (pop n).after.memory) (each_booked kept n.below (pop n).after.below) o) (side-still ns)
    ∙ ap (λ (x : Node Kept). side_by_side (booked kept x (pop x).after ∷ ns)) (same_Some n c e)
side-popped (n ∷ ns) (suc k) c e =
    ap (λ (w : Worked). each_booked kept (side_by_side (n ∷ ns)) (side_by_side (w ∷ popped_at k (map pop ns)))) (pop-before n)
    ∙ ap₂ (λ b o. more n.own n.memory b o) (still-booked kept n.below) (side-popped ns k c e)

-- a prio whose first ready band gives
pub prio-gave : (ns : List (Node Kept)) (k : ℕ) (c : Node Kept) → slice_get ns k ≡ Some c → k ≡ first_ready (map pop ns) → (pop c).shown ≡ first_shown (map pop ns)
prio-gave ns k c at is =
    sym (ap (option_and_then (λ (b : Popping). b.shown)) (slice_get-map pop ns k ∙ ap (option_map pop) at)) ∙ ap (λ n. option_and_then (λ (b : Popping). b.shown) (slice_get (map pop ns) n)) is

pub prio-children : (ns : List (Node Kept)) (k : ℕ) (c c2 : Node Kept) → slice_get ns k ≡ Some c → k ≡ first_ready (map pop ns) → c2 ≡ booked kept c (pop c).after
    → side_by_side (set ns k c2) ≡ each_booked kept (side_by_side ns) (side_by_side (popped_at (first_ready (map pop ns)) (map pop ns)))
prio-children ns k c c2 at is new =
    ap (λ (x : Node Kept). side_by_side (set ns k x)) new ∙ sym (side-popped ns k c at) ∙ ap (λ n. each_booked kept (side_by_side ns) (side_by_side (popped_at n (map pop ns)))) is

-- and one of which none is ready
past-all : (bs : List Popping) → popped_at (length bs) bs ≡ as_they_are bs
past-all [] = refl
past-all (b ∷ bs) = ap (λ (ws : List Worked). b.before ∷ ws) (past-all bs)

pub none-there : {A : Type 0} (xs : List A) → slice_get xs (length xs) ≡ None
none-there [] = refl
none-there (x ∷ xs) = none-there xs

pub prio-kept : (ns : List (Node Kept)) → first_ready (map pop ns) ≡ length (map pop ns)
    → side_by_side ns ≡ each_booked kept (side_by_side ns) (side_by_side (popped_at (first_ready (map pop ns)) (map pop ns)))
prio-kept ns is =
    sym (side-still ns) ∙ ap (λ (ws : List Worked). each_booked kept (side_by_side ns) (side_by_side ws)) (sym (past-all (map pop ns)))
    ∙ ap (λ n. each_booked kept (side_by_side ns) (side_by_side (popped_at n (map pop ns)))) (sym is)

pub nothing-shown : (ns : List (Node Kept)) → first_ready (map pop ns) ≡ length (map pop ns) → None ≡ first_shown (map pop ns)
nothing-shown ns is = sym (ap (option_and_then (λ (b : Popping). b.shown)) (none-there (map pop ns))) ∙ ap (λ n. option_and_then (λ (b : Popping). b.shown) (slice_get (map pop ns) n)) (sym is)

-- a node that has none at hand stays as it is
none-ready : (bs : List Popping) → first_shown bs ≡ None → popped_at (first_ready bs) bs ≡ as_they_are bs
none-ready [] e = refl
none-ready (b ∷ bs) e = by b.shown refl (none-ready bs)
  where
    by : (o : Option Descriptor) → b.shown ≡ o → (first_shown bs ≡ None → popped_at (first_ready bs) bs ≡ as_they_are bs) → popped_at (first_ready (b ∷ bs)) (b ∷ bs) ≡ as_they_are (b ∷ bs)
    by (Some p) is others = absurd (none-some p (sym e ∙ first-some b bs p is))
    by None is others =
        let later : first_ready (b ∷ bs) ≡ suc (first_ready bs) = ap (λ (o : Option Descriptor). cond (not (is_some o)) (1 + first_ready bs) 0) is ∙ omega arith in
        ap (λ n. popped_at n (b ∷ bs)) later ∙ ap (λ (ws : List Worked). b.before ∷ ws) (others (sym (first-none b bs is) ∙ e))

module _ (own : Own) (bs : List Popping) where
  abbrev own_as : Option Descriptor → spec.Discipline → Own
  own_as o d = record own { held = o; discipline = d }

  fifo-still : (limit : Limit) (queue : List Stamped) → (pop_own (own_as None (spec.Fifo limit queue)) bs).shown ≡ None
      → (pop_own (own_as None (spec.Fifo limit queue)) bs).after ≡ (pop_own (own_as None (spec.Fifo limit queue)) bs).before
  fifo-still limit [] e = refl
  fifo-still limit (x ∷ queue) e = cc

  still-as : (o : Option Descriptor) (d : spec.Discipline) → (pop_own (own_as o d) bs).shown ≡ None → (pop_own (own_as o d) bs).after ≡ (pop_own (own_as o d) bs).before
  still-as (Some p) d e = cc
  still-as None (spec.Fifo limit queue) e = fifo-still limit queue e
  still-as None (spec.Prio priomap) e =
      ap₂ (λ (o : Option Descriptor) (ws : List Worked). worked (own_as None (spec.Prio priomap)) (map Sent (option_to_list o)) ws) e (none-ready bs e)
  still-as None (spec.Tbf b limit) e = refl
  still-as None (spec.Drr s) e = refl
  still-as None (spec.FqCodel s) e = refl

  own-still : (pop_own own bs).shown ≡ None → (pop_own own bs).after ≡ (pop_own own bs).before
  own-still = still-as own.held own.discipline

pub pop-still : (n : Node Kept) → (pop n).shown ≡ None → booked kept n (pop n).after ≡ n
pop-still n e =
    ap (λ (w : Worked). booked kept n w) (own-still n.own (each pop_own n.below) e ∙ pop-before n)
    ∙ ap (λ b. record { own = n.own; memory = n.memory; below = b }) (still-booked kept n.below)

-- a node that pops
abbrev bands_of : Inside → List Popping
bands_of a = map pop (children_seen a.discipline)

pop-is : (a : Inside) → pop (seen a) ≡ pop_own (seen a).own (bands_of a)
pop-is a = ap (pop_own (seen a).own) (each-side pop_own (children_seen a.discipline))

pub record IsPoppedAs (n : Node Kept) (inside : Inside) (packet : Option Descriptor) : Type 0 where
  pub shown : packet ≡ (pop n).shown
  pub stays : IsKept inside
  pub after : seen inside ≡ booked kept n (pop n).after

pub popped : (a : Inside) (k : IsKept a) (p : Descriptor) → (pop (seen a)).shown ≡ Some p → (held : Option Stamped) (d : Discipline) (r : Row) → r ≡ with_sent p a.row
    → seen (record a { held = held; row = r; discipline = d }) ≡ booked kept (seen a) (pop (seen a)).after
    → All (λ (child : Node Kept). IsCountedWithin child.memory.counts.arrived a.row.arrived) (children_seen d) → IsPoppedAs (seen a) (record a { held = held; row = r; discipline = d }) (Some p)
popped a k p e held d r row value within =
    let m : Node Kept = booked kept (seen a) (pop (seen a)).after in
    record {
      shown = sym e;
      stays = kept-of (record a { held = held; row = r; discipline = d }) (subst (IsRowOf r) (sym value) (subst (λ (x : Row). IsRowOf x m) (sym row) (row-popped (seen a) a.row (row-of a k) p e)))
          (subst (λ (x : Row). All (λ (child : Node Kept). IsCountedWithin child.memory.counts.arrived x.arrived) (children_seen d)) (sym row) within);
      after = value;
    }

-- a node that held its packet
module _ (a : Inside) (p : Descriptor) (e : packet_held a.held ≡ Some p) where
  abbrev own_with : Option Descriptor → Own
  own_with o = record { handle = a.handle; discipline = discipline_seen a.discipline; held = o; since = since_held a.held; filters = a.filters }

  -- once the packet has left
  abbrev own_gone : Own
  own_gone = record (own_with None) { since = 0 }

  pub held-shown : (pop (seen a)).shown ≡ Some p
  held-shown = ap (λ (b : Popping). b.shown) (pop-is a) ∙ ap (λ (o : Option Descriptor). (pop_own (own_with o) (bands_of a)).shown) e

  pub held-after : (r : Row) → r ≡ with_sent p a.row → seen (record a { held = None; row = r }) ≡ booked kept (seen a) (pop (seen a)).after
  held-after r row =
      let after : (pop (seen a)).after ≡ worked own_gone (Sent p ∷ []) (as_they_are (bands_of a)) =
      ap (λ (b : Popping). b.after) (pop-is a) ∙ ap (λ (o : Option Descriptor). (pop_own (own_with o) (bands_of a)).after) e in
      let below : side_by_side (children_seen a.discipline) ≡ each_booked kept (side_by_side (children_seen a.discipline))
      (side_by_side (as_they_are (bands_of a))) = sym (side-still (children_seen a.discipline)) in
      let counts : counts_in_row r ≡ counts_in_row (with_sent p a.row) = ap counts_in_row row in
      (λ i. record { own = own_gone; memory = record { counts = counts i; places = places_seen a.discipline }; below = below i })
      ∙ ap (λ (w : Worked). booked kept (seen a) w) (sym after)

-- one that had it in its own queue, or beneath
shown-is : (handle : Option ℕ) (filters : List Filter) (d : spec.Discipline) (bs : List Popping)
    → (pop_discipline (own_of handle filters d) bs d).shown ≡ (pop_discipline (own_of None [] d) bs d).shown
shown-is handle filters (spec.Fifo limit queue) bs = refl
shown-is handle filters (spec.Prio priomap) bs = refl
shown-is handle filters (spec.Tbf b limit) bs = refl
shown-is handle filters (spec.Drr s) bs = refl
shown-is handle filters (spec.FqCodel s) bs = refl

after-is : (handle : Option ℕ) (filters : List Filter) (d : spec.Discipline) (bs : List Popping) → (let b = pop_discipline (own_of None [] d) bs d in
    (pop_discipline (own_of handle filters d) bs d).after ≡ record { own = own_of handle filters b.after.own.discipline; memory = map Sent (option_to_list b.shown); below = b.after.below })
after-is handle filters (spec.Fifo limit queue) bs = refl
after-is handle filters (spec.Prio priomap) bs = refl
after-is handle filters (spec.Tbf b limit) bs = refl
after-is handle filters (spec.Drr s) bs = refl
after-is handle filters (spec.FqCodel s) bs = refl

module _ (a : Inside) (none : packet_held a.held ≡ None) (d : Discipline) (packet : Option Descriptor) (shown : packet ≡ (popping_of a.discipline).shown) (q : IsPoppedIn a.discipline d) where
  nothing : a.held ≡ None
  nothing = empty-held a.held none

  abbrev here : Option Stamped → Own
  here o = record { handle = a.handle; discipline = discipline_seen a.discipline; held = packet_held o; since = since_held o; filters = a.filters }

  pub own-shown : (pop (seen a)).shown ≡ packet
  own-shown =
      ap (λ (b : Popping). b.shown) (pop-is a) ∙ ap (λ (o : Option Stamped). (pop_own (here o) (bands_of a)).shown) nothing
      ∙ shown-is a.handle a.filters (discipline_seen a.discipline) (bands_of a) ∙ sym shown

  pub own-after : (r : Row) → counts_in_row r ≡ noted totals (counts_in_row a.row) (map Sent (option_to_list packet))
      → seen (record a { row = r; discipline = d }) ≡ booked kept (seen a) (pop (seen a)).after
  own-after r row =
      let notes : List Note = map Sent (option_to_list packet) in
      let b : Popping = popping_of a.discipline in
      let left : Own = own_of a.handle a.filters b.after.own.discipline in
      let after : (pop (seen a)).after ≡ record { own = left; memory = notes; below = b.after.below } =
      ap (λ (b : Popping). b.after) (pop-is a) ∙ ap (λ (o : Option Stamped). (pop_own (here o) (bands_of a)).after) nothing ∙ after-is a.handle a.filters (discipline_seen a.discipline) (bands_of a)
      ∙ ap (λ (o : Option Descriptor). record { own = left; memory = map Sent (option_to_list o); below = b.after.below }) (sym shown) in
      let memory : record { counts = counts_in_row r; places = places_seen d } ≡ noted kept (seen a).memory notes =
      (λ i. record { counts = row i; places = q.places i }) ∙ sym (noted-kept (seen a).memory notes) in
      (λ i. record {
        own = record {
          handle = a.handle;
          discipline = q.discipline i;
          held = packet_held (nothing i);
          since = since_held (nothing i);
          filters = a.filters;
        };
        memory = memory i;
        below = q.children i;
      })
      ∙ ap (λ (w : Worked). booked kept (seen a) w) (sym after)

  -- where there is none, all stays
  pub still-kept : IsKept a → packet ≡ None → IsPoppedAs (seen a) (record a { discipline = d }) None
  still-kept k e =
      let hidden : (pop (seen a)).shown ≡ None = own-shown ∙ e in
      let value : seen (record a { discipline = d }) ≡ booked kept (seen a) (pop (seen a)).after =
      own-after a.row (ap (λ (o : Option Descriptor). noted totals (counts_in_row a.row) (map Sent (option_to_list o))) (sym e)) in
      record {
        shown = sym hidden;
        stays = kept-of (record a { discipline = d }) (subst (IsRowOf a.row) (sym value) (row-still (seen a) a.row (row-of a k) hidden)) (q.within a.row.arrived k.within);
        after = value;
      }

  pub gave : IsKept a → (p : Descriptor) → packet ≡ Some p → (r : Row) → r ≡ with_sent p a.row → IsPoppedAs (seen a) (record a { row = r; discipline = d }) (Some p)
  gave k p e r row = popped a k p (own-shown ∙ e) a.held d r row
      (own-after r (ap counts_in_row row ∙ ap (λ (o : Option Descriptor). noted totals (counts_in_row a.row) (map Sent (option_to_list o))) (sym e))) (q.within a.row.arrived k.within)

-- a discipline of which nothing is popped
pub none-popped : (d : Discipline) → CanHold (discipline_seen d) → IsPoppedIn d d
none-popped d can = record {
  discipline = by (discipline_seen d) can;
  children = sym (side-still (children_seen d)) ∙ ap (each_booked kept (side_by_side (children_seen d))) (kids (discipline_seen d) can);
  within = λ t h. h;
  places = refl;
}
  where
    by : (x : spec.Discipline) → CanHold x → x ≡ (pop_discipline (own_of None [] x) (map pop (children_seen d)) x).after.own.discipline
    by (spec.Fifo limit queue) can = absurd can
    by (spec.Prio priomap) can = absurd can
    by (spec.Tbf b limit) can = refl
    by (spec.Drr s) can = refl
    by (spec.FqCodel s) can = refl

    kids : (x : spec.Discipline) → CanHold x → side_by_side (as_they_are (map pop (children_seen d))) ≡ (pop_discipline (own_of None [] x) (map pop (children_seen d)) x).after.below
    kids (spec.Fifo limit queue) can = absurd can
    kids (spec.Prio priomap) can = absurd can
    kids (spec.Tbf b limit) can = refl
    kids (spec.Drr s) can = refl
    kids (spec.FqCodel s) can = refl

-- a prio, before and after
pub prio-popped : (before after : Discipline) (ns ns2 : List (Node Kept)) (priomap : List ℕ) → discipline_seen before ≡ spec.Prio priomap
    → discipline_seen after ≡ spec.Prio priomap → children_seen before ≡ ns → children_seen after ≡ ns2 → places_seen after ≡ places_seen before
    → ArePopped ns ns2 → IsPoppedIn before after
prio-popped before after ns ns2 priomap is is2 kids kids2 places popped =
    let b : Popping = pop_discipline (own_of None [] (spec.Prio priomap)) (map pop ns) (spec.Prio priomap) in
    let same : popping_of before ≡ b = ap₂ (λ d xs. pop_discipline (own_of None [] d) (map pop xs) d) is kids in
    record {
      discipline = is2 ∙ ap (λ (x : Popping). x.after.own.discipline) (sym same);
      children = ap side_by_side kids2 ∙ popped.nodes ∙ sym (ap₂ (λ xs (x : Popping). each_booked kept (side_by_side xs) x.after.below) kids same);
      within =
          λ t h. subst (All (λ (child : Node Kept). IsCountedWithin child.memory.counts.arrived t)) (sym kids2)
          (popped.within t (subst (All (λ (child : Node Kept). IsCountedWithin child.memory.counts.arrived t)) kids h));
      places = places;
    }

pub set-within : (ns : List (Node Kept)) (k : ℕ) (c c2 : Node Kept) → slice_get ns k ≡ Some c → c2.memory.counts.arrived ≡ c.memory.counts.arrived → (t : Totals)
    → All (λ (child : Node Kept). IsCountedWithin child.memory.counts.arrived t) ns → All (λ (child : Node Kept). IsCountedWithin child.memory.counts.arrived t) (set ns k c2)
set-within ns k c c2 at same t h =
    All-set (λ (child : Node Kept). IsCountedWithin child.memory.counts.arrived t) ns k c2
    (subst (λ (x : Totals). IsCountedWithin x t) (sym same)
    (All-at (λ (child : Node Kept). IsCountedWithin child.memory.counts.arrived t) ns k c h at)) h

-- the band that comes next, where all are as they were
pub band-here : (ns ms : List (Node Kept)) (i : ℕ) (d : Node Kept) → ms ≡ ns → i < length ns → slice_get ns i ≡ Some (slice_index_or ms i d)
band-here ns ms i d same inside = slice_get-get_or ns i d inside ∙ ap (λ xs. Some (slice_index_or xs i d)) (sym same)

-- the bands up to this place had none at hand; the one there
module _ (ns : List (Node Kept)) (i : ℕ) (x y : Node Kept) (at : slice_get ns i ≡ Some x) (before : NoneBefore i ns) (gone : y ≡ booked kept x (pop x).after) where
  -- has none either
  pub band-still : (pop x).shown ≡ None → set ns i y ≡ ns
  band-still nothing = ap (set ns i) (gone ∙ pop-still x nothing) ∙ set-same ns i x at

  -- or hands it out
  pub band-gave : is_some (pop x).shown ≡ true → (pop x).shown ≡ first_shown (map pop ns)
  band-gave some = prio-gave ns i x at (ready-here ns i x at some before)

  pub bands-popped : is_some (pop x).shown ≡ true → y.memory.counts.arrived ≡ x.memory.counts.arrived → ArePopped ns (set ns i y)
  bands-popped some arrived = record {
    long = length-set ns i y;
    nodes = prio-children ns i x y at (ready-here ns i x at some before) gone;
    within = set-within ns i x y at arrived;
  }

-- and none of them has one
pub bands-still : (ns : List (Node Kept)) → first_ready (map pop ns) ≡ length (map pop ns) → ArePopped ns ns
bands-still ns nothing = record { long = refl; nodes = prio-kept ns nothing; within = λ t h. h }
