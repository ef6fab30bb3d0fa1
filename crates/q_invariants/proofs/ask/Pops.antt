-- A node that was asked and shows a packet gives it where it is popped, and is then what a take leaves.
use Rattle.std.proofs.Common.{◌≡◌, ℕ, suc, List, [], ◌∷◌, ◌++◌, map, take, drop, set, refl, sym, ap, ap₂, subst, Option, Some, None, option_map, option_and_then, option_to_list, flat_map, ◌∙◌, arith}
use Rattle.std.specs.Prelude.{Bool, true, false, not, cond, is_some, slice_get, if◌then◌else◌, ◌+◌}
use Rattle.std.specs.List.{position_or_len}
use Rattle.std.specs.Option.{option_map_or}
use Rattle.std.proofs.lemmas.List.{append-nil}
use Rattle.std.proofs.lemmas.Bool.{false≢true}
use Rattle.q_packet.specs.Descriptor.{Descriptor}
use Rattle.q_packet.specs.declared.cause.Cause.TheVariants.{CoDel}
use Rattle.q_packet.specs.declared.stamped.Stamped.{Stamped}
use Rattle.q_codel.specs.declared.limit.Limit.{Limit}
use Rattle.q_codel.specs.declared.codel.Taken.{Taken}
use Rattle.q_fqcodel.specs.Take.{selected, sent_from, dropped_from, after_sending, head_sent}
use Rattle.q_bucket.specs.Level.{TokenBucket, allows, after_spend}
use Rattle.q_drr.specs.Schedule.{Schedule}
use Rattle.q_model.specs.declared.filter.Filter.{Filter}
use Rattle.q_model.specs.Tally.{Tally, Note, Sent, Spent, noted}
use Rattle.q_model.specs.Node.{Discipline, Fifo, Prio, Tbf, Drr, FqCodel, Own, Forest, none, more, Node, Shape, side_by_side, each, each_memory, with_memory}
use Rattle.q_model.specs.Beneath.{packets_of, is_empty}
use Rattle.q_model.specs.Quanta.{flow_notes}
use Rattle.q_model.specs.Lawful.{CanHold}
use Rattle.q_model.specs.Work.{Worked, worked, each_booked, booked, losses_of, settled_class}
use Rattle.q_model.specs.Ask.{Asked, befores, dequeued, waits, spends, ask_fifo, ask_prio, ask_child, ask_tbf, service_of, place_met, gives_nothing, class_gives, class_serves, ask_drr, marks_of, ask_own, ask, since_shown}
use Rattle.q_model.specs.Pop.{Popping, as_they_are, first_ready, popped_at, giving, pop_prio, pop_discipline, pop_own, pop}
use Rattle.q_invariants.proofs.tree.Forests.{each-side}
use Rattle.q_model.specs.Since.{since_of}

-- one piece of work after another, as one
abbrev pub AreThen : Forest (List Note) → Forest (List Note) → Forest (List Note) → Type 0
AreThen none none none = Unit {0}
AreThen none none (more o n b r) = ⊥
AreThen none (more o n b r) none = ⊥
AreThen none (more o n b r) (more o2 n2 b2 r2) = ⊥
AreThen (more o n b r) none none = ⊥
AreThen (more o n b r) none (more o2 n2 b2 r2) = ⊥
AreThen (more o n b r) (more o2 n2 b2 r2) none = ⊥
AreThen (more o n b r) (more o2 n2 b2 r2) (more o3 n3 b3 r3) = (o3 ≡ o2) × (n3 ≡ n ++ n2) × AreThen b b2 b3 × AreThen r r2 r3

pub record IsThen (first second both : Worked) : Type 0 where
  pub own : both.own ≡ second.own
  pub memory : both.memory ≡ first.memory ++ second.memory
  pub below : AreThen first.below second.below both.below

noted-append : {M : Type 0} (t : Tally M) (m : M) (ms ns : List Note) → noted t (noted t m ms) ns ≡ noted t m (ms ++ ns)
noted-append t m [] ns = refl
noted-append t m (n ∷ ms) ns = noted-append t (t.more m n) ms ns

booked-each : {M : Type 0} (t : Tally M) (x : Forest M) (a b c : Forest (List Note)) → AreThen a b c → each_booked t (each_booked t x a) b ≡ each_booked t x c
booked-each t none none none none h = refl
booked-each t none none none (more o n b r) h = absurd h
booked-each t none none (more o n b r) none h = absurd h
booked-each t none none (more o n b r) (more o2 n2 b2 r2) h = absurd h
booked-each t none (more o n b r) none none h = absurd h
booked-each t none (more o n b r) none (more o2 n2 b2 r2) h = absurd h
booked-each t none (more o n b r) (more o2 n2 b2 r2) none h = absurd h
booked-each t none (more o n b r) (more o2 n2 b2 r2) (more o3 n3 b3 r3) h = refl
booked-each t (more ox m bx rx) none none none h = refl
booked-each t (more ox m bx rx) none none (more o n b r) h = absurd h
booked-each t (more ox m bx rx) none (more o n b r) none h = absurd h
booked-each t (more ox m bx rx) none (more o n b r) (more o2 n2 b2 r2) h = absurd h
booked-each t (more ox m bx rx) (more o n b r) none none h = absurd h
booked-each t (more ox m bx rx) (more o n b r) none (more o2 n2 b2 r2) h = absurd h
booked-each t (more ox m bx rx) (more o n b r) (more o2 n2 b2 r2) none h = absurd h
booked-each t (more ox m bx rx) (more o n b r) (more o2 n2 b2 r2) (more o3 n3 b3 r3) h =
    let memory : noted t (noted t m n) n2 ≡ noted t m n3 = noted-append t m n n2 ∙ ap (noted t m) (sym h.1) in
    let below : each_booked t (each_booked t bx b) b2 ≡ each_booked t bx b3 = booked-each t bx b b2 b3 h.2 in
    let others : each_booked t (each_booked t rx r) r2 ≡ each_booked t rx r3 = booked-each t rx r r2 r3 h.3 in
    let own : o2 ≡ o3 = sym h.0 in
    λ i. more (own i) (memory i) (below i) (others i)

pub booked-then : {M : Type 0} (t : Tally M) (n : Node M) (a b c : Worked) → IsThen a b c → booked t (booked t n a) b ≡ booked t n c
booked-then t n a b c h =
    let memory : noted t (noted t n.memory a.memory) b.memory ≡ noted t n.memory c.memory = noted-append t n.memory a.memory b.memory ∙ ap (noted t n.memory) (sym h.memory) in
    let below : each_booked t (each_booked t n.below a.below) b.below ≡ each_booked t n.below c.below = booked-each t n.below a.below b.below c.below h.below in
    let own : b.own ≡ c.own = sym h.own in
    λ i. record { own = own i; memory = memory i; below = below i }

-- work after which nothing happens
abbrev pub still : {M : Type 0} → Node M → Worked
still n = with_memory (λ u. []) n

still-each : (x : Forest (List Note)) → AreThen x (each_memory (λ u. []) x) x
still-each none = tt
still-each (more o n b r) = (refl, sym (append-nil n), still-each b, still-each r)

-- what is popped was as it is
before-own : (own : Own) (below : List Popping) → (pop_own own below).before ≡ worked own [] (as_they_are below)
before-own own below = by own.held own.discipline
  where
    discipline : (d : Discipline) → (pop_discipline own below d).before ≡ worked own [] (as_they_are below)
    discipline (Fifo limit queue) = refl
    discipline (Prio priomap) = refl
    discipline (Tbf b limit) = refl
    discipline (Drr s) = refl
    discipline (FqCodel s) = refl

    by : (o : Option Descriptor) (d : Discipline)
        → (option_map_or (λ (p : Descriptor). giving own below (record own { held = None; since = 0 }) (as_they_are below) (Some p)) o
        (pop_discipline own below d)).before ≡ worked own [] (as_they_are below)
    by None d = discipline d
    by (Some p) d = refl

before-each : {M : Type 0} (x : Forest M) → side_by_side (as_they_are (each pop_own x)) ≡ each_memory (λ u. []) x
before-each none = refl
before-each (more own m below others) =
    ap (λ (n : Worked). more n.own n.memory n.below (side_by_side (as_they_are (each pop_own others)))) (before-own own (each pop_own below))
    ∙ ap₂ (λ b o. more own [] b o) (before-each below) (before-each others)

pub pop-before : {M : Type 0} (w : Node M) → (pop w).before ≡ still w
pop-before w = before-own w.own (each pop_own w.below) ∙ ap (λ b. record { own = w.own; memory = []; below = b }) (before-each w.below)

-- A node that was asked has at hand what it shows; where that is a packet, popping it leaves what the take leaves.
pub record IsPoppedAs (peeked given : Worked) (packet : Option Descriptor) : Type 0 where
  pub shown : (pop peeked).shown ≡ packet
  pub taken : is_some packet ≡ true → IsThen peeked (pop peeked).after given

abbrev pub IsPopped : Asked → Type 0
IsPopped a = IsPoppedAs a.peeked a.taken a.shown

still-then : (w : Worked) → IsThen w (pop w).before w
still-then w =
    let same = pop-before w in
    record {
      own = sym (ap (λ (n : Worked). n.own) same);
      memory = sym (append-nil w.memory) ∙ ap (λ (n : Worked). w.memory ++ n.memory) (sym same);
      below = subst (λ (n : Worked). AreThen w.below n.below w.below) (sym same) (still-each w.below);
    }

still-side : (kids : List Worked) → AreThen (side_by_side kids) (side_by_side (as_they_are (map pop kids))) (side_by_side kids)
still-side [] = tt
still-side (w ∷ kids) = let one = still-then w in (one.own, one.memory, one.below, still-side kids)

-- the children of a node that keeps them
kept-kids : (kids : List Worked) → AreThen (side_by_side kids) (side_by_side (as_they_are (each pop_own (side_by_side kids)))) (side_by_side kids)
kept-kids kids = subst (λ (bs : List Popping). AreThen (side_by_side kids) (side_by_side (as_they_are bs)) (side_by_side kids)) (sym (each-side pop_own kids)) (still-side kids)

-- one that holds what it shows
holds-popped : (after : Own) (at : ℕ) (notes : List Note) (kids : List Worked) (p : Descriptor)
    → IsPoppedAs (worked (record after { held = Some p; since = at }) notes kids)
    (worked (record after { held = None; since = 0 }) (notes ++ Sent p ∷ []) kids) (Some p)
holds-popped after at notes kids p = record { shown = refl; taken = λ some. record { own = refl; memory = refl; below = kept-kids kids } }

-- one that shows nothing
waits-popped : (after : Own) (notes : List Note) (kids : List Worked) (taken : Worked) → CanHold after.discipline → IsPoppedAs (worked (record after { held = None; since = 0 }) notes kids) taken None
waits-popped after notes kids taken can = record { shown = by after.discipline can; taken = λ some. absurd (false≢true some) }
  where
    by : (d : Discipline) → CanHold d → (pop_discipline (record after { held = None; since = 0 }) (each pop_own (side_by_side kids)) d).shown ≡ None
    by (Fifo limit queue) can = absurd can
    by (Prio priomap) can = absurd can
    by (Tbf b limit) can = refl
    by (Drr s) can = refl
    by (FqCodel s) can = refl

dequeued-popped : (own after : Own) (below : List Asked) (kids : List Worked) (rises mine : List Note) (packet : Option Descriptor) (at : ℕ) → CanHold after.discipline
    → IsPopped (dequeued own below (record { after = after; children = kids; rises = rises; mine = mine; packet = packet; since = at }))
dequeued-popped own after below kids rises mine None at can = waits-popped after (rises ++ mine) kids (worked (record after { held = None; since = 0 }) (rises ++ mine ++ []) kids) can
dequeued-popped own after below kids rises mine (Some p) at can = holds-popped after at (rises ++ mine) kids p

-- a fifo
fifo-popped : (handle : Option ℕ) (filters : List Filter) (since : ℕ) (limit : Limit) (queue : List Stamped) (below : List Asked)
    → IsPopped (ask_fifo (record { handle = handle; discipline = Fifo limit queue; held = None; since = since; filters = filters }) below limit queue)
fifo-popped handle filters since limit queue below = record { shown = refl; taken = λ some. record { own = refl; memory = refl; below = kept-kids (befores below) } }

-- a prio: what it showed is at hand in the same band
abbrev shows : Asked → Bool
shows a = is_some a.shown

abbrev peeked_to : ℕ → List Asked → List Worked
peeked_to k below = map (λ (a : Asked). a.peeked) (take k below) ++ map (λ (a : Asked). a.peeked) (drop k (take (suc k) below)) ++ befores (drop (suc k) below)

abbrev taken_at : ℕ → List Asked → List Worked
taken_at k below = map (λ (a : Asked). a.peeked) (take k below) ++ map (λ (a : Asked). a.taken) (drop k (take (suc k) below)) ++ befores (drop (suc k) below)

record ArePopped (k : ℕ) (below : List Asked) : Type 0 where
  found : first_ready (map pop (peeked_to k below)) ≡ k
  shown : option_and_then (λ (b : Popping). b.shown) (slice_get (map pop (peeked_to k below)) k) ≡ option_and_then (λ (a : Asked). a.shown) (slice_get below k)
  taken : is_some (option_and_then (λ (a : Asked). a.shown) (slice_get below k)) ≡ true
      → AreThen (side_by_side (peeked_to k below)) (side_by_side (popped_at k (map pop (peeked_to k below)))) (side_by_side (taken_at k below))

abbrev pub AllPopped : List Asked → Type 0
AllPopped [] = Unit {0}
AllPopped (a ∷ below) = IsPopped a × AllPopped below

one-popped : (a : Asked) (below : List Asked) → IsPopped a → is_some a.shown ≡ true → ArePopped 0 (a ∷ below)
one-popped a below h e = record {
  found = ap (λ (b : Bool). cond (not b) (1 + first_ready (map pop (befores below))) 0) (ap is_some h.shown ∙ e);
  shown = h.shown;
  taken = λ some. let t = h.taken some in (t.own, t.memory, t.below, still-side (befores below));
}

one-passed : (a : Asked) (below : List Asked) (k : ℕ) → IsPopped a → is_some a.shown ≡ false → ArePopped k below → ArePopped (suc k) (a ∷ below)
one-passed a below k h e rest = record {
  found = ap (λ (b : Bool). cond (not b) (1 + first_ready (map pop (peeked_to k below))) 0) (ap is_some h.shown ∙ e) ∙ ap (λ n. 1 + n) rest.found ∙ next k;
  shown = rest.shown;
  taken = λ some. let t = still-then a.peeked in (t.own, t.memory, t.below, rest.taken some);
}
  where
    next : (n : ℕ) → 1 + n ≡ suc n
    next n = omega arith

are-popped : (below : List Asked) → AllPopped below → ArePopped (position_or_len shows below) below
are-popped [] all = record { found = refl; shown = refl; taken = λ some. tt }
are-popped (a ∷ below) all = by (is_some a.shown) refl (are-popped below all.1)
  where
    next : (n : ℕ) → suc n ≡ 1 + n
    next n = omega arith

    by : (b : Bool) → is_some a.shown ≡ b → ArePopped (position_or_len shows below) below → ArePopped (cond (not b) (1 + position_or_len shows below) 0) (a ∷ below)
    by true e rest = one-popped a below all.0 e
    by false e rest = subst (λ n. ArePopped n (a ∷ below)) (next (position_or_len shows below)) (one-passed a below (position_or_len shows below) all.0 e rest)

prio-popped : (handle : Option ℕ) (filters : List Filter) (since : ℕ) (priomap : List ℕ) (below : List Asked) → AllPopped below
    → IsPopped (ask_prio (record { handle = handle; discipline = Prio priomap; held = None; since = since; filters = filters }) below)
prio-popped handle filters since priomap below all =
    let k : ℕ = position_or_len shows below in
    let bands : List Popping = map pop (peeked_to k below) in
    let at = are-popped below all in
    let same : each pop_own (side_by_side (peeked_to k below)) ≡ bands = each-side pop_own (peeked_to k below) in
    let own : Own = record { handle = handle; discipline = Prio priomap; held = None; since = since; filters = filters } in
    let packet : Option Descriptor = option_and_then (λ (a : Asked). a.shown) (slice_get below k) in
    let shown : (pop_prio own bands).shown ≡ packet = ap (λ n. option_and_then (λ (b : Popping). b.shown) (slice_get bands n)) at.found ∙ at.shown in
    record {
      shown = ap (λ (bs : List Popping). (pop_prio own bs).shown) same ∙ shown;
      taken = λ some. record {
        own = refl;
        memory =
            sym (ap (λ (o : Option Descriptor). flat_map (λ (a : Asked). a.rises) (take (suc k) below) ++ map Sent (option_to_list o))
            (ap (λ (bs : List Popping). (pop_prio own bs).shown) same ∙ shown));
        below = subst (λ (bs : List Popping). AreThen (side_by_side (peeked_to k below)) (side_by_side (popped_at (first_ready bs) bs)) (side_by_side (taken_at k below))) (sym same)
            (subst (λ n. AreThen (side_by_side (peeked_to k below)) (side_by_side (popped_at n bands)) (side_by_side (taken_at k below))) (sym at.found) (at.taken some));
      };
    }

abbrev bare : Option ℕ → List Filter → ℕ → Discipline → Own
bare handle filters since d = record { handle = handle; discipline = d; held = None; since = since; filters = filters }

-- a tbf, which holds the packet that its bucket allows
tbf-popped : (now : ℕ) (handle : Option ℕ) (filters : List Filter) (since : ℕ) (b : TokenBucket) (limit : ℕ) (below : List Asked)
    → IsPopped (ask_tbf now (record { handle = handle; discipline = Tbf b limit; held = None; since = since; filters = filters }) below b limit)
tbf-popped now handle filters since b limit below = child (slice_get below 0)
  where
    allowed : (a : Asked) (p : Descriptor) (may : Bool)
        → IsPopped (if may then spends (bare handle filters since (Tbf b limit)) below b limit now a p else waits
        (bare handle filters since (Tbf b limit)) below a)
    allowed a p true =
        dequeued-popped (bare handle filters since (Tbf b limit))
        (record (bare handle filters since (Tbf b limit)) { discipline = Tbf (after_spend b now p.len) limit }) below (a.taken ∷ []) a.rises
        (Spent p.len ∷ []) (Some p) (since_shown a) tt
    allowed a p false = dequeued-popped (bare handle filters since (Tbf b limit)) (bare handle filters since (Tbf b limit)) below (a.peeked ∷ []) a.rises [] None 0 tt

    packet : (a : Asked) (o : Option Descriptor)
        → IsPopped (option_map_or (λ (p : Descriptor). if allows b now p.len then spends (bare handle filters since (Tbf b limit)) below b limit now
        a p else waits (bare handle filters since (Tbf b limit)) below a) o (waits (bare handle filters since (Tbf b limit)) below a))
    packet a None = dequeued-popped (bare handle filters since (Tbf b limit)) (bare handle filters since (Tbf b limit)) below (a.peeked ∷ []) a.rises [] None 0 tt
    packet a (Some p) = allowed a p (allows b now p.len)

    child : (o : Option Asked)
        → IsPopped (option_map_or (ask_child now (bare handle filters since (Tbf b limit)) below b limit) o
        (dequeued (bare handle filters since (Tbf b limit)) below
        (record { after = (bare handle filters since (Tbf b limit)); children = []; rises = []; mine = []; packet = None; since = 0 })))
    child None = dequeued-popped (bare handle filters since (Tbf b limit)) (bare handle filters since (Tbf b limit)) below [] [] [] None 0 tt
    child (Some a) = packet a a.shown

-- a drr, which holds the packet of the class that is met
drr-popped : (handle : Option ℕ) (filters : List Filter) (since : ℕ) (s : Schedule) (below : List Asked)
    → IsPopped (ask_drr (record { handle = handle; discipline = Drr s; held = None; since = since; filters = filters }) below s)
drr-popped handle filters since s below = by (place_met s below)
  where
    nothing : IsPopped (gives_nothing (bare handle filters since (Drr s)) below (service_of s below))
    nothing =
        let v = service_of s below in dequeued-popped (bare handle filters since (Drr s))
        (record (bare handle filters since (Drr s)) { discipline = Drr v.schedule }) below v.below v.rises v.grants None 0 tt

    serves : (i : ℕ) (a : Asked) (o : Option Descriptor)
        → IsPopped (option_map_or (class_gives (bare handle filters since (Drr s)) below (service_of s below) i a) o
        (gives_nothing (bare handle filters since (Drr s)) below (service_of s below)))
    serves i a None = nothing
    serves i a (Some p) =
        let v = service_of s below in
        dequeued-popped (bare handle filters since (Drr s))
        (record (bare handle filters since (Drr s)) { discipline = Drr (settled_class i (is_empty a.taken) v.schedule) }) below
        (set v.below i a.taken) v.rises v.grants (Some p) (since_shown a) tt

    child : (i : ℕ) (o : Option Asked)
        → IsPopped (option_map_or (class_serves (bare handle filters since (Drr s)) below (service_of s below) i) o
        (gives_nothing (bare handle filters since (Drr s)) below (service_of s below)))
    child i None = nothing
    child i (Some a) = serves i a a.shown

    by : (o : Option ℕ)
        → IsPopped (option_map_or (λ i. option_map_or (class_serves (bare handle filters since (Drr s)) below (service_of s below) i)
        (slice_get below i) (gives_nothing (bare handle filters since (Drr s)) below (service_of s below))) o
        (gives_nothing (bare handle filters since (Drr s)) below (service_of s below)))
    by None = nothing
    by (Some i) = child i (slice_get below i)

node-popped : (now : ℕ) (handle : Option ℕ) (filters : List Filter) (since : ℕ) (held : Option Descriptor) (d : Discipline) (below : List Asked) → AllPopped below
    → IsPopped (ask_own now (record { handle = handle; discipline = d; held = held; since = since; filters = filters }) below)
node-popped now handle filters since (Some p) d below all = holds-popped (record { handle = handle; discipline = d; held = None; since = since; filters = filters }) since [] (befores below) p
node-popped now handle filters since None (Fifo limit queue) below all = fifo-popped handle filters since limit queue below
node-popped now handle filters since None (Prio priomap) below all = prio-popped handle filters since priomap below all
node-popped now handle filters since None (Tbf b limit) below all = tbf-popped now handle filters since b limit below
node-popped now handle filters since None (Drr s) below all = drr-popped handle filters since s below
node-popped now handle filters since None (FqCodel s) below all =
    let own : Own = record { handle = handle; discipline = FqCodel s; held = None; since = since; filters = filters } in
    let sent = sent_from now (selected s) in
    dequeued-popped own (record own { discipline = FqCodel (after_sending now (selected s)) }) below (befores below)
    (losses_of CoDel (packets_of (dropped_from now (selected s))) ++ marks_of sent) (flow_notes s (selected s) sent)
    (option_map (λ (t : Taken). t.packet) sent) (option_map_or (λ (p : Stamped). p.at) (head_sent now (selected s)) 0) tt

all-popped : (now : ℕ) (x : Forest (Unit {0})) → AllPopped (each (ask_own now) x)
all-popped now none = tt
all-popped now (more own m below others) = (node-popped now own.handle own.filters own.since own.held own.discipline (each (ask_own now) below) (all-popped now below), all-popped now others)

-- every tree that was asked
pub ask-popped : (now : ℕ) (s : Shape) → IsPopped (ask now s)
ask-popped now s = node-popped now s.own.handle s.own.filters s.own.since s.own.held s.own.discipline (each (ask_own now) s.below) (all-popped now s.below)
