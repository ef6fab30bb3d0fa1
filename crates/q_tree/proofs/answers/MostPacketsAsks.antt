-- Whatever a node is asked for, it can hold no more than before, with the nodes beneath it.
use Rattle.std.proofs.Common.{◌≡◌, ℕ, zero, suc, ◌+◌, ◌≤◌, List, [], ◌∷◌, ◌++◌, map, set, drop, refl, ap, subst, Option, Some, None, option_map, arith}
use Rattle.std.specs.Prelude.{Bool, true, false, slice_get, is_some, if◌then◌else◌}
use Rattle.std.specs.List.{position_or_len, sum}
use Rattle.std.specs.Option.{option_map_or}
use Rattle.std.proofs.lemmas.List.Sums.{sum_by-cons}
use Rattle.std.proofs.lemmas.Option.{same_Some}
use Rattle.q_packet.specs.Descriptor.{Descriptor}
use Rattle.q_packet.specs.declared.cause.Cause.TheVariants.{CoDel}
use Rattle.q_packet.specs.declared.stamped.Stamped.{Stamped}
use Rattle.q_codel.specs.declared.limit.Limit.{Limit}
use Rattle.q_codel.specs.declared.codel.Taken.{Taken}
use Rattle.q_fqcodel.specs.FqState.{FqState}
use Rattle.q_fqcodel.specs.Take.{selected, sent_from, dropped_from, after_sending, head_sent}
use Rattle.q_bucket.specs.Level.{TokenBucket, allows, after_spend}
use Rattle.q_drr.specs.Schedule.{Class, Schedule}
use Rattle.q_drr.specs.Take.{choice_of}
use Rattle.q_model.specs.declared.filter.Filter.{Filter}
use Rattle.q_model.specs.Tally.{Note, Spent}
use Rattle.q_model.specs.Node.{Discipline, Fifo, Prio, Tbf, Drr, FqCodel, Own, Forest, none, more, Shape, each}
use Rattle.q_model.specs.Beneath.{packets_of, is_empty}
use Rattle.q_model.specs.Grants.{asked_entries}
use Rattle.q_model.specs.Quanta.{flow_notes}
use Rattle.q_model.specs.Work.{Worked, worked, losses_of, settled_class}
use Rattle.q_model.specs.Ask.{Asked, befores, Showing, showing, holding, Dequeue, dequeued, spends, waits, ask_fifo, ask_child, ask_tbf, ask_prio, is_among, head_of, Service, service_of, place_met, gives_nothing, class_gives, class_serves, ask_drr, marks_of, ask_fq_codel, ask_own, ask, since_shown}
use Rattle.q_invariants.proofs.ask.AskClasses.{peeked_by}
use Rattle.q_invariants.proofs.ask.AskPrio.{peeked_to, taken_at, notes_to, packet_at}
use Rattle.q_invariants.proofs.tree.Forests.{each-side}
use Rattle.q_tree.specs.answers.MostPackets.{most_under, most_queued, most_held, most_own, most_packets}
use Rattle.q_tree.proofs.answers.MostPacketsQueues.{fifo-take-least, fq-take-least}
use Rattle.q_model.specs.Since.{since_of}

-- what the qdisc itself can hold
abbrev pub most_in : Discipline → ℕ
most_in d = most_queued d + most_held d

pub most-worked : (own : Own) (notes : List Note) (ns : List Worked) → most_packets (worked own notes ns) ≡ most_in own.discipline + sum (map most_packets ns)
most-worked own notes ns = ap (most_own own) (each-side most_own ns)

-- ---- children, one by one; some at the end may be missing

abbrev pub AreLess : List Worked → List Worked → Type 0
AreLess [] ns = Unit {0}
AreLess (w ∷ ws) [] = ⊥
AreLess (w ∷ ws) (n ∷ ns) = (most_packets w ≤ most_packets n) × AreLess ws ns

pub less-same : (ns : List Worked) → AreLess ns ns
less-same [] = tt
less-same (n ∷ ns) = (omega arith, less-same ns)

pub less-summed : (ws ns : List Worked) → AreLess ws ns → sum (map most_packets ws) ≤ sum (map most_packets ns)
less-summed [] ns h = omega arith
less-summed (w ∷ ws) [] h = absurd h
less-summed (w ∷ ws) (n ∷ ns) h = omega (
  arith,
  h.0,
  less-summed ws ns h.1,
  sum_by-cons (λ k. k) (most_packets w) (map most_packets ws),
  sum_by-cons (λ k. k) (most_packets n) (map most_packets ns),
)

pub less-set : (ws ns : List Worked) (i : ℕ) (w n : Worked) → AreLess ws ns → slice_get ns i ≡ Some n → most_packets w ≤ most_packets n → AreLess (set ws i w) ns
less-set [] ns i w n h at less = tt
less-set (v ∷ ws) [] i w n h at less = absurd h
less-set (v ∷ ws) (m ∷ ns) zero w n h at less = (omega (arith, less, ap most_packets (same_Some m n at)), h.1)
less-set (v ∷ ws) (m ∷ ns) (suc i) w n h at less = (h.0, less-set ws ns i w n h.1 at less)

-- ---- a node that is asked

pub record IsLess (a : Asked) : Type 0 where
  pub peeked : most_packets a.peeked ≤ most_packets a.before
  pub taken : most_packets a.taken ≤ most_packets a.before

abbrev AllLess : List Asked → Type 0
AllLess [] = Unit {0}
AllLess (a ∷ below) = IsLess a × AllLess below

less-worked : (own own_after : Own) (notes notes_after : List Note) (ns ws : List Worked) → most_in own_after.discipline ≤ most_in own.discipline → AreLess ws ns
    → most_packets (worked own_after notes_after ws) ≤ most_packets (worked own notes ns)
less-worked own own_after notes notes_after ns ws here below =
    omega (arith, most-worked own notes ns, most-worked own_after notes_after ws, here, less-summed ws ns below)

less-dequeued : (own : Own) (below : List Asked) (d : Dequeue) → most_in d.after.discipline ≤ most_in own.discipline → AreLess d.children (befores below) → IsLess (dequeued own below d)
less-dequeued own below d here children = record {
  peeked = less-worked own (record d.after { held = d.packet; since = since_of d.packet d.since }) [] (dequeued own below d).peeked.memory (befores below) d.children here children;
  taken = less-worked own (record d.after { held = None; since = 0 }) [] (dequeued own below d).taken.memory (befores below) d.children here children;
}

less-showing : (below : List Asked) (s : Showing) → most_in s.own_taken.discipline ≤ most_in s.own.discipline → AreLess s.peeked (befores below)
    → AreLess s.taken (befores below) → IsLess (showing below s)
less-showing below s here peeked taken = record {
  peeked = less-worked s.own s.own [] (showing below s).peeked.memory (befores below) s.peeked (omega arith) peeked;
  taken = less-worked s.own s.own_taken [] (showing below s).taken.memory (befores below) s.taken here taken;
}

-- the bands of a prio
less-bands : (k : ℕ) (below : List Asked) → AllLess below → AreLess (peeked_to k below) (befores below) × AreLess (taken_at k below) (befores below)
less-bands zero [] all = (tt, tt)
less-bands (suc k) [] all = (tt, tt)
less-bands zero (a ∷ below) all = ((all.0.peeked, less-same (befores below)), (all.0.taken, less-same (befores below)))
less-bands (suc k) (a ∷ below) all =
    let rest = less-bands k below all.1 in
    ((all.0.peeked, rest.0), (all.0.peeked, rest.1))

-- the classes of a drr
less-looked : (may : Bool) (a : Asked) → IsLess a → most_packets (if may then a.peeked else a.before) ≤ most_packets a.before
less-looked true a h = h.peeked
less-looked false a h = omega arith

less-classes : (test : Class → Bool) (classes : List Class) (below : List Asked) → AllLess below → AreLess (peeked_by test classes below) (befores below)
less-classes test [] below all = tt
less-classes test (c ∷ classes) [] all = tt
less-classes test (c ∷ classes) (a ∷ below) all = (less-looked (test c) a all.0, less-classes test classes below all.1)

less-at : (below : List Asked) (i : ℕ) (a : Asked) → AllLess below → slice_get below i ≡ Some a → IsLess a × (slice_get (befores below) i ≡ Some a.before)
less-at [] i a all at = cc
less-at (b ∷ below) zero a all at = let is : b ≡ a = same_Some b a at in (subst IsLess is all.0, ap (λ (x : Asked). Some x.before) is)
less-at (b ∷ below) (suc i) a all at = less-at below i a all.1 at

less-first : (below : List Asked) (a : Asked) → AllLess below → slice_get below 0 ≡ Some a → AreLess (a.peeked ∷ []) (befores below) × AreLess (a.taken ∷ []) (befores below)
less-first [] a all at = cc
less-first (b ∷ below) a all at =
    let is : b ≡ a = same_Some b a at in
    let first : IsLess a = subst IsLess is all.0 in
    ((omega (arith, first.peeked, ap (λ (x : Asked). most_packets x.before) is), tt), (omega (arith, first.taken, ap (λ (x : Asked). most_packets x.before) is), tt))

module _ (now : ℕ) (handle : Option ℕ) (filters : List Filter) (since : ℕ) (below : List Asked) (all : AllLess below) where
  abbrev own_of : Discipline → Own
  own_of d = record { handle = handle; discipline = d; held = None; since = since; filters = filters }

  less-fifo : (limit : Limit) (queue : List Stamped) → IsLess (ask_fifo (own_of (Fifo limit queue)) below limit queue)
  less-fifo limit queue = less-showing below (record {
    own = own_of (Fifo limit queue);
    own_taken = own_of (Fifo limit (drop 1 queue));
    peeked = befores below;
    taken = befores below;
    notes = [];
    packet = slice_get (packets_of queue) 0;
  }) (omega (arith, fifo-take-least (most_under limit) queue)) (less-same (befores below)) (less-same (befores below))

  less-prio : (priomap : List ℕ) → IsLess (ask_prio (own_of (Prio priomap)) below)
  less-prio priomap =
      let k : ℕ = position_or_len (λ (a : Asked). is_some a.shown) below in
      let bands = less-bands k below all in
      less-showing below (record {
        own = own_of (Prio priomap);
        own_taken = own_of (Prio priomap);
        peeked = peeked_to k below;
        taken = taken_at k below;
        notes = notes_to k below;
        packet = packet_at k below;
      }) (omega arith) bands.0 bands.1

  -- a tbf
  module _ (b : TokenBucket) (limit : ℕ) where
    abbrev tbf : Own
    tbf = own_of (Tbf b limit)

    less-waits : (a : Asked) → slice_get below 0 ≡ Some a → IsLess (waits tbf below a)
    less-waits a at =
        less-dequeued tbf below (record { after = tbf; children = a.peeked ∷ []; rises = a.rises; mine = []; packet = None; since = 0 }) (omega arith) (less-first below a all at).0

    less-spends : (a : Asked) (p : Descriptor) → slice_get below 0 ≡ Some a → IsLess (spends tbf below b limit now a p)
    less-spends a p at = less-dequeued tbf below (record {
      after = own_of (Tbf (after_spend b now p.len) limit);
      children = a.taken ∷ [];
      rises = a.rises;
      mine = Spent p.len ∷ [];
      packet = Some p;
      since = since_shown a;
    }) (omega arith) (less-first below a all at).1

    less-may : (a : Asked) (p : Descriptor) (may : Bool) → slice_get below 0 ≡ Some a → IsLess (if may then spends tbf below b limit now a p else waits tbf below a)
    less-may a p true at = less-spends a p at
    less-may a p false at = less-waits a at

    less-child : (a : Asked) (o : Option Descriptor) → slice_get below 0 ≡ Some a
        → IsLess (option_map_or (λ (p : Descriptor). if allows b now p.len then spends tbf below b limit now a p else waits tbf below a) o (waits tbf below a))
    less-child a None at = less-waits a at
    less-child a (Some p) at = less-may a p (allows b now p.len) at

    less-tbf : IsLess (ask_tbf now tbf below b limit)
    less-tbf = by (slice_get below 0) refl
      where
        by : (o : Option Asked) → slice_get below 0 ≡ o
            → IsLess (option_map_or (ask_child now tbf below b limit) o (dequeued tbf below (record { after = tbf; children = []; rises = []; mine = []; packet = None; since = 0 })))
        by None at = less-dequeued tbf below (record { after = tbf; children = []; rises = []; mine = []; packet = None; since = 0 }) (omega arith) tt
        by (Some a) at = less-child a a.shown at

  -- a drr
  module _ (s : Schedule) where
    abbrev drr : Own
    drr = own_of (Drr s)

    abbrev service : Service
    service = service_of s below

    looked : AreLess service.below (befores below)
    looked = less-classes (is_among (asked_entries (choice_of (head_of s below) s) s.active)) s.classes below all

    less-nothing : IsLess (gives_nothing drr below service)
    less-nothing =
        less-dequeued drr below (record {
          after = own_of (Drr service.schedule);
          children = service.below;
          rises = service.rises;
          mine =
              service.grants;
          packet = None;
          since = 0;
        }) (omega arith) looked

    less-gives : (i : ℕ) (a : Asked) (p : Descriptor) → slice_get below i ≡ Some a → IsLess (class_gives drr below service i a p)
    less-gives i a p at =
        let there = less-at below i a all at in
        less-dequeued drr below (record {
          after = own_of (Drr (settled_class i (is_empty a.taken) service.schedule));
          children = set service.below i a.taken;
          rises = service.rises;
          mine = service.grants;
          packet = Some p;
          since = since_shown a;
        }) (omega arith) (less-set service.below (befores below) i a.taken a.before looked there.1 there.0.taken)

    less-serves : (i : ℕ) (a : Asked) (o : Option Descriptor) → slice_get below i ≡ Some a → IsLess (option_map_or (class_gives drr below service i a) o (gives_nothing drr below service))
    less-serves i a None at = less-nothing
    less-serves i a (Some p) at = less-gives i a p at

    less-class : (i : ℕ) (o : Option Asked) → slice_get below i ≡ o → IsLess (option_map_or (class_serves drr below service i) o (gives_nothing drr below service))
    less-class i None at = less-nothing
    less-class i (Some a) at = less-serves i a a.shown at

    less-drr : IsLess (ask_drr drr below s)
    less-drr = by (place_met s below)
      where
        by : (o : Option ℕ)
            → IsLess (option_map_or (λ i. option_map_or (class_serves drr below service i) (slice_get below i) (gives_nothing drr below service)) o (gives_nothing drr below service))
        by None = less-nothing
        by (Some i) = less-class i (slice_get below i) refl

  less-fq_codel : (s : FqState) → IsLess (ask_fq_codel now (own_of (FqCodel s)) below s)
  less-fq_codel s =
      let chosen : FqState = selected s in
      let sent : Option Taken = sent_from now chosen in
      less-dequeued (own_of (FqCodel s)) below (record {
        after = own_of (FqCodel (after_sending now chosen));
        children = befores below;
        rises = losses_of CoDel (packets_of (dropped_from now chosen)) ++ marks_of sent;
        mine = flow_notes s chosen sent;
        packet = option_map (λ (t : Taken). t.packet) sent;
        since = option_map_or (λ (p : Stamped). p.at) (head_sent now chosen) 0;
      }) (omega (arith, fq-take-least s now)) (less-same (befores below))

less-holding : (own : Own) (below : List Asked) (p : Descriptor) → IsLess (holding own below p)
less-holding own below p = less-showing below (record {
  own = own;
  own_taken = record own { held = None; since = 0 };
  peeked = befores below;
  taken = befores below;
  notes = [];
  packet = Some p;
}) (omega arith) (less-same (befores below)) (less-same (befores below))

less-node : (now : ℕ) (handle : Option ℕ) (filters : List Filter) (since : ℕ) (held : Option Descriptor) (d : Discipline) (below : List Asked) → AllLess below
    → IsLess (ask_own now (record { handle = handle; discipline = d; held = held; since = since; filters = filters }) below)
less-node now handle filters since (Some p) d below all = less-holding (record { handle = handle; discipline = d; held = Some p; since = since; filters = filters }) below p
less-node now handle filters since None (Fifo limit queue) below all = less-fifo now handle filters since below all limit queue
less-node now handle filters since None (Prio priomap) below all = less-prio now handle filters since below all priomap
less-node now handle filters since None (Tbf b limit) below all = less-tbf now handle filters since below all b limit
less-node now handle filters since None (Drr s) below all = less-drr now handle filters since below all s
less-node now handle filters since None (FqCodel s) below all = less-fq_codel now handle filters since below all s

less-forest : (now : ℕ) (x : Forest (Unit {0})) → AllLess (each (ask_own now) x)
less-forest now none = tt
less-forest now (more own m below others) =
    (less-node now own.handle own.filters own.since own.held own.discipline (each (ask_own now) below) (less-forest now below), less-forest now others)

pub asks-less : (now : ℕ) (s : Shape) → IsLess (ask now s)
asks-less now s = less-node now s.own.handle s.own.filters s.own.since s.own.held s.own.discipline (each (ask_own now) s.below) (less-forest now s.below)
