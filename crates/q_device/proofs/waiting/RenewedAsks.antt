-- What is known of a node once it was asked, against what was known before: by its discipline, and of a whole tree.
use Rattle.std.proofs.Common.{◌≡◌, ℕ, zero, suc, ◌<◌, ◌≤◌, ◌∙◌, ◌⊎◌, refl, sym, ap, subst, arith, inl, inr, List, [], ◌∷◌, ◌++◌, map, length, Option, Some, None, option_map, option_and_then}
use Rattle.std.specs.Prelude.{Bool, true, false, ◌==◌, if◌then◌else◌, is_some, slice_get}
use Rattle.std.specs.List.{position_or_len}
use Rattle.std.specs.Option.{option_map_or}
use Rattle.std.proofs.lemmas.Bool.{cases_Bool, cases_lt, cond-true, cond-false, eqb-true}
use Rattle.std.proofs.lemmas.List.{length-map}
use Rattle.std.proofs.lemmas.Option.{none-some}
use Rattle.q_packet.specs.Descriptor.{Descriptor}
use Rattle.q_codel.specs.declared.codel.Taken.{Taken}
use Rattle.q_bucket.specs.Level.{TokenBucket, IsInRange, allows}
use Rattle.q_drr.specs.Schedule.{Class, Entry, Schedule, IsLawful, is_active}
use Rattle.q_drr.specs.Take.{choice_of, served}
use Rattle.q_drr.proofs.TakeLemmas.{Front, prepared_ready, prepared_empty, need_at, served_nothing, served_nobody}
use Rattle.q_fqcodel.specs.FqState as fq
use Rattle.q_fqcodel.specs.FqState.{FqState}
use Rattle.q_fqcodel.specs.Take.{selected, after_sending, sent_from}
use Rattle.q_fqcodel.proofs.LawLemmas.{take_keeps_all}
use Rattle.q_model.specs.declared.filter.Filter.{Filter}
use Rattle.q_model.specs.Ask.{Asked, befores, class_answer, length_of, head_of, Service, service_of, place_met, gives_nothing, class_gives, class_serves, ask_drr, ask_tbf, spends, waits, ask_fq_codel, ask_own, is_among}
use Rattle.q_model.specs.Beneath.{beneath, packets_of}
use Rattle.q_model.specs.Grants.{asked_entries}
use Rattle.q_model.specs.Lawful.{IsLawfulOwn}
use Rattle.q_model.specs.Node.{Discipline, Fifo, Prio, Tbf, Drr, FqCodel, Own}
use Rattle.q_model.specs.Route.{class_at}
use Rattle.q_model.specs.Tally.{Note}
use Rattle.q_model.specs.Work.{Worked, worked}
use Rattle.q_invariants.proofs.again.SecondPeek.{node}
use Rattle.q_invariants.proofs.ask.AskClasses.{peeked_by}
use Rattle.q_invariants.proofs.ask.AskPrio.{peeked_to, notes_to}
use Rattle.q_invariants.proofs.class.Exact.{exact-length}
use Rattle.q_invariants.proofs.tree.Forests.{each-side}
use Rattle.q_tree.specs.answers.ReadyAt.{no_packet, at_best, shaped, with_bands, paid, of_fifo, of_flows, of_class, outlook_own, outlook}
use Rattle.q_tree.proofs.FlowCounts.{one, packets-all}
use Rattle.q_tree.proofs.Foreseeing.{Foresees, Covers}
use Rattle.q_tree.proofs.ForeseenAsks.{Follows, follows}
use Rattle.q_device.proofs.waiting.Renewed.{Outlook, Formed, Renews, covers-in, comes-before, none-formed, none-renews, hand-renews, held-renews, best-formed, best-renews, shaped-renews}
use Rattle.q_device.proofs.waiting.RenewedBands.{AllRenew, bands-renew, paid-at, paid-least, paid-open, paid-renews, past-renews}

pub asked-outlook : (t : ℕ) (own : Own) (notes : List Note) (ws : List Worked) → outlook t (worked own notes ws) ≡ outlook_own t own (map (outlook t) ws)
asked-outlook t own notes ws = ap (outlook_own t own) (each-side (outlook_own t) ws)

-- what holds of a drr that gives nothing, and of one that gives a packet of whichever class, holds of a drr that is asked
pub drr-asked : (own : Own) (s : Schedule) (below : List Asked) (P : Asked → Type 0) → P (gives_nothing own below (service_of s below))
    → ((i : ℕ) (a : Asked) (p : Descriptor) → P (class_gives own below (service_of s below) i a p)) → P (ask_drr own below s)
drr-asked own s below P silent gives = by (place_met s below)
  where
    v : Service
    v = service_of s below

    nothing : Asked
    nothing = gives_nothing own below v

    shows : (i : ℕ) (a : Asked) (x : Option Descriptor) → P (option_map_or (class_gives own below v i a) x nothing)
    shows i a None = silent
    shows i a (Some p) = gives i a p

    child : (i : ℕ) (x : Option Asked) → P (option_map_or (class_serves own below v i) x nothing)
    child i None = silent
    child i (Some a) = shows i a a.shown

    by : (x : Option ℕ) → P (option_map_or (λ i. option_map_or (class_serves own below v i) (slice_get below i) nothing) x nothing)
    by None = silent
    by (Some i) = child i (slice_get below i)

module _ (now t : ℕ) (order : now ≤ t) where
  -- ---- a node that shows what it has at hand, and the packets of an fq_codel

  fifo-renews : (o : Option Descriptor) → Renews t (of_fifo now o) (of_fifo t o)
  fifo-renews None = none-renews t no_packet refl
  fifo-renews (Some p) = hand-renews now t p.len order

  flows-formed : (n : ℕ) → Formed t (of_flows t n)
  flows-formed n = elim (cases_Bool (n == 0)) [
    | inl idle ↦ subst (Formed t) (sym (cond-true (n == 0) no_packet (at_best (Some t) 0) idle)) (none-formed t)
    | inr busy ↦ subst (Formed t) (sym (cond-false (n == 0) no_packet (at_best (Some t) 0) busy)) (best-formed t (Some t) 0 (λ y c. covers-in t y (Some t) refl c))
  ]

  flows-renew : (m n : ℕ) → (m ≡ 0 → n ≡ 0) → Renews t (of_flows now m) (of_flows t n)
  flows-renew m n h = elim (cases_Bool (m == 0)) [
    | inl idle ↦
        subst (λ (o : Outlook). Renews t o (of_flows t n)) (sym (cond-true (m == 0) no_packet (at_best (Some now) 0) idle))
        (subst (Renews t no_packet) (sym (ap (of_flows t) (h (eqb-true m 0 idle)))) (none-renews t no_packet refl))
    | inr busy ↦
        subst (λ (o : Outlook). Renews t o (of_flows t n)) (sym (cond-false (m == 0) no_packet (at_best (Some now) 0) busy))
        (best-renews t (Some now) 0 (of_flows t n) (flows-formed n) (λ y c. let late = (flows-formed n).from y c in record { at = now; is = refl; past = omega arith }) (λ y c. omega arith))
  ]

  -- ---- the front class of a drr

  abbrev BothRenew : Option Outlook → Option Outlook → Type 0
  BothRenew None None = Unit {0}
  BothRenew None (Some p) = ⊥
  BothRenew (Some o) None = ⊥
  BothRenew (Some o) (Some p) = Renews t o p

  both-at : (os ps : List Outlook) → AllRenew t os ps → (i : ℕ) → BothRenew (slice_get os i) (slice_get ps i)
  both-at [] [] all i = tt
  both-at [] (p ∷ ps) all i = absurd all
  both-at (o ∷ os) [] all i = absurd all
  both-at (o ∷ os) (p ∷ ps) all zero = all.0
  both-at (o ∷ os) (p ∷ ps) all (suc i) = both-at os ps all.1 i

  class-renews : (deficit : ℕ) (o p : Option Outlook) → BothRenew o p → Renews t (option_map_or (paid deficit) o no_packet) (option_map_or (paid deficit) p no_packet)
  class-renews deficit None None h = none-renews t no_packet refl
  class-renews deficit None (Some p) h = absurd h
  class-renews deficit (Some o) None h = absurd h
  class-renews deficit (Some o) (Some p) h = paid-renews t deficit o p h

  front-renews : (s : Schedule) (os ps : List Outlook) → AllRenew t os ps → (e : Option Entry) → Renews t (of_class s os e) (of_class s ps e)
  front-renews s os ps all None = none-renews t no_packet refl
  front-renews s os ps all (Some e) = class-renews e.deficit (option_and_then (slice_get os) (class_at e.class s)) (option_and_then (slice_get ps) (class_at e.class s)) (place (class_at e.class s))
    where
      place : (i : Option ℕ) → BothRenew (option_and_then (slice_get os) i) (option_and_then (slice_get ps) i)
      place None = tt
      place (Some i) = both-at os ps all i

  -- ---- a node that was not asked

  module _ (mtu : ℕ) where
    pub aged : (handle : Option ℕ) (filters : List Filter) (since : ℕ) (held : Option Descriptor) (d : Discipline) (os ps : List Outlook) (packets : List (List Descriptor))
        → (let own : Own = record { handle = handle; discipline = d; held = held; since = since; filters = filters } in
        IsLawfulOwn mtu t own packets → AllRenew t os ps → Renews t (outlook_own now own os) (outlook_own t own ps))
    aged handle filters since (Some p) d os ps packets h all = hand-renews now t p.len order
    aged handle filters since None (Fifo limit queue) os ps packets h all = fifo-renews (slice_get (packets_of queue) 0)
    aged handle filters since None (Prio priomap) os ps packets h all = bands-renew t no_packet no_packet (none-renews t no_packet refl) os ps all
    aged handle filters since None (Tbf b limit) [] [] packets h all = none-renews t no_packet refl
    aged handle filters since None (Tbf b limit) [] (p ∷ ps) packets h all = absurd all
    aged handle filters since None (Tbf b limit) (o ∷ os) [] packets h all = absurd all
    aged handle filters since None (Tbf b limit) (o ∷ os) (p ∷ ps) packets h all = shaped-renews t b h.discipline.level o p all.0
    aged handle filters since None (Drr s) os ps packets h all = front-renews s os ps all (slice_get s.active 0)
    aged handle filters since None (FqCodel s) os ps packets h all = flows-renew (fq.packets_of s.flows) (fq.packets_of s.flows) (λ e. e)

  -- ---- what was known of a node, and its answer at t

  pub record IsRenewed (o : Outlook) (a : Asked) : Type 0 where
    pub foreseen : Foresees now t o a.shown
    pub before : Renews t o (outlook t a.before)
    pub peeked : Renews t o (outlook t a.peeked)

  abbrev pub AreRenewed : List Outlook → List Asked → Type 0
  AreRenewed [] [] = Unit {0}
  AreRenewed [] (a ∷ below) = ⊥
  AreRenewed (o ∷ os) [] = ⊥
  AreRenewed (o ∷ os) (a ∷ below) = IsRenewed o a × AreRenewed os below

  pub befores-renew : (os : List Outlook) (below : List Asked) → AreRenewed os below → AllRenew t os (map (outlook t) (befores below))
  befores-renew [] [] all = tt
  befores-renew [] (a ∷ below) all = absurd all
  befores-renew (o ∷ os) [] all = absurd all
  befores-renew (o ∷ os) (a ∷ below) all = (all.0.before, befores-renew os below all.1)

  -- the bands up to one were asked
  passed-renew : (os : List Outlook) (below : List Asked) → AreRenewed os below → (k : ℕ) → AllRenew t os (map (outlook t) (peeked_to k below))
  passed-renew [] [] all zero = tt
  passed-renew [] [] all (suc k) = tt
  passed-renew [] (a ∷ below) all k = absurd all
  passed-renew (o ∷ os) [] all k = absurd all
  passed-renew (o ∷ os) (a ∷ below) all zero = (all.0.peeked, befores-renew os below all.1)
  passed-renew (o ∷ os) (a ∷ below) all (suc k) = (all.0.peeked, passed-renew os below all.1 k)

  -- some classes were asked
  looked-renew : (test : Class → Bool) (classes : List Class) (os : List Outlook) (below : List Asked) → length classes ≡ length below
      → AreRenewed os below → AllRenew t os (map (outlook t) (peeked_by test classes below))
  looked-renew test [] [] [] same all = tt
  looked-renew test (c ∷ classes) [] [] same all = absurd (omega (arith, same))
  looked-renew test classes [] (a ∷ below) same all = absurd all
  looked-renew test classes (o ∷ os) [] same all = absurd all
  looked-renew test [] (o ∷ os) (a ∷ below) same all = absurd (omega (arith, same))
  looked-renew test (c ∷ classes) (o ∷ os) (a ∷ below) same all = (by (test c), looked-renew test classes os below (omega (arith, same)) all.1)
    where
      by : (b : Bool) → Renews t o (outlook t (if b then a.peeked else a.before))
      by true = all.0.peeked
      by false = all.0.before

  -- ---- a tbf

  module _ (handle : Option ℕ) (filters : List Filter) (since : ℕ) where
    tbf-renews : (b : TokenBucket) (limit : ℕ) → IsInRange b → (o : Outlook) (a : Asked) (below : List Asked) → IsRenewed o a
        → (let own : Own = node t handle filters since (Tbf b limit) None in
        Foresees now t (shaped b o) (ask_tbf t own (a ∷ below) b limit).shown → Renews t (shaped b o) (outlook t (ask_tbf t own (a ∷ below) b limit).peeked))
    tbf-renews b limit range o a below h = by a.shown
      where
        own : Own
        own = node t handle filters since (Tbf b limit) None

        P : Asked → Type 0
        P x = Foresees now t (shaped b o) x.shown → Renews t (shaped b o) (outlook t x.peeked)

        waited : P (waits own (a ∷ below) a)
        waited f = shaped-renews t b range o (outlook t a.peeked) h.peeked

        may : (p : Descriptor) (ok : Bool) → P (if ok then spends own (a ∷ below) b limit t a p else waits own (a ∷ below) a)
        may p true = λ f. held-renews now t (shaped b o) p f
        may p false = waited

        by : (x : Option Descriptor) → P (option_map_or (λ (p : Descriptor). if allows b t p.len then spends own (a ∷ below) b limit t a p else waits own (a ∷ below) a) x (waits own (a ∷ below) a))
        by None = waited
        by (Some p) = may p (allows b t p.len)

    -- ---- a drr

    abbrev drr : Schedule → Own
    drr s = node t handle filters since (Drr s) None

    -- one that gives a packet holds it
    drr-renews : (o : Outlook) (s : Schedule) (below : List Asked) → Foresees now t o (ask_drr (drr s) below s).shown
        → ((ask_drr (drr s) below s).shown ≡ None → Renews t o (outlook t (gives_nothing (drr s) below (service_of s below)).peeked)) → Renews t o (outlook t (ask_drr (drr s) below s).peeked)
    drr-renews o s below =
        drr-asked (drr s) s below
        (λ (x : Asked). Foresees now t o x.shown → (x.shown ≡ None → Renews t o (outlook t (gives_nothing (drr s) below (service_of s below)).peeked)) → Renews t o (outlook t x.peeked))
        (λ f k. k refl) (λ i a p f k. held-renews now t o p f)

    -- what is known of a drr, whatever its list
    class-formed : (s : Schedule) (os ps : List Outlook) → AllRenew t os ps → (e : Option Entry) → Formed t (of_class s ps e)
    class-formed s os ps all e = (front-renews s os ps all e).formed

    -- ---- a drr that gives nothing

    abbrev Both : Option Outlook → Option Asked → Type 0
    Both None None = Unit {0}
    Both None (Some a) = ⊥
    Both (Some o) None = ⊥
    Both (Some o) (Some a) = IsRenewed o a

    asked-at : (os : List Outlook) (below : List Asked) → AreRenewed os below → (i : ℕ) → Both (slice_get os i) (slice_get below i)
    asked-at [] [] all i = tt
    asked-at [] (a ∷ below) all i = absurd all
    asked-at (o ∷ os) [] all i = absurd all
    asked-at (o ∷ os) (a ∷ below) all zero = all.0
    asked-at (o ∷ os) (a ∷ below) all (suc i) = asked-at os below all.1 i

    module _ (s : Schedule) (os : List Outlook) (below : List Asked) (lawful : IsLawful s) (same : length s.classes ≡ length below)
        (all : AreRenewed os below) (silent : (ask_drr (drr s) below s).shown ≡ None) where
      abbrev heads : ℕ → Option ℕ
      heads = head_of s below

      abbrev left : Schedule
      left = served heads s

      abbrev ps : List Outlook
      ps = map (outlook t) (service_of s below).below

      looked : AllRenew t os ps
      looked = looked-renew (is_among (asked_entries (choice_of heads s) s.active)) s.classes os below same all

      -- the list is as it was
      unmoved : s ≡ left → Renews t (of_class s os (slice_get s.active 0)) (of_class left ps (slice_get left.active 0))
      unmoved e = subst (λ (x : Schedule). Renews t (of_class s os (slice_get s.active 0)) (of_class x ps (slice_get x.active 0))) e (front-renews s os ps looked (slice_get s.active 0))

      module _ (e : Entry) (rest : List Entry) (is : s.active ≡ e ∷ rest) where
        abbrev front : Front e.class s
        front = record { first = e; rest = rest; is = is; class = refl }

        shows-nothing : heads e.class ≡ None → s ≡ left
        shows-nothing hidden =
            let ready = prepared_ready heads s e.class front lawful (need_at heads s e.class front None hidden (λ len some. absurd (none-some len some))) in
            served_nothing heads s s e.class front hidden ready

        -- the class in front showed a packet that its deficit does not cover, and others were asked
        passed-over : (o : Outlook) (a : Asked) (p : Descriptor) → IsRenewed o a → a.shown ≡ Some p → e.deficit < p.len → Renews t (paid e.deficit o) (of_class left ps (slice_get left.active 0))
        passed-over o a p h shown long =
            let comes = h.foreseen.early p shown in
            past-renews t (paid e.deficit o) (of_class left ps (slice_get left.active 0)) (class-formed left os ps looked (slice_get left.active 0))
            (subst (Covers t) (sym (paid-at e.deficit o)) (record { at = comes.at; is = comes.is; past = comes.past })) (paid-least e.deficit o)
            (λ y late opened.
            let k = paid-open e.deficit o y opened in
            let shows = h.foreseen.known comes.at comes.is comes.past (comes-before y (Some t) o.until (record { at = t; is = refl; past = late }) k.opened.ahead) in
            let one : shows.packet ≡ p = cc (shows.is, shown) in
            let size : p.len ≡ k.size = sym (ap (λ (x : Descriptor). x.len) one) ∙ shows.len k.size k.is in
            let fits = k.fits in
            absurd (omega (arith, size)))

        at-front : (o : Option Outlook) (a : Option Asked) → Both o a → head_of s below e.class ≡ option_and_then length_of a
            → Follows now t e.deficit (option_and_then (λ (x : Asked). x.shown) a) (ask_drr (drr s) below s).shown
            → (s ≡ left) ⊎ Renews t (option_map_or (paid e.deficit) o no_packet) (of_class left ps (slice_get left.active 0))
        at-front None None both head f = inl (shows-nothing head)
        at-front None (Some a) both head f = absurd both
        at-front (Some o) None both head f = absurd both
        at-front (Some o) (Some a) both head f = by a.shown refl
          where
            by : (x : Option Descriptor) → a.shown ≡ x → (s ≡ left) ⊎ Renews t (paid e.deficit o) (of_class left ps (slice_get left.active 0))
            by None shown = inl (shows-nothing (head ∙ ap (option_map (λ (p : Descriptor). p.len)) shown))
            by (Some p) shown = elim (cases_lt e.deficit p.len) [
              | inl long ↦ inr (passed-over o a p both shown long)
              | inr fits ↦ absurd (none-some p (sym silent ∙ f.covered p shown fits))
            ]

      of-front : (es : List Entry) → s.active ≡ es → Renews t (of_class s os (slice_get s.active 0)) (of_class left ps (slice_get left.active 0))
      of-front [] idle = unmoved (served_nobody heads s s idle (prepared_empty heads s lawful idle))
      of-front (e ∷ rest) is =
          elim (at-front e rest is (option_and_then (slice_get os) (class_at e.class s)) (class_answer s below e.class) (place (class_at e.class s))
          refl (follows (drr s) s below lawful e rest is now t)) [
            | inl as_it_was ↦ unmoved as_it_was
            | inr moved ↦ subst (λ (es : List Entry). Renews t (of_class s os (slice_get es 0)) (of_class left ps (slice_get left.active 0))) (sym is) moved
          ]
        where
          place : (i : Option ℕ) → Both (option_and_then (slice_get os) i) (option_and_then (slice_get below) i)
          place None = tt
          place (Some i) = asked-at os below all i

      nothing-renews : Renews t (of_class s os (slice_get s.active 0)) (outlook t (gives_nothing (drr s) below (service_of s below)).peeked)
      nothing-renews =
          subst (Renews t (of_class s os (slice_get s.active 0)))
          (sym (asked-outlook t (drr left) ((service_of s below).rises ++ (service_of s below).grants) (service_of s below).below)) (of-front s.active refl)

    -- ---- an fq_codel

    flows-left : (s : FqState) → fq.packets_of s.flows ≡ 0 → fq.packets_of (after_sending t (selected s)).flows ≡ 0
    flows-left s idle = omega (arith, idle, packets-all s.flows, packets-all (after_sending t (selected s)).flows, take_keeps_all one s t)

    fq-renews : (s : FqState) (below : List Asked) → (let own : Own = node t handle filters since (FqCodel s) None in
        Foresees now t (of_flows now (fq.packets_of s.flows)) (ask_fq_codel t own below s).shown → Renews t (of_flows now (fq.packets_of s.flows)) (outlook t (ask_fq_codel t own below s).peeked))
    fq-renews s below = by (option_map (λ (x : Taken). x.packet) (sent_from t (selected s)))
      where
        after : FqState
        after = after_sending t (selected s)

        notes : List Note
        notes = (ask_fq_codel t (node t handle filters since (FqCodel s) None) below s).peeked.memory

        by : (x : Option Descriptor) → Foresees now t (of_flows now (fq.packets_of s.flows)) x
            → Renews t (of_flows now (fq.packets_of s.flows))
            (outlook t (worked (node t handle filters since (FqCodel after) x) notes (befores below)))
        by None f = flows-renew (fq.packets_of s.flows) (fq.packets_of after.flows) (flows-left s)
        by (Some p) f = held-renews now t (of_flows now (fq.packets_of s.flows)) p f

    -- ---- every discipline

    module _ (mtu : ℕ) where
      pub asked-renews : (held : Option Descriptor) (d : Discipline) (os : List Outlook) (below : List Asked)
          → (let own : Own = node t handle filters since d held in
          IsLawfulOwn mtu t own (map beneath (befores below)) → AreRenewed os below → Foresees now t (outlook_own now own os) (ask_own t own below).shown
          → Renews t (outlook_own now own os) (outlook t (ask_own t own below).peeked))
      asked-renews (Some p) d os below h all f = hand-renews now t p.len order
      asked-renews None (Fifo limit queue) os below h all f = fifo-renews (slice_get (packets_of queue) 0)
      asked-renews None (Prio priomap) os below h all f =
          let own : Own = node t handle filters since (Prio priomap) None in
          let k : ℕ = position_or_len (λ (a : Asked). is_some a.shown) below in
          subst (Renews t (with_bands no_packet os)) (sym (asked-outlook t own (notes_to k below) (peeked_to k below)))
          (bands-renew t no_packet no_packet (none-renews t no_packet refl) os (map (outlook t) (peeked_to k below)) (passed-renew os below all k))
      asked-renews None (Tbf b limit) [] [] h all f = none-renews t no_packet refl
      asked-renews None (Tbf b limit) [] (a ∷ below) h all f = absurd all
      asked-renews None (Tbf b limit) (o ∷ os) [] h all f = absurd all
      asked-renews None (Tbf b limit) (o ∷ os) (a ∷ below) h all f = tbf-renews b limit h.discipline.level o a below all.0 f
      asked-renews None (Drr s) os below h all f =
          let same : length s.classes ≡ length below =
          omega (
            arith,
            exact-length (λ n. is_active n s.active) s.classes (map beneath (befores below)) h.discipline.exact,
            length-map
                (befores below) beneath,
            length-map below (λ (a : Asked). a.before),
          ) in
          drr-renews (of_class s os (slice_get s.active 0)) s below f (λ silent. nothing-renews s os below h.discipline.schedule same all silent)
      asked-renews None (FqCodel s) os below h all f = fq-renews s below f
