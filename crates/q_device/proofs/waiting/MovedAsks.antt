-- Where a node showed nothing its packet comes after that moment, and where it showed one that is at hand: by its discipline.
use Rattle.std.proofs.Common.{◌≡◌, ℕ, zero, suc, ◌∙◌, refl, sym, ap, subst, arith, List, [], ◌∷◌, ◌++◌, map, length, Option, Some, None, option_map, option_and_then}
use Rattle.std.specs.Prelude.{Bool, true, false, ◌==◌, if◌then◌else◌, slice_get}
use Rattle.std.specs.Option.{option_map_or}
use Rattle.std.specs.List.{position}
use Rattle.std.proofs.lemmas.List.{length-map}
use Rattle.std.proofs.lemmas.Option.{none-some, same_Some}
use Rattle.q_packet.specs.Descriptor.{Descriptor}
use Rattle.q_codel.specs.declared.codel.Taken.{Taken}
use Rattle.q_bucket.specs.Level.{TokenBucket, IsInRange, allows}
use Rattle.q_drr.specs.Schedule.{Class, Entry, Schedule, is_active}
use Rattle.q_drr.specs.Take.{choice_of, prepared, served}
use Rattle.q_drr.specs.declared.take.Met.{Met}
use Rattle.q_drr.proofs.ServedLemmas.{chosen_is_met}
use Rattle.q_drr.proofs.TakeLemmas.{served_nobody}
use Rattle.q_fqcodel.specs.FqState.{FqState}
use Rattle.q_fqcodel.specs.Take.{selected, after_sending, sent_from}
use Rattle.q_model.specs.declared.filter.Filter.{Filter}
use Rattle.q_model.specs.Ask.{Asked, befores, head_of, service_of, gives_nothing, ask_drr, ask_tbf, spends, waits, ask_fq_codel, ask_own, is_among}
use Rattle.q_model.specs.Beneath.{beneath, packets_of}
use Rattle.q_model.specs.Grants.{asked_entries}
use Rattle.q_model.specs.Lawful.{IsLawfulOwn}
use Rattle.q_model.specs.Node.{Discipline, Fifo, Prio, Tbf, Drr, FqCodel, Own}
use Rattle.q_model.specs.Route.{class_at}
use Rattle.q_model.specs.Tally.{Note}
use Rattle.q_model.specs.Work.{worked}
use Rattle.q_invariants.proofs.again.SecondPeek.{node}
use Rattle.q_invariants.proofs.again.SecondPrio.{ready}
use Rattle.q_invariants.proofs.ask.AskClasses.{peeked_by}
use Rattle.q_invariants.proofs.ask.AskPrio.{peeked_to, notes_to}
use Rattle.q_invariants.proofs.ask.DrrService.{IsMetAt, met-asked}
use Rattle.q_invariants.proofs.class.Exact.{classes-served, exact-length}
use Rattle.q_tree.specs.answers.ReadyAt.{no_packet, with_bands, paid, of_fifo, of_flows, of_class, outlook}
use Rattle.q_tree.proofs.Foreseeing.{Covers}
use Rattle.q_tree.proofs.ForeseenAsks.{prio-shown}
use Rattle.q_fqcodel.proofs.FlowsShow.{take_leaves_none}
use Rattle.q_device.proofs.waiting.Moved.{Moves, none-moves, hand-moves, IsMoved, AreMoved, bands-move, shaped-hidden, shaped-waits}
use Rattle.q_device.proofs.waiting.Renewed.{Outlook}
use Rattle.q_device.proofs.waiting.RenewedAsks.{asked-outlook, drr-asked}
use Rattle.q_device.proofs.waiting.RenewedBands.{paid-at}
use Rattle.q_device.proofs.waiting.SilentDrrs.{hides, list-left, place-front}

module _ (t : ℕ) where
  fifo-moves : (o : Option Descriptor) → Moves t o (of_fifo t o)
  fifo-moves None = none-moves t
  fifo-moves (Some p) = hand-moves t p

  -- a class that was asked
  looked-at : (test : Class → Bool) (classes : List Class) (below : List Asked) (i : ℕ) (c : Class) → length classes ≡ length below → slice_get classes i ≡ Some c → test c ≡ true
      → slice_get (map (outlook t) (peeked_by test classes below)) i ≡ option_map (λ (a : Asked). outlook t a.peeked) (slice_get below i)
  looked-at test [] below i c same e passes = absurd (none-some c e)
  looked-at test (d ∷ classes) [] i c same e passes = absurd (omega (arith, same))
  looked-at test (d ∷ classes) (a ∷ below) zero c same e passes = ap (λ (b : Bool). Some (outlook t (if b then a.peeked else a.before))) (ap test (same_Some d c e) ∙ passes)
  looked-at test (d ∷ classes) (a ∷ below) (suc i) c same e passes = looked-at test classes below i c (omega (arith, same)) e passes

  moved-at : (below : List Asked) → AreMoved t below → (i : ℕ) (a : Asked) → slice_get below i ≡ Some a → IsMoved t a
  moved-at [] all i a e = absurd (none-some a e)
  moved-at (b ∷ below) all zero a e = subst (IsMoved t) (same_Some b a e) all.0
  moved-at (b ∷ below) all (suc i) a e = moved-at below all.1 i a e

  module _ (handle : Option ℕ) (filters : List Filter) (since : ℕ) where
    -- ---- a tbf

    tbf-moves : (b : TokenBucket) (limit : ℕ) → IsInRange b → (a : Asked) (below : List Asked) → IsMoved t a
        → (let own : Own = node t handle filters since (Tbf b limit) None in Moves t (ask_tbf t own (a ∷ below) b limit).shown (outlook t (ask_tbf t own (a ∷ below) b limit).peeked))
    tbf-moves b limit range a below h = by a.shown refl
      where
        own : Own
        own = node t handle filters since (Tbf b limit) None

        P : Asked → Type 0
        P x = Moves t x.shown (outlook t x.peeked)

        may : (p : Descriptor) → a.shown ≡ Some p → (ok : Bool) → allows b t p.len ≡ ok → P (if ok then spends own (a ∷ below) b limit t a p else waits own (a ∷ below) a)
        may p e true is = hand-moves t p
        may p e false is = shaped-waits t b range (outlook t a.peeked) p (h.moved.shows p e) is

        by : (x : Option Descriptor) → a.shown ≡ x
            → P (option_map_or (λ (p : Descriptor). if allows b t p.len then spends own (a ∷ below) b limit t a p else waits own (a ∷ below) a) x (waits own (a ∷ below) a))
        by None e = shaped-hidden t b range (outlook t a.peeked) h.peeked (subst (λ (x : Option Descriptor). Moves t x (outlook t a.peeked)) e h.moved)
        by (Some p) e = may p e (allows b t p.len) refl

    -- ---- a drr

    abbrev drr : Schedule → Own
    drr s = node t handle filters since (Drr s) None

    -- one that gives a packet holds it
    drr-moves : (s : Schedule) (below : List Asked) → ((ask_drr (drr s) below s).shown ≡ None → Moves t None (outlook t (gives_nothing (drr s) below (service_of s below)).peeked))
        → Moves t (ask_drr (drr s) below s).shown (outlook t (ask_drr (drr s) below s).peeked)
    drr-moves s below =
        drr-asked (drr s) s below
        (λ (x : Asked). (x.shown ≡ None → Moves t None (outlook t (gives_nothing (drr s) below (service_of s below)).peeked)) → Moves t x.shown (outlook t x.peeked))
        (λ k. k refl) (λ i a p k. hand-moves t p)

    module _ (s : Schedule) (below : List Asked) (same : length s.classes ≡ length below) (all : AreMoved t below) (silent : (ask_drr (drr s) below s).shown ≡ None) where
      abbrev heads : ℕ → Option ℕ
      heads = head_of s below

      abbrev left : Schedule
      left = served heads s

      abbrev ps : List Outlook
      ps = map (outlook t) (service_of s below).below

      abbrev entries : List Entry
      entries = asked_entries (choice_of heads s) s.active

      place-left : (n : ℕ) → class_at n left ≡ class_at n s
      place-left n = ap (position (λ (c : Class). n == c.name)) (classes-served heads s)

      -- the class that is met shows nothing
      module _ (e : Entry) (rest : List Entry) (first : (prepared heads s).active ≡ e ∷ rest) where
        child : (i : ℕ) → class_at e.class s ≡ Some i → (o : Option Asked) → slice_get below i ≡ o
            → Moves t None (option_map_or (paid e.deficit) (option_map (λ (a : Asked). outlook t a.peeked) o) no_packet)
        child i at None there = none-moves t
        child i at (Some a) there =
            let h = moved-at below all i a there in
            let hidden : a.shown ≡ None = sym (ap (option_and_then (λ (x : Asked). x.shown)) (ap (option_and_then (slice_get below)) at ∙ there)) ∙ hides s below e rest first (drr s) silent in
            record {
              hidden = λ f c. h.moved.hidden hidden (subst (Covers t) (paid-at e.deficit (outlook t a.peeked)) c);
              shows = λ q f. absurd (none-some q f);
            }

        met-there : (i : ℕ) → class_at e.class s ≡ Some i → IsMetAt s entries i
        met-there i at = met-asked s heads (choice_of heads s) i (sym (ap (option_and_then (λ (m : Met). class_at m.class s)) (chosen_is_met s heads)) ∙ place-front s below e rest first ∙ at)

        place : (i : Option ℕ) → class_at e.class s ≡ i → Moves t None (option_map_or (paid e.deficit) (option_and_then (slice_get ps) i) no_packet)
        place None at = none-moves t
        place (Some i) at =
            let m = met-there i at in
            subst (λ (o : Option Outlook). Moves t None (option_map_or (paid e.deficit) o no_packet)) (sym (looked-at (is_among entries) s.classes below i m.class same m.there m.asked))
            (child i at (slice_get below i) refl)

        front-moves : Moves t None (of_class left ps (slice_get left.active 0))
        front-moves =
            subst (λ (es : List Entry). Moves t None (of_class left ps (slice_get es 0))) (sym (list-left s below e rest first (drr s) silent))
            (subst (λ (i : Option ℕ). Moves t None (option_map_or (paid e.deficit) (option_and_then (slice_get ps) i) no_packet)) (sym (place-left e.class)) (place (class_at e.class s) refl))

      of-front : (es : List Entry) → (prepared heads s).active ≡ es → Moves t None (of_class left ps (slice_get left.active 0))
      of-front [] idle =
          subst (λ (es : List Entry). Moves t None (of_class left ps (slice_get es 0)))
          (sym (ap (λ (x : Schedule). x.active) (sym (served_nobody heads s (prepared heads s) idle refl)) ∙ idle)) (none-moves t)
      of-front (e ∷ rest) first = front-moves e rest first

      nothing-moves : Moves t None (outlook t (gives_nothing (drr s) below (service_of s below)).peeked)
      nothing-moves =
          subst (Moves t None) (sym (asked-outlook t (drr left) ((service_of s below).rises ++ (service_of s below).grants)
          (service_of s below).below)) (of-front (prepared heads s).active refl)

    -- ---- every discipline

    module _ (mtu : ℕ) where
      pub asked-moves : (held : Option Descriptor) (d : Discipline) (below : List Asked)
          → (let own : Own = node t handle filters since d held in
          IsLawfulOwn mtu t own (map beneath (befores below)) → AreMoved t below → Moves t (ask_own t own below).shown (outlook t (ask_own t own below).peeked))
      asked-moves (Some p) d below h all = hand-moves t p
      asked-moves None (Fifo limit queue) below h all = fifo-moves (slice_get (packets_of queue) 0)
      asked-moves None (Prio priomap) below h all =
          let own : Own = node t handle filters since (Prio priomap) None in
          let k : ℕ = ready below in
          subst (Moves t (ask_own t own below).shown) (sym (asked-outlook t own (notes_to k below) (peeked_to k below)))
          (subst (λ (o : Option Descriptor). Moves t o (with_bands no_packet (map (outlook t) (peeked_to k below)))) (sym (prio-shown own below)) (bands-move t no_packet (none-moves t) below all))
      asked-moves None (Tbf b limit) [] h all = none-moves t
      asked-moves None (Tbf b limit) (a ∷ below) h all = tbf-moves b limit h.discipline.level a below all.0
      asked-moves None (Drr s) below h all =
          let same : length s.classes ≡ length below =
          omega (
            arith,
            exact-length (λ n. is_active n s.active) s.classes (map beneath (befores below)) h.discipline.exact,
            length-map
                (befores below) beneath,
            length-map below (λ (a : Asked). a.before),
          ) in
          drr-moves s below (λ silent. nothing-moves s below same all silent)
      asked-moves None (FqCodel s) below h all = by (option_map (λ (x : Taken). x.packet) (sent_from t (selected s))) refl
        where
          own : Own
          own = node t handle filters since (FqCodel s) None

          notes : List Note
          notes = (ask_fq_codel t own below s).peeked.memory

          after : FqState
          after = after_sending t (selected s)

          by : (x : Option Descriptor) → option_map (λ (x : Taken). x.packet) (sent_from t (selected s)) ≡ x
              → Moves t x (outlook t (worked (node t handle filters since (FqCodel after) x) notes (befores below)))
          by None e = subst (λ n. Moves t None (of_flows t n)) (sym (take_leaves_none t s h.discipline.lists h.discipline.settings.quantum_low e)) (none-moves t)
          by (Some p) e = hand-moves t p
