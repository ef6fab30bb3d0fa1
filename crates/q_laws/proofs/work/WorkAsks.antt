-- A node without a tbf that shows nothing when it is asked has nothing queued.
use Rattle.std.proofs.Common.{◌≡◌, ℕ, zero, suc, ◌+◌, ◌≤◌, ◌^◌, ◌∙◌, refl, sym, ap, subst, arith, List, [], ◌∷◌, ◌++◌, map, length, flat_map, Option, Some, None, option_map, option_and_then, option_to_list, eq-eqb}
use Rattle.std.specs.Prelude.{Bool, true, false, not, All, ◌==◌, slice_get, unwrap_or}
use Rattle.std.proofs.lemmas.Bool.{true≢false, false≢true, eqb-true, ne_eqb, or_left}
use Rattle.std.proofs.lemmas.List.{length-append, length-map}
use Rattle.std.proofs.lemmas.List.Elements.{All-head}
use Rattle.std.proofs.lemmas.List.Quantifiers.{position-Some}
use Rattle.std.proofs.lemmas.Option.{none-some, same_Some, get_or_from_slice_get}
use Rattle.q_packet.specs.Descriptor.{Descriptor}
use Rattle.q_packet.specs.declared.stamped.Stamped.{Stamped}
use Rattle.q_codel.specs.declared.codel.Taken.{Taken}
use Rattle.q_drr.specs.Schedule.{Class, Entry, Schedule, IsEntry, IsLawful, has_class, is_active}
use Rattle.q_drr.specs.Changes.{HeadsFit}
use Rattle.q_drr.specs.Take.{choice_of, prepared, served}
use Rattle.q_drr.specs.declared.take.Met.{Met}
use Rattle.q_drr.proofs.ServedLemmas.{chosen_is_met, served_lawful}
use Rattle.q_drr.proofs.TakeLemmas.{served_nobody}
use Rattle.q_fqcodel.specs.FqState.{FqState, all_packets}
use Rattle.q_fqcodel.specs.Take.{selected, after_sending, sent_from}
use Rattle.q_model.specs.declared.filter.Filter.{Filter}
use Rattle.q_model.specs.Ask.{Asked, befores, head_of, ask_drr, ask_fq_codel, ask_own}
use Rattle.q_model.specs.Beneath.{beneath, packets_of, packets_in}
use Rattle.q_model.specs.Grants.{asked_entries}
use Rattle.q_model.specs.Lawful.{IsLawfulOwn, IsLawfulDrr}
use Rattle.q_model.specs.Node.{Discipline, Fifo, Prio, Tbf, Drr, FqCodel, Own}
use Rattle.q_model.specs.Route.{class_at}
use Rattle.q_invariants.proofs.ask.Answer.{IsAnswer, AreAnswers, waiting, beneath-worked}
use Rattle.q_invariants.proofs.ask.AskFqCodel.{fq_codel-answers}
use Rattle.q_invariants.proofs.ask.DrrService.{IsMetAt, met-asked, heads-fit}
use Rattle.q_invariants.proofs.class.Exact.{AreExact, active-served, classes-served, exact-length}
use Rattle.q_invariants.proofs.edit.EditClasses.{class_known}
use Rattle.q_invariants.proofs.edit.EditClassPlans.{position_of}
use Rattle.q_invariants.proofs.sums.Weights.{weigh-count}
use Rattle.q_tree.specs.answers.Ways.{is_tbf}
use Rattle.q_tree.proofs.FlowCounts.{count-sum, packets-all}
use Rattle.q_tree.proofs.ForeseenAsks.{first_of, or_else, prio-shown}
use Rattle.q_device.proofs.waiting.SilentDrrs.{hides, list-left, place-front}
use Rattle.q_fqcodel.proofs.FlowsShow.{take_leaves_none}

-- a node that shows nothing only where nothing is queued
abbrev pub Rests : Asked → Type 0
Rests a = a.shown ≡ None → length (beneath a.before) ≡ 0

abbrev pub AreRests : List Asked → Type 0
AreRests [] = Unit {0}
AreRests (a ∷ below) = Rests a × AreRests below

-- what is queued at all children
abbrev pub queued : List (List Descriptor) → ℕ
queued below = length (flat_map (λ (packets : List Descriptor). packets) below)

abbrev waits : List Asked → ℕ
waits below = queued (map beneath (befores below))

pub queued-more : (ps : List Descriptor) (below : List (List Descriptor)) → queued (ps ∷ below) ≡ length ps + queued below
queued-more ps below = length-append ps (flat_map (λ (packets : List Descriptor). packets) below)

queued-none : (below : List (List Descriptor)) → below ≡ [] → queued below ≡ 0
queued-none below e = ap queued e

pub own-length : (own : Own) (below : List Asked) → length (waiting own (befores below)) ≡ length (option_to_list own.held) + length (packets_in own.discipline) + waits below
own-length own below =
    let here : List Descriptor = option_to_list own.held ++ packets_in own.discipline in
    let whole : length (waiting own (befores below)) ≡ length here + waits below = length-append here (flat_map (λ (packets : List Descriptor). packets) (map beneath (befores below))) in
    omega (arith, whole, length-append (option_to_list own.held) (packets_in own.discipline))

-- ---- a fifo and a prio

no-head : (ps : List Descriptor) → slice_get ps 0 ≡ None → length ps ≡ 0
no-head [] e = refl
no-head (p ∷ ps) e = absurd (none-some p (sym e))

both : (a b : Option Descriptor) → or_else a b ≡ None → (a ≡ None) × (b ≡ None)
both None b e = (refl, e)
both (Some p) b e = absurd (none-some p (sym e))

bands-rest : (below : List Asked) → AreRests below → first_of below ≡ None → waits below ≡ 0
bands-rest [] all e = refl
bands-rest (a ∷ below) all e =
    let parts = both a.shown (first_of below) e in
    omega (arith, queued-more (beneath a.before) (map beneath (befores below)), all.0 parts.0, bands-rest below all.1 parts.1)

rest-at : (below : List Asked) → AreRests below → (i : ℕ) (a : Asked) → slice_get below i ≡ Some a → Rests a
rest-at [] all i a e = absurd (none-some a e)
rest-at (b ∷ below) all zero a e = subst Rests (same_Some b a e) all.0
rest-at (b ∷ below) all (suc i) a e = rest-at below all.1 i a e

-- ---- a drr

none-active : (classes : List Class) (below : List (List Descriptor)) → AreExact (λ n. is_active n []) classes below → queued below ≡ 0
none-active [] [] h = refl
none-active [] (ps ∷ below) h = absurd h
none-active (c ∷ classes) [] h = absurd h
none-active (c ∷ classes) (ps ∷ below) h = omega (arith, queued-more ps below, empty ps h.0, none-active classes below h.1)
  where
    empty : (ps : List Descriptor) → false ≡ not (length ps == 0) → length ps ≡ 0
    empty [] e = refl
    empty (p ∷ ps) e = absurd (false≢true (e ∙ ap not (ne_eqb (suc (length ps)) 0 (λ same. absurd (omega (arith, same))))))

-- a class whose child has nothing queued is not active
not-active : (active : ℕ → Bool) (classes : List Class) (below : List (List Descriptor)) (i : ℕ) (c : Class) (ps : List Descriptor) → AreExact active classes below
    → slice_get classes i ≡ Some c → slice_get below i ≡ Some ps → length ps ≡ 0 → active c.name ≡ false
not-active active [] below i c ps h at there e = absurd (none-some c at)
not-active active (d ∷ classes) [] i c ps h at there e = absurd h
not-active active (d ∷ classes) (qs ∷ below) zero c ps h at there e =
    ap (λ (x : Class). active x.name) (sym (same_Some d c at)) ∙ h.0 ∙ ap (λ (x : List Descriptor). not (length x == 0)) (same_Some qs ps there) ∙ ap (λ n. not (n == 0)) e
not-active active (d ∷ classes) (qs ∷ below) (suc i) c ps h at there e = not-active active classes below i c ps h.1 at there e

packets-at : (below : List Asked) (i : ℕ) (a : Asked) → slice_get below i ≡ Some a → slice_get (map beneath (befores below)) i ≡ Some (beneath a.before)
packets-at [] i a e = absurd (none-some a e)
packets-at (b ∷ below) zero a e = ap (λ (x : Asked). Some (beneath x.before)) (same_Some b a e)
packets-at (b ∷ below) (suc i) a e = packets-at below i a e

-- a place that has a class has a child
child-there : (classes : List Class) (below : List Asked) (i : ℕ) (c : Class) → length classes ≡ length below → slice_get classes i ≡ Some c → (a : Asked) × (slice_get below i ≡ Some a)
child-there [] below i c same e = absurd (none-some c e)
child-there (d ∷ classes) [] i c same e = absurd (omega (arith, same))
child-there (d ∷ classes) (a ∷ below) zero c same e = (a, refl)
child-there (d ∷ classes) (a ∷ below) (suc i) c same e = child-there classes below i c (omega (arith, same)) e

module _ (mtu now : ℕ) (own : Own) (s : Schedule) (below : List Asked) (h : IsLawfulDrr mtu s (map beneath (befores below))) (all : AreAnswers mtu now below) (rest : AreRests below)
    (silent : (ask_drr own below s).shown ≡ None) where
  abbrev heads : ℕ → Option ℕ
  heads = head_of s below

  abbrev left : Schedule
  left = served heads s

  same : length s.classes ≡ length below
  same = omega (arith, exact-length (λ n. is_active n s.active) s.classes (map beneath (befores below)) h.exact, length-map (befores below) beneath, length-map below (λ (a : Asked). a.before))

  lawful : IsLawful left
  lawful = served_lawful s heads h.schedule (subst (λ n. HeadsFit heads n) (sym h.longest) (heads-fit mtu now s below all))

  idle : s.active ≡ [] → waits below ≡ 0
  idle none = none-active s.classes (map beneath (befores below)) (subst (λ (es : List Entry). AreExact (λ n. is_active n es) s.classes (map beneath (befores below))) none h.exact)

  -- the class that is met shows nothing, though something is queued there
  module _ (e : Entry) (others : List Entry) (first : (prepared heads s).active ≡ e ∷ others) where
    active : is_active e.class s.active ≡ true
    active =
        sym (active-served e.class heads s) ∙ ap (is_active e.class) (list-left s below e others first own silent)
        ∙ or_left (e.class == e.class) (is_active e.class others) (eq-eqb e.class e.class refl)

    abbrev place : ℕ
    place = unwrap_or (class_at e.class s) 0

    class-there : class_at e.class s ≡ Some place
    class-there =
        let entry : IsEntry left.max_len left.classes e =
        All-head (IsEntry left.max_len left.classes) e others
        (subst (λ (es : List Entry). All (IsEntry left.max_len left.classes) es) (list-left s below e others first own silent)
        lawful.entries) in
        position_of (class_at e.class s) (class_known 0 e.class s ∙ ap (has_class e.class) (sym (classes-served heads s)) ∙ entry.there)

    contradicts : ⊥
    contradicts =
        let met : IsMetAt s (asked_entries (choice_of heads s) s.active) place =
        met-asked s heads (choice_of heads s) place (sym (ap (option_and_then (λ (m : Met). class_at m.class s)) (chosen_is_met s heads)) ∙ place-front s below e others first ∙ class-there) in
        let child = child-there s.classes below place met.class same met.there in
        let hidden : child.0.shown ≡ None =
        sym (ap (option_and_then (λ (x : Asked). x.shown)) (ap (option_and_then (slice_get below)) class-there ∙ child.1))
        ∙ hides s below e others first own silent in
        let name : e.class ≡ met.class.name = named met.class met.there in
        let asleep = not-active (λ n. is_active n s.active) s.classes (map beneath (befores below)) place met.class (beneath child.0.before) h.exact met.there (packets-at below place child.0 child.1)
        (rest-at below rest place child.0 child.1 hidden) in
        false≢true (sym asleep ∙ ap (λ n. is_active n s.active) (sym name) ∙ active)
      where
        named : (c : Class) → slice_get s.classes place ≡ Some c → e.class ≡ c.name
        named c at =
            let d : Class = record { name = 0; quantum = 0 } in
            let found = position-Some (λ (x : Class). e.class == x.name) s.classes place d class-there in
            eqb-true e.class c.name (subst (λ (x : Class). (e.class == x.name) ≡ true) (get_or_from_slice_get s.classes place c d at) found.1)

  drr-rests : waits below ≡ 0
  drr-rests = by (prepared heads s).active refl
    where
      nobody : (es : List Entry) → ((n : ℕ) → is_active n es ≡ false) → es ≡ []
      nobody [] h = refl
      nobody (e ∷ es) h = absurd (false≢true (sym (h e.class) ∙ or_left (e.class == e.class) (is_active e.class es) (eq-eqb e.class e.class refl)))

      by : (es : List Entry) → (prepared heads s).active ≡ es → waits below ≡ 0
      by [] none =
          let active : (n : ℕ) → is_active n s.active ≡ false =
          λ n. sym (active-served n heads s) ∙ ap (λ (x : Schedule). is_active n x.active) (sym (served_nobody heads s (prepared heads s) none refl)) ∙ ap (is_active n) none in
          idle (nobody s.active active)
      by (e ∷ others) first = absurd (contradicts e others first)

-- ---- every discipline

module _ (mtu now : ℕ) (low : now ≤ 2 ^ 62) (handle : Option ℕ) (filters : List Filter) (since : ℕ) where
  abbrev node : Discipline → Option Descriptor → Own
  node d held = record { handle = handle; discipline = d; held = held; since = since; filters = filters }

  flows-rest : (s : FqState) (below : List Asked) → IsLawfulOwn mtu now (node (FqCodel s) None) (map beneath (befores below)) → AreAnswers mtu now below
      → option_map (λ (t : Taken). t.packet) (sent_from now (selected s)) ≡ None → length (waiting (node (FqCodel s) None) (befores below)) ≡ 0
  flows-rest s below h all silent =
      let own : Own = node (FqCodel s) None in
      let a : Asked = ask_fq_codel now own below s in
      let after : FqState = after_sending now (selected s) in
      let left : Own = node (FqCodel after) (option_map (λ (t : Taken). t.packet) (sent_from now (selected s))) in
      let answer : IsAnswer mtu now a = fq_codel-answers mtu now low handle filters since s below h all in
      let gone = take_leaves_none now s h.discipline.lists h.discipline.settings.quantum_low silent in
      let counted : length (packets_of (all_packets after.flows)) ≡ 0 =
      omega (arith, gone, length-map (all_packets after.flows) (λ (x : Stamped). x.packet), packets-all after.flows, count-sum (all_packets after.flows)) in
      let peeked : length (beneath a.peeked) ≡ 0 =
      omega (
        arith,
        ap length (beneath-worked left a.peeked.memory (befores below)),
        own-length left below,
        ap
            (λ (o : Option Descriptor). length (option_to_list o)) silent,
        counted,
        queued-none (map beneath (befores below)) h.discipline.none,
      ) in
      let before = answer.stays (omega (arith, weigh-count (beneath a.peeked), peeked)) in
      omega (arith, before, weigh-count (beneath a.before), ap length (beneath-worked own [] (befores below)))

  pub own-rests : (held : Option Descriptor) (d : Discipline) (below : List Asked) → is_tbf d ≡ false
      → IsLawfulOwn mtu now (node d held) (map beneath (befores below)) → AreAnswers mtu now below → AreRests below
      → (ask_own now (node d held) below).shown ≡ None → length (waiting (node d held) (befores below)) ≡ 0
  own-rests (Some p) d below other h all rest silent = absurd (none-some p (sym silent))
  own-rests None (Fifo limit queue) below other h all rest silent =
      omega (arith, own-length (node (Fifo limit queue) None) below, no-head (packets_of queue) silent, queued-none (map beneath (befores below)) h.discipline.none)
  own-rests None (Prio priomap) below other h all rest silent =
      omega (arith, own-length (node (Prio priomap) None) below, bands-rest below rest (sym (prio-shown (node (Prio priomap) None) below) ∙ silent))
  own-rests None (Tbf b limit) below other h all rest silent = absurd (true≢false other)
  own-rests None (Drr s) below other h all rest silent =
      omega (arith, own-length (node (Drr s) None) below, drr-rests mtu now (node (Drr s) None) s below h.discipline all rest silent)
  own-rests None (FqCodel s) below other h all rest silent = flows-rest s below h all silent
