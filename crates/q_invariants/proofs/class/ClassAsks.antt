-- What a poll changes of a drr and of each of its classes that stays.
use Rattle.std.proofs.Common.{◌≡◌, ◌≢◌, ℕ, ◌+◌, ◌*◌, ◌≤◌, ◌^◌, ◌⊎◌, inl, inr, List, ◌++◌, map, set, refl, sym, ap, subst, ◌∙◌, Option, Some, None, option_and_then, option_map, option_to_list, arith, suc, ◌<◌, true, false}
use Rattle.std.specs.Prelude.{slice_get, IsSomeAnd}
use Rattle.std.specs.Option.{option_map_or}
use Rattle.std.proofs.lemmas.List.Sums.{sum_by-append}
use Rattle.std.proofs.lemmas.Option.{same_Some}
use Rattle.q_packet.specs.Descriptor.{Descriptor}
use Rattle.q_drr.specs.Schedule.{Schedule, is_active, quantum_of, deficit_of, IsLawful}
use Rattle.q_drr.specs.Changes.{HeadsFit}
use Rattle.q_drr.specs.Stretch.{stands_first}
use Rattle.q_drr.specs.Take.{choice_of, served}
use Rattle.q_drr.specs.Turns.{grants_at, bytes_at}
use Rattle.q_drr.proofs.DifferLemmas.{EntriesDiffer, entries_apart}
use Rattle.q_drr.proofs.ServedLemmas.{takes_grant_where_short}
use Rattle.std.proofs.lemmas.Bool.{cases_Bool}
use Rattle.q_model.specs.Tally.{Note, Sent, history}
use Rattle.q_model.specs.Node.{Discipline, Drr, Own, Forest, Node, children, each, shape, side_by_side, nodes_in}
use Rattle.q_model.specs.Beneath.{is_empty}
use Rattle.q_model.specs.Grants.{granted_notes}
use Rattle.q_model.specs.Work.{Worked, booked, settled_class}
use Rattle.q_model.specs.Ask.{Asked, befores, holding, Dequeue, dequeued, length_of, service_of, place_met, gives_nothing, class_gives, class_serves, ask_drr, ask_discipline, ask_own, ask, since_shown}
use Rattle.q_model.specs.Stretches.{sent_by, bytes_sent, granted_by, grants_to}
use Rattle.q_invariants.specs.Kept.{IsLawfulRoot}
use Rattle.q_invariants.proofs.ask.Asks.{forest-answers}
use Rattle.q_invariants.proofs.ask.AskStages.{IsStageOf, IsAskOf, asked-related}
use Rattle.q_invariants.proofs.ask.DrrService.{heads-fit}
use Rattle.q_invariants.proofs.ask.SentStages.{sum-each}
use Rattle.q_invariants.proofs.class.AgainstTurns.{left_before, asleep-left, quiet-against, take-against}
use Rattle.q_invariants.proofs.class.ClassChildren.{child_for, child-at}
use Rattle.q_invariants.proofs.class.ClassLooks.{answer-for, before-at, booked-child}
use Rattle.q_invariants.proofs.class.ClassSteps.{DrrStep, Stays, quiet-step, same-schedule}
use Rattle.q_invariants.proofs.class.ClassTakes.{heads, none-sends, looked-gives, service-gives, met-sends, asleep-sends}
use Rattle.q_invariants.proofs.class.Exact.{active-served, classes-served}
use Rattle.q_invariants.proofs.class.SameTurns.{SameTurns, same-all, same-settled}
use Rattle.q_invariants.proofs.class.TakeTurns.{one_if, Stands, stands, take-books, take-even, grants-noted, absent-noted, deficit-at}
use Rattle.q_invariants.proofs.put.DrrSettled.{class-settled}
use Rattle.q_invariants.proofs.sums.NoteSums.{AreRisen, sum-risen, past-granted}
use Rattle.q_invariants.proofs.sums.Risen.{rise-service, all-rise}
use Rattle.q_invariants.proofs.sums.Told.{noted-history}
use Rattle.q_invariants.proofs.tree.Forests.{nodes-side}
use Rattle.q_invariants.proofs.tree.StepNodes.{IsAsked}

module _ (now : ℕ) (x : Forest (Unit {0})) (s : Schedule) (differ : EntriesDiffer s.active) where
  abbrev asked : List Asked
  asked = each (ask_own now) x

  abbrev shown : ℕ → Option ℕ
  shown = heads now x s differ

  -- it was not asked, or held a packet already
  pub record AsWas (t : Schedule) (w : Worked) (ws : List Worked) : Type 0 where
    pub same : t ≡ s
    pub granted : (c : ℕ) → grants_to c w.memory ≡ 0
    pub children : ws ≡ befores asked

  -- it gave nothing
  pub record Nothing (t : Schedule) (ws : List Worked) : Type 0 where
    pub schedule : t ≡ served shown s
    pub children : ws ≡ (service_of s asked).below
    pub hidden : option_and_then length_of (option_and_then (slice_get asked) (place_met s asked)) ≡ None

  -- it gave the packet of the class that it met
  pub record Gave (t : Schedule) (ws : List Worked) : Type 0 where
    pub place : ℕ
    pub answer : Asked
    pub packet : Descriptor
    pub placed : place_met s asked ≡ Some place
    pub there : slice_get asked place ≡ Some answer
    pub shows : answer.shown ≡ Some packet
    pub schedule : t ≡ settled_class place (is_empty answer.taken) (served shown s)
    pub children : ws ≡ set (service_of s asked).below place answer.taken

  -- it served
  pub record Served (t : Schedule) (w : Worked) (ws : List Worked) : Type 0 where
    pub granted : (c : ℕ) → grants_to c w.memory ≡ grants_to c (granted_notes (choice_of shown s) s.active)
    pub how : Nothing t ws ⊎ Gave t ws

  pub record DrrStage (w : Worked) : Type 0 where
    pub schedule : Schedule
    pub is : w.own.discipline ≡ Drr schedule
    pub children : List Worked
    pub below_is : side_by_side children ≡ w.below
    pub how : AsWas schedule w children ⊎ Served schedule w children

  sent-grants : (c : ℕ) (o : Option Descriptor) → grants_to c (map Sent (option_to_list o)) ≡ 0
  sent-grants c o = sum-each (granted_by c) Sent (λ p. refl) (option_to_list o)

  module _ (own : Own) (is : own.discipline ≡ Drr s) where
    dequeued-stage : (d : Dequeue) (t : Schedule) → d.after.discipline ≡ Drr t → d.rises ≡ (service_of s asked).rises → d.mine ≡ (service_of s asked).grants → Nothing t d.children ⊎ Gave t d.children
        → (w : Worked) → IsStageOf (dequeued own asked d) w → DrrStage w
    dequeued-stage d t after rises mine how w stage = by stage
      where
        noted : (c : ℕ) → grants_to c (d.rises ++ d.mine) ≡ grants_to c (granted_notes (choice_of shown s) s.active)
        noted c =
            let none = sum-risen (granted_by c) (past-granted c) d.rises (subst AreRisen (sym rises) (rise-service s asked (all-rise now x))) in
            omega (arith, sum_by-append (granted_by c) d.rises d.mine, none, ap (grants_to c) mine)

        by : IsStageOf (dequeued own asked d) w → DrrStage w
        by (inl e) = subst DrrStage (sym e) (record {
          schedule = s;
          is = is;
          children = befores asked;
          below_is = refl;
          how = inl (record { same = refl; granted = λ c. refl; children = refl });
        })
        by (inr (inl e)) = subst DrrStage (sym e) (record {
          schedule = t;
          is = after;
          children = d.children;
          below_is = refl;
          how = inr (record { granted = noted; how = how });
        })
        by (inr (inr e)) = subst DrrStage (sym e) (record {
          schedule = t;
          is = after;
          children = d.children;
          below_is = refl;
          how = inr (record {
            granted = λ c. omega (arith, noted c, sum_by-append (granted_by c) (d.rises ++ d.mine) (map Sent (option_to_list d.packet)), sent-grants c d.packet);
            how = how;
          });
        })

    nothing-stage : option_and_then length_of (option_and_then (slice_get asked) (place_met s asked)) ≡ None → (w : Worked) → IsStageOf (gives_nothing own asked (service_of s asked)) w → DrrStage w
    nothing-stage hidden w stage =
        dequeued-stage (record {
          after = record own { discipline = Drr (service_of s asked).schedule };
          children = (service_of s asked).below;
          rises = (service_of s asked).rises;
          mine = (service_of s asked).grants;
          packet = None;
          since = 0;
        }) (served shown s) refl refl refl (inl (record { schedule = refl; children = refl; hidden = hidden })) w stage

    serves-stage : (i : ℕ) (a : Asked) (o : Option Descriptor) → place_met s asked ≡ Some i → slice_get asked i ≡ Some a → a.shown ≡ o → (w : Worked)
        → IsStageOf (option_map_or (class_gives own asked (service_of s asked) i a) o (gives_nothing own asked (service_of s asked))) w → DrrStage w
    serves-stage i a None placed there shows w stage =
        nothing-stage (ap (λ (o : Option ℕ). option_and_then length_of (option_and_then (slice_get asked) o)) placed ∙ ap (option_and_then length_of) there
        ∙ ap (option_map (λ (p : Descriptor). p.len)) shows) w stage
    serves-stage i a (Some p) placed there shows w stage =
        dequeued-stage (record {
          after = record own { discipline = Drr (settled_class i (is_empty a.taken) (service_of s asked).schedule) };
          children = set (service_of s asked).below i a.taken;
          rises = (service_of s asked).rises;
          mine = (service_of s asked).grants;
          packet = Some p;
          since = since_shown a;
        }) (settled_class i (is_empty a.taken) (served shown s)) refl refl refl
        (inr (record { place = i; answer = a; packet = p; placed = placed; there = there; shows = shows; schedule = refl; children = refl })) w stage

    drr-stage : (w : Worked) → IsStageOf (ask_drr own asked s) w → DrrStage w
    drr-stage w stage = by (place_met s asked) refl stage
      where
        child : (i : ℕ) (o : Option Asked) → place_met s asked ≡ Some i → slice_get asked i ≡ o
            → IsStageOf (option_map_or (class_serves own asked (service_of s asked) i) o (gives_nothing own asked (service_of s asked))) w → DrrStage w
        child i None placed there st = nothing-stage (ap (λ (o : Option ℕ). option_and_then length_of (option_and_then (slice_get asked) o)) placed ∙ ap (option_and_then length_of) there) w st
        child i (Some a) placed there st = serves-stage i a a.shown placed there refl w st

        by : (o : Option ℕ) → place_met s asked ≡ o
            → IsStageOf (option_map_or (λ i. option_map_or (class_serves own asked (service_of s asked) i) (slice_get asked i)
            (gives_nothing own asked (service_of s asked))) o (gives_nothing own asked (service_of s asked))) w
            → DrrStage w
        by None placed st = nothing-stage (ap (λ (o : Option ℕ). option_and_then length_of (option_and_then (slice_get asked) o)) placed) w st
        by (Some i) placed st = child i (slice_get asked i) placed refl st

    held-stage : (p : Descriptor) (w : Worked) → IsStageOf (holding own asked p) w → DrrStage w
    held-stage p w stage = by stage
      where
        as-was : (v : Worked) → v.own.discipline ≡ own.discipline → ((c : ℕ) → grants_to c v.memory ≡ 0) → side_by_side (befores asked) ≡ v.below → DrrStage v
        as-was v e granted below =
            record { schedule = s; is = e ∙ is; children = befores asked; below_is = below; how = inl (record { same = refl; granted = granted; children = refl }) }

        by : IsStageOf (holding own asked p) w → DrrStage w
        by (inl e) = subst DrrStage (sym e) (as-was (holding own asked p).before refl (λ c. refl) refl)
        by (inr (inl e)) = subst DrrStage (sym e) (as-was (holding own asked p).peeked refl (λ c. refl) refl)
        by (inr (inr e)) = subst DrrStage (sym e) (as-was (holding own asked p).taken refl (λ c. sent-grants c (Some p)) refl)

    pub own-stage : (w : Worked) → IsStageOf (ask_own now own asked) w → DrrStage w
    own-stage w stage = by own.held refl stage
      where
        by : (o : Option Descriptor) → own.held ≡ o → IsStageOf (option_map_or (holding own asked) o (ask_discipline now own asked own.discipline)) w → DrrStage w
        by (Some p) e st = held-stage p w st
        by None e st = drr-stage w (subst (λ (d : Discipline). IsStageOf (ask_discipline now own asked d) w) is st)

-- ---- the step

module _ (mtu now : ℕ) (least : 1 ≤ mtu) (low : now ≤ 2 ^ 62) (n : Node (List Note)) (s : Schedule) (is : n.own.discipline ≡ Drr s) (law : IsLawful s) (longest : s.max_len ≡ mtu)
    (lawful : IsLawfulRoot mtu now (shape n)) where
  apart : EntriesDiffer s.active
  apart = entries_apart s.active law.entries_differ

  abbrev shows : ℕ → Option ℕ
  shows = heads now (shape n).below s apart

  fits : HeadsFit shows s.max_len
  fits = subst (HeadsFit shows) (sym longest) (heads-fit mtu now s (each (ask_own now) (shape n).below) (forest-answers mtu now least low (shape n).below lawful.1))

  -- each class, where the schedule was served
  served-class : (t : Schedule) (w : Worked) (ws : List Worked) (h : Served now (shape n).below s apart t w ws) (c : ℕ) (v : Worked) → child_for c s.classes ws ≡ Some v
      → Stays c s t → quantum_of c t.classes ≡ quantum_of c s.classes
      → bytes_sent v.memory + deficit_of c t.active ≡ grants_to c w.memory * quantum_of c s.classes + deficit_of c s.active
  served-class t w ws h c v there stays quantum =
      let at : Stands c s.active = stands c s.active stays.before in
      let g : grants_to c w.memory ≡ grants_at (choice_of shows s) at.place = h.granted c ∙ grants-noted c s.active (choice_of shows s) at apart in
      let books = take-books s shows law fits c at stays.before in
      let product : grants_to c w.memory * quantum_of c s.classes ≡ grants_at (choice_of shows s) at.place * quantum_of c s.classes = ap (λ k. k * quantum_of c s.classes) g in
      let sent = sends at h.how in
      let kept = left h.how in
      omega (arith, books, product, sent, kept)
    where
      sends : (at : Stands c s.active) → Nothing now (shape n).below s apart t ws ⊎ Gave now (shape n).below s apart t ws → bytes_sent v.memory ≡ bytes_at (choice_of shows s) at.place (shows c)
      sends at (inl nothing) =
          service-gives now (shape n).below s apart c v (sym (ap (child_for c s.classes) nothing.children) ∙ there)
          ∙ sym (none-sends now (shape n).below s apart nothing.hidden c at)
      sends at (inr gave) =
          met-sends now (shape n).below s apart gave.place gave.answer gave.packet gave.placed gave.there gave.shows c at v (sym (ap (child_for c s.classes) gave.children) ∙ there)

      left : Nothing now (shape n).below s apart t ws ⊎ Gave now (shape n).below s apart t ws → deficit_of c t.active ≡ deficit_of c (served shows s).active
      left (inl nothing) = ap (λ (u : Schedule). deficit_of c u.active) nothing.schedule
      left (inr gave) =
          let u : Schedule = settled_class gave.place (is_empty gave.answer.taken) (served shows s) in
          ap (λ (y : Schedule). deficit_of c y.active) gave.schedule
          ∙ (same-settled gave.place (is_empty gave.answer.taken) (served shows s)).deficit c (active-served c shows s ∙ stays.before)
          (ap (λ (y : Schedule). is_active c y.active) (sym gave.schedule) ∙ stays.after)
          (ap (quantum_of c) (class-settled gave.place (is_empty gave.answer.taken) (served shows s)))

  served-even : (t : Schedule) (w : Worked) (ws : List Worked) (h : Served now (shape n).below s apart t w ws) (i j : ℕ) → i ≢ j → Stays i s t → Stays j s t
      → grants_to i w.memory + one_if (stands_first i j t.active) ≡ grants_to j w.memory + one_if (stands_first i j s.active)
  served-even t w ws h i j differ a b =
      let p : Stands i s.active = stands i s.active a.before in
      let q : Stands j s.active = stands j s.active b.before in
      let gi : grants_to i w.memory ≡ grants_at (choice_of shows s) p.place = h.granted i ∙ grants-noted i s.active (choice_of shows s) p apart in
      let gj : grants_to j w.memory ≡ grants_at (choice_of shows s) q.place = h.granted j ∙ grants-noted j s.active (choice_of shows s) q apart in
      let even = take-even s shows law fits i j p q differ a.before b.before (active-served i shows s ∙ a.before) (active-served j shows s ∙ b.before) in
      omega (arith, gi, gj, even, ap one_if (order h.how))
    where
      order : Nothing now (shape n).below s apart t ws ⊎ Gave now (shape n).below s apart t ws → stands_first i j t.active ≡ stands_first i j (served shows s).active
      order (inl nothing) = ap (λ (u : Schedule). stands_first i j u.active) nothing.schedule
      order (inr gave) =
          ap (λ (y : Schedule). stands_first i j y.active) gave.schedule
          ∙ (same-settled gave.place (is_empty gave.answer.taken) (served shows s)).order i j (active-served i shows s ∙ a.before) (active-served j shows s ∙ b.before)
          (ap (λ (y : Schedule). is_active i y.active) (sym gave.schedule) ∙ a.after) (ap (λ (y : Schedule). is_active j y.active) (sym gave.schedule) ∙ b.after)

  -- a class against one that stays, whatever becomes of it
  served-against : (t : Schedule) (w : Worked) (ws : List Worked) (h : Served now (shape n).below s apart t w ws) (i j : ℕ) → i ≢ j → Stays i s t → (v : Worked) → child_for j s.classes ws ≡ Some v
      → bytes_sent v.memory + left_before i j (quantum_of j s.classes) t.active ≤ grants_to i w.memory * quantum_of j s.classes + left_before i j (quantum_of j s.classes) s.active
  served-against t w ws h i j differ stays v there = elim (cases_Bool (is_active j s.active)) [
    | inr asleep ↦ omega (arith, gives-none asleep h.how, settles h.how, asleep-left i j (quantum_of j s.classes) (served shows s).active (active-served j shows s ∙ asleep))
    | inl active ↦
        let p : Stands i s.active = stands i s.active stays.before in
        let q : Stands j s.active = stands j s.active active in
        let g : grants_to i w.memory ≡ grants_at (choice_of shows s) p.place = h.granted i ∙ grants-noted i s.active (choice_of shows s) p apart in
        let product : grants_to i w.memory * quantum_of j s.classes ≡ grants_at (choice_of shows s) p.place * quantum_of j s.classes = ap (λ k. k * quantum_of j s.classes) g in
        omega (arith, product, sends q h.how, settles h.how, take-against i j differ s shows law fits p q stays.before)
  ]
    where
      sends : (at : Stands j s.active) → Nothing now (shape n).below s apart t ws ⊎ Gave now (shape n).below s apart t ws → bytes_sent v.memory ≡ bytes_at (choice_of shows s) at.place (shows j)
      sends at (inl nothing) =
          service-gives now (shape n).below s apart j v (sym (ap (child_for j s.classes) nothing.children) ∙ there)
          ∙ sym (none-sends now (shape n).below s apart nothing.hidden j at)
      sends at (inr gave) =
          met-sends now (shape n).below s apart gave.place gave.answer gave.packet gave.placed gave.there gave.shows j at v (sym (ap (child_for j s.classes) gave.children) ∙ there)

      gives-none : is_active j s.active ≡ false → Nothing now (shape n).below s apart t ws ⊎ Gave now (shape n).below s apart t ws → bytes_sent v.memory ≡ 0
      gives-none asleep (inl nothing) = service-gives now (shape n).below s apart j v (sym (ap (child_for j s.classes) nothing.children) ∙ there)
      gives-none asleep (inr gave) =
          asleep-sends now (shape n).below s apart gave.place gave.answer gave.packet gave.placed gave.there gave.shows j v asleep (sym (ap (child_for j s.classes) gave.children) ∙ there)

      settles : Nothing now (shape n).below s apart t ws ⊎ Gave now (shape n).below s apart t ws
          → left_before i j (quantum_of j s.classes) t.active ≤ left_before i j (quantum_of j s.classes) (served shows s).active
      settles (inl nothing) = omega (arith, ap (λ (u : Schedule). left_before i j (quantum_of j s.classes) u.active) nothing.schedule)
      settles (inr gave) =
          let turns : SameTurns (served shows s) t = subst (SameTurns (served shows s)) (sym gave.schedule) (same-settled gave.place (is_empty gave.answer.taken) (served shows s)) in
          let before : quantum_of j (served shows s).classes ≡ quantum_of j s.classes = ap (quantum_of j) (classes-served shows s) in
          let after : quantum_of j t.classes ≡ quantum_of j (served shows s).classes =
          ap (λ (y : Schedule). quantum_of j y.classes) gave.schedule ∙ ap (quantum_of j) (class-settled gave.place (is_empty gave.answer.taken) (served shows s)) in
          subst (λ q. left_before i j q t.active ≤ left_before i j q (served shows s).active) before
          (quiet-against i j (served shows s) t turns (active-served i shows s ∙ stays.before) stays.after after)

  -- a poll wakes no class
  served-wakes : (t : Schedule) (w : Worked) (ws : List Worked) (h : Served now (shape n).below s apart t w ws) (c : ℕ) → is_active c s.active ≡ false → is_active c t.active ≡ true
      → deficit_of c t.active ≡ quantum_of c t.classes
  served-wakes t w ws h c before after = by h.how
    where
      asleep : is_active c (served shows s).active ≡ false
      asleep = active-served c shows s ∙ before

      by : Nothing now (shape n).below s apart t ws ⊎ Gave now (shape n).below s apart t ws → deficit_of c t.active ≡ quantum_of c t.classes
      by (inl nothing) = (same-all (served shows s) t (ap (λ (y : Schedule). y.active) nothing.schedule)).wakes c asleep after
      by (inr gave) =
          let turns : SameTurns (served shows s) t = subst (SameTurns (served shows s)) (sym gave.schedule) (same-settled gave.place (is_empty gave.answer.taken) (served shows s)) in
          turns.wakes c asleep after

  -- just before a grant the deficit is below the packet that the child shows
  served-short : (t : Schedule) (w : Worked) (ws : List Worked) (h : Served now (shape n).below s apart t w ws) (c k : ℕ) (kid : Node (List Note)) → child_for c s.classes (children n) ≡ Some kid
      → grants_to c w.memory ≡ suc k → IsSomeAnd (length_of (ask now (shape kid))) (λ len. deficit_of c s.active + k * quantum_of c s.classes < len)
  served-short t w ws h c k kid there some = elim (cases_Bool (is_active c s.active)) [
    | inr asleep ↦ absurd (omega (arith, h.granted c, absent-noted c s.active (choice_of shows s) asleep, some))
    | inl active ↦
        let at : Stands c s.active = stands c s.active active in
        let g : grants_at (choice_of shows s) at.place ≡ suc k = sym (h.granted c ∙ grants-noted c s.active (choice_of shows s) at apart) ∙ some in
        let took = takes_grant_where_short s shows at.place k at.entry at.there g in
        let deficit : at.entry.deficit ≡ deficit_of c s.active = sym (deficit-at s.active at.place at.entry apart at.there) ∙ ap (λ m. deficit_of m s.active) at.name in
        let head : shows at.entry.class ≡ length_of (ask now (shape kid)) =
        ap shows at.name ∙ ap (option_and_then length_of) (child-at c s.classes (each (ask_own now) (shape n).below) ∙ answer-for now n.below s.classes c kid there) in
        subst (λ (o : Option ℕ). IsSomeAnd o (λ len. deficit_of c s.active + k * quantum_of c s.classes < len)) head
        (subst (λ d. IsSomeAnd (shows at.entry.class) (λ len. d + k * quantum_of c s.classes < len)) deficit
        (subst (λ m. IsSomeAnd (shows at.entry.class) (λ len. at.entry.deficit + k * quantum_of m s.classes < len)) at.name took))
  ]

  same-classes : (t : Schedule) (w : Worked) (ws : List Worked) → AsWas now (shape n).below s apart t w ws ⊎ Served now (shape n).below s apart t w ws → t.classes ≡ s.classes
  same-classes t w ws (inl h) = ap (λ (y : Schedule). y.classes) h.same
  same-classes t w ws (inr h) = by h.how
    where
      by : Nothing now (shape n).below s apart t ws ⊎ Gave now (shape n).below s apart t ws → t.classes ≡ s.classes
      by (inl nothing) = ap (λ (y : Schedule). y.classes) nothing.schedule ∙ classes-served shows s
      by (inr gave) = ap (λ (y : Schedule). y.classes) gave.schedule ∙ class-settled gave.place (is_empty gave.answer.taken) (served shows s) ∙ classes-served shows s

  pub asked-step : (after : Node (List Note)) (t : Schedule) → after.own.discipline ≡ Drr t → IsAsked now n after → DrrStep now s t n after
  asked-step after t now_is asked =
      let w : Worked = asked.worked in
      let st = own-stage now (shape n).below s apart n.own is w asked.stage in
      let schedule : st.schedule ≡ t = sym (same-schedule st.schedule t (sym st.is ∙ ap (λ (k : Node (List Note)). k.own.discipline) asked.is ∙ now_is)) in
      subst (λ (y : Schedule). DrrStep now s y n after) schedule (by st.schedule st.children st.below_is st.how)
    where
      child-of : (ws : List Worked) (t : Schedule) → side_by_side ws ≡ asked.worked.below → t.classes ≡ s.classes → (c : ℕ) (k m : Node (List Note))
          → child_for c s.classes (children n) ≡ Some k → child_for c t.classes (children after) ≡ Some m
          → (v : Worked) × (child_for c s.classes ws ≡ Some v) × (m.memory ≡ k.memory ++ v.memory)
      child-of ws t below_is classes c k m before later =
          let b = booked-child (IsAskOf now) s.classes n.below asked.worked.below c m (asked-related mtu now (shape n) asked.worked lawful asked.stage).2
          (ap (λ cs. child_for c cs (children (booked history n asked.worked))) (sym classes) ∙ ap (λ (y : Node (List Note)). child_for c t.classes (children y)) asked.is ∙ later) in
          let same : b.child ≡ k = same_Some b.child k (sym b.there ∙ before) in (
            b.worked,
            sym (ap (child_for c s.classes) (ap nodes_in (sym below_is) ∙ nodes-side ws)) ∙ b.becomes,
            ap (λ (y : Node (List Note)). y.memory) (sym b.is) ∙ noted-history b.child.memory b.worked.memory ∙ ap (λ (y : Node (List Note)). y.memory ++ b.worked.memory) same,
          )

      memory : after.memory ≡ n.memory ++ asked.worked.memory
      memory = ap (λ (k : Node (List Note)). k.memory) (sym asked.is) ∙ noted-history n.memory asked.worked.memory

      by : (t : Schedule) (ws : List Worked) → side_by_side ws ≡ asked.worked.below
          → AsWas now (shape n).below s apart t asked.worked ws ⊎ Served now (shape n).below s apart t asked.worked ws → DrrStep now s t n after
      by t ws below_is (inl h) =
          quiet-step now s t n after asked.worked.memory memory h.granted (same-all s t (ap (λ (y : Schedule). y.active) h.same))
          (λ c k m before later.
          let g = child-of ws t below_is (ap (λ (y : Schedule). y.classes) h.same) c k m before later in
          inl (g.0.memory, g.2, looked-gives now (shape n).below s apart c g.0 (before-at s.classes (each (ask_own now) (shape n).below) c g.0 (sym (ap (child_for c s.classes) h.children) ∙ g.1))))
      by t ws below_is (inr h) = record {
        notes = asked.worked.memory;
        is = memory;
        class = λ c k m before later stays quantum queued.
            let g = child-of ws t below_is (same-classes t asked.worked ws (inr h)) c k m before later in
            record { given = g.0.memory; gives = g.2; books = served-class t asked.worked ws h c g.0 g.1 stays quantum };
        even = λ i j differ a b. served-even t asked.worked ws h i j differ a b;
        short = λ c k kid there some. served-short t asked.worked ws h c k kid there some;
        wakes = λ c before after. served-wakes t asked.worked ws h c before after;
        against = λ i j k m differ stays quantum before later.
            let g = child-of ws t below_is (same-classes t asked.worked ws (inr h)) j k m before later in
            let sent : bytes_sent m.memory ≡ bytes_sent k.memory + bytes_sent g.0.memory = ap bytes_sent g.2 ∙ sum_by-append sent_by k.memory g.0.memory in
            omega (arith, sent, served-against t asked.worked ws h i j differ stays g.0 g.1);
      }
