-- A drr that is asked: what each class is granted, and what its child gives.
use Rattle.std.proofs.Common.{◌≡◌, ◌≢◌, ℕ, zero, suc, false, eqb, ◌⊎◌, inl, inr, List, [], ◌∷◌, set, get_or, refl, sym, ap, ◌∙◌, Option, Some, None, option_map, option_and_then, eq-eqb}
use Rattle.std.specs.Prelude.{◌==◌, slice_get, unwrap_or}
use Rattle.std.proofs.lemmas.Bool.{cases_Bool, cond-true, cond-false, eqb-true, eqb-false, ne_eqb, false≢true}
use Rattle.std.proofs.lemmas.List.Quantifiers.{position-Some}
use Rattle.std.proofs.lemmas.Option.{none-some, same_Some}
use Rattle.q_packet.specs.Choice.{Choice}
use Rattle.q_packet.specs.Descriptor.{Descriptor}
use Rattle.q_drr.specs.Schedule.{Class, Entry, Schedule, is_active}
use Rattle.q_drr.specs.Take.{choice_of}
use Rattle.q_drr.specs.Turns.{bytes_at}
use Rattle.q_drr.specs.declared.take.Met.{Met}
use Rattle.q_drr.proofs.ServedLemmas.{chosen_is_met}
use Rattle.q_drr.proofs.DifferLemmas.{EntriesDiffer}
use Rattle.q_model.specs.Node.{Forest, each}
use Rattle.q_model.specs.Grants.{asked_entries}
use Rattle.q_model.specs.Route.{class_at}
use Rattle.q_model.specs.Work.{Worked}
use Rattle.q_model.specs.Ask.{Asked, length_of, head_of, is_among, service_of, place_met, ask_own}
use Rattle.q_model.specs.Stretches.{bytes_sent, length_held}
use Rattle.q_invariants.proofs.class.ClassChildren.{place_in, child_for, child-at, child-set, IsSet}
use Rattle.q_invariants.proofs.class.ClassLooks.{LookedAt, looked-at, gives-for}
use Rattle.q_invariants.proofs.class.TakeTurns.{Stands}
use Rattle.q_invariants.proofs.tree.Members.{passes-at}

-- a class stands at one place
same-place : (es : List Entry) (i j : ℕ) (a b : Entry) → EntriesDiffer es → slice_get es i ≡ Some a → slice_get es j ≡ Some b → a.class ≡ b.class → i ≡ j
same-place [] i j a b d at_i at_j e = absurd (none-some a at_i)
same-place (x ∷ es) zero zero a b d at_i at_j e = refl
same-place (x ∷ es) zero (suc j) a b d at_i at_j e =
    let name : x.class ≡ b.class = ap (λ (y : Entry). y.class) (same_Some x a at_i) ∙ e in
    absurd (false≢true (sym d.0 ∙ passes-at (λ (y : Entry). x.class == y.class) es j b at_j (eq-eqb x.class b.class name)))
same-place (x ∷ es) (suc i) zero a b d at_i at_j e =
    let name : x.class ≡ a.class = ap (λ (y : Entry). y.class) (same_Some x b at_j) ∙ sym e in
    absurd (false≢true (sym d.0 ∙ passes-at (λ (y : Entry). x.class == y.class) es i a at_i (eq-eqb x.class a.class name)))
same-place (x ∷ es) (suc i) (suc j) a b d at_i at_j e = ap suc (same-place es i j a b d.1 at_i at_j e)

-- two classes at one place are one
same-class : (classes : List Class) (c n i : ℕ) → place_in c classes ≡ Some i → place_in n classes ≡ Some i → c ≡ n
same-class classes c n i at_c at_n =
    let d : Class = record { name = 0; quantum = 0 } in
    let a = position-Some (λ (k : Class). c == k.name) classes i d at_c in
    let b = position-Some (λ (k : Class). n == k.name) classes i d at_n in
    eqb-true c (get_or classes i d).name a.1 ∙ sym (eqb-true n (get_or classes i d).name b.1)

module _ (now : ℕ) (x : Forest (Unit {0})) (s : Schedule) (differ : EntriesDiffer s.active) where
  abbrev pub below : List Asked
  below = each (ask_own now) x

  abbrev pub heads : ℕ → Option ℕ
  heads = head_of s below

  -- the class at the chosen place is the one that is met
  met-at : (ch : Choice) (e : Entry) → choice_of heads s ≡ Some ch → slice_get s.active ch.place ≡ Some e → place_met s below ≡ class_at e.class s
  met-at ch e chosen at =
      ap (option_and_then (λ (m : Met). class_at m.class s))
      (chosen_is_met s heads
      ∙ ap (λ (o : Option Choice). option_map (λ (e : Entry). record { class = e.class; head = heads e.class }) (option_and_then (λ (c : Choice). slice_get s.active c.place) o)) chosen
      ∙ ap (option_map (λ (e : Entry). record { class = e.class; head = heads e.class })) at)

  bytes-chosen : (c : ℕ) (ch : Choice) (place : ℕ) (head : Option ℕ) → place ≡ ch.place → bytes_at (Some ch) place head ≡ unwrap_or head 0
  bytes-chosen c ch place head e = cond-true (place == ch.place) (unwrap_or head 0) 0 (eq-eqb place ch.place e)

  bytes-other : (c : ℕ) (ch : Choice) (place : ℕ) (head : Option ℕ) → (place == ch.place) ≡ false → bytes_at (Some ch) place head ≡ 0
  bytes-other c ch place head e = cond-false (place == ch.place) (unwrap_or head 0) 0 e

  -- where the class that is met shows nothing, none sends
  module _ (hidden : option_and_then length_of (option_and_then (slice_get below) (place_met s below)) ≡ None) where
    pub none-sends : (c : ℕ) (at : Stands c s.active) → bytes_at (choice_of heads s) at.place (heads c) ≡ 0
    none-sends c at = by (choice_of heads s) refl
      where
        by : (o : Option Choice) → choice_of heads s ≡ o → bytes_at o at.place (heads c) ≡ 0
        by None e = refl
        by (Some ch) e = elim (cases_Bool (at.place == ch.place)) [
          | inr other ↦ bytes-other c ch at.place (heads c) other
          | inl same ↦
              let here : at.place ≡ ch.place = eqb-true at.place ch.place same in
              let place : place_met s below ≡ class_at at.entry.class s = met-at ch at.entry e (ap (slice_get s.active) (sym here) ∙ at.there) in
              let head : heads c ≡ None =
              ap (λ (o : Option ℕ). option_and_then length_of (option_and_then (slice_get below) o)) (ap (λ n. class_at n s) (sym at.name) ∙ sym place) ∙ hidden in
              bytes-chosen c ch at.place (heads c) here ∙ ap (λ (h : Option ℕ). unwrap_or h 0) head
        ]

  -- a child that was peeked at most gives nothing
  pub looked-gives : (c : ℕ) (v : Worked) → LookedAt s.classes below c v → bytes_sent v.memory ≡ 0
  looked-gives c v at = by at.which
    where
      by : (v ≡ at.answer.peeked) ⊎ (v ≡ at.answer.before) → bytes_sent v.memory ≡ 0
      by (inl e) = ap (λ (w : Worked). bytes_sent w.memory) e ∙ (gives-for now x s.classes c at.answer at.there).peeked
      by (inr e) = ap (λ (w : Worked). bytes_sent w.memory) e ∙ (gives-for now x s.classes c at.answer at.there).before

  pub service-gives : (c : ℕ) (v : Worked) → child_for c s.classes (service_of s below).below ≡ Some v → bytes_sent v.memory ≡ 0
  service-gives c v e = looked-gives c v (looked-at (is_among (asked_entries (choice_of heads s) s.active)) s.classes below c v e)

  -- where it shows a packet, its child gives that
  module _ (i : ℕ) (a : Asked) (p : Descriptor) (placed : place_met s below ≡ Some i) (answer : slice_get below i ≡ Some a) (shown : a.shown ≡ Some p) where
    no-choice : choice_of heads s ≡ None → place_met s below ≡ None
    no-choice e =
        ap (option_and_then (λ (m : Met). class_at m.class s))
        (chosen_is_met s heads ∙ ap (λ (o : Option Choice). option_map (λ (e : Entry). record { class = e.class; head = heads e.class })
        (option_and_then (λ (c : Choice). slice_get s.active c.place) o)) e)

    no-entry : (ch : Choice) → choice_of heads s ≡ Some ch → slice_get s.active ch.place ≡ None → place_met s below ≡ None
    no-entry ch e at =
        ap (option_and_then (λ (m : Met). class_at m.class s))
        (chosen_is_met s heads
        ∙ ap (λ (o : Option Choice). option_map (λ (e : Entry). record { class = e.class; head = heads e.class }) (option_and_then (λ (c : Choice). slice_get s.active c.place) o)) e
        ∙ ap (option_map (λ (e : Entry). record { class = e.class; head = heads e.class })) at)

    pub met-sends : (c : ℕ) (at : Stands c s.active) (v : Worked) → child_for c s.classes (set (service_of s below).below i a.taken) ≡ Some v
        → bytes_sent v.memory ≡ bytes_at (choice_of heads s) at.place (heads c)
    met-sends c at v e = by (choice_of heads s) refl
      where
        set_is : IsSet c s.classes (service_of s below).below i a.taken v
        set_is = child-set c s.classes (service_of s below).below i a.taken v e

        own : (ch : Choice) (m : Entry) → slice_get s.active ch.place ≡ Some m → class_at m.class s ≡ Some i → c ≡ m.class
            → ((place_in c s.classes ≡ Some i) × (v ≡ a.taken)) ⊎ ((child_for c s.classes (service_of s below).below ≡ Some v) × (place_in c s.classes ≡ Some i → ⊥))
            → bytes_sent v.memory ≡ bytes_at (Some ch) at.place (heads c)
        own ch m there class is (inr left) = absurd (left.1 (ap (λ n. place_in n s.classes) is ∙ class))
        own ch m there class is (inl taken) =
            let place : at.place ≡ ch.place = same-place s.active at.place ch.place at.entry m differ at.there there (at.name ∙ is) in
            let found : option_and_then (slice_get below) (place_in c s.classes) ≡ Some a = ap (option_and_then (slice_get below)) taken.0 ∙ answer in
            let gives = (gives-for now x s.classes c a (sym (child-at c s.classes below) ∙ found)).taken in
            let head : heads c ≡ Some p.len = ap (option_and_then length_of) found ∙ ap (option_map (λ (q : Descriptor). q.len)) shown in
            ap (λ (w : Worked). bytes_sent w.memory) taken.1 ∙ gives ∙ ap length_held shown
            ∙ sym (bytes-chosen c ch at.place (heads c) place ∙ ap (λ (h : Option ℕ). unwrap_or h 0) head)

        other : (ch : Choice) (m : Entry) → slice_get s.active ch.place ≡ Some m → class_at m.class s ≡ Some i → c ≢ m.class
            → ((place_in c s.classes ≡ Some i) × (v ≡ a.taken)) ⊎ ((child_for c s.classes (service_of s below).below ≡ Some v) × (place_in c s.classes ≡ Some i → ⊥))
            → bytes_sent v.memory ≡ bytes_at (Some ch) at.place (heads c)
        other ch m there class apart (inl taken) = absurd (apart (same-class s.classes c m.class i taken.0 class))
        other ch m there class apart (inr left) =
            let far : (at.place == ch.place) ≡ false =
            ne_eqb at.place ch.place (λ e. apart (sym at.name ∙ ap (λ (y : Entry). y.class)
            (same_Some at.entry m (sym at.there ∙ ap (slice_get s.active) e ∙ there)))) in
            service-gives c v left.0 ∙ sym (bytes-other c ch at.place (heads c) far)

        entry : (ch : Choice) (o : Option Entry) → choice_of heads s ≡ Some ch → slice_get s.active ch.place ≡ o → bytes_sent v.memory ≡ bytes_at (Some ch) at.place (heads c)
        entry ch None e there = absurd (none-some i (sym (no-entry ch e there) ∙ placed))
        entry ch (Some m) e there =
            let class : class_at m.class s ≡ Some i = sym (met-at ch m e there) ∙ placed in
            elim (cases_Bool (eqb c m.class)) [
              | inl same ↦ own ch m there class (eqb-true c m.class same) set_is.which
              | inr apart ↦ other ch m there class (eqb-false c m.class apart) set_is.which
            ]

        by : (o : Option Choice) → choice_of heads s ≡ o → bytes_sent v.memory ≡ bytes_at o at.place (heads c)
        by None e = absurd (none-some i (sym (no-choice e) ∙ placed))
        by (Some ch) e = entry ch (slice_get s.active ch.place) e refl

    -- the child of a class that is asleep gives nothing
    pub asleep-sends : (c : ℕ) (v : Worked) → is_active c s.active ≡ false → child_for c s.classes (set (service_of s below).below i a.taken) ≡ Some v → bytes_sent v.memory ≡ 0
    asleep-sends c v asleep e = by (choice_of heads s) refl (child-set c s.classes (service_of s below).below i a.taken v e).which
      where
        entry : (ch : Choice) (o : Option Entry) → choice_of heads s ≡ Some ch → slice_get s.active ch.place ≡ o → place_in c s.classes ≡ Some i → ⊥
        entry ch None e there at = none-some i (sym (no-entry ch e there) ∙ placed)
        entry ch (Some m) e there at =
            let name : c ≡ m.class = same-class s.classes c m.class i at (sym (met-at ch m e there) ∙ placed) in
            false≢true (sym asleep ∙ passes-at (λ (y : Entry). c == y.class) s.active ch.place m there (eq-eqb c m.class name))

        by : (o : Option Choice) → choice_of heads s ≡ o
            → ((place_in c s.classes ≡ Some i) × (v ≡ a.taken)) ⊎ ((child_for c s.classes (service_of s below).below ≡ Some v) × (place_in c s.classes ≡ Some i → ⊥))
            → bytes_sent v.memory ≡ 0
        by o e (inr left) = service-gives c v left.0
        by None e (inl taken) = absurd (none-some i (sym (no-choice e) ∙ placed))
        by (Some ch) e (inl taken) = absurd (entry ch (slice_get s.active ch.place) e refl taken.0)
