-- What the fields of an active list show and keep, after each change of its table and of its circle of places.
use Rattle.std.proofs.Common.{◌≡◌, ℕ, zero, suc, ◌+◌, ◌-◌, ◌*◌, ◌<◌, ◌≤◌, ◌^◌, min, true, false, not, List, [], ◌∷◌, ◌++◌, map, length, set, Some, None, refl, sym, ap, ◌∙◌, subst, arith, take, drop}
use Rattle.std.specs.Prelude.{if◌then◌else◌, ◌==◌, slice_get, slice_index_or, nat_le, Option, option_map, option_and_then}
use Rattle.std.specs.List.{All, remove}
use Rattle.std.proofs.lemmas.List.{length-map, length_push}
use Rattle.std.proofs.lemmas.List.Edits.{length-remove}
use Rattle.std.proofs.lemmas.List.Elements.{All-append, All-drop, All-filter, All-head, All-push, All-take, All-weaker}
use Rattle.std.proofs.lemmas.Option.{slice_get-map, slice_get-get_or}
use Rattle.q_drr.specs.declared.class_table.ClassState.{ClassState}
use Rattle.q_drr.specs.declared.active.Turn.TheVariants.{Send, Granted}
use Rattle.q_drr.specs.Links.{Circle, is_among, without, moved_down}
use Rattle.q_drr.specs.States.{NamedState, no_state, named, kept_of, name_in, names_in, has_state, place_of_state, state_of, with_state, without_state, class_in}
use Rattle.q_drr.specs.Schedule.{Class, Schedule, place_of, name_at, front_of, woken, asleep, removed, added, with_quantum, turned, turn_answer, counted, IsLawful}
use Rattle.q_drr.specs.Kept.{shown, IsState, IsKept, IsSound}
use Rattle.q_drr.proofs.DifferLemmas.{StatesDiffer, numbers_apart, states_apart}
use Rattle.q_drr.proofs.PlaceLemmas.{among_places, without_places, names_rotated, names_pushed, names_with, names_added, names_down, all_down}
use Rattle.q_drr.proofs.ScheduleLemmas.{place_in, front_in, name_of_state, state_kept, kept_put, kept_push, kept_asleep, kept_rotated, kept_removed, kept_added, woken_shown, asleep_shown, removed_shown, added_shown, requantized_shown, lawful_view, not_among_without}
use Rattle.q_drr.proofs.StateLemmas.{Stands, stands_in, stands_by, set_replaces, remove_drops, place_found, place_to_spare, few_states}
use Rattle.q_drr.specs.Rounds.{front_given, front_need, IsWithin}
use Rattle.q_drr.specs.Take.{grants_for}
use Rattle.q_drr.proofs.TurnLemmas.{front_deficit, sent_front, granted_front, passed_front, front_can, front_needs}

-- the class of a place, by the name that is shown there
name_found : (states : List NamedState) (place n : ℕ) → name_at place (map class_in states) ≡ Some n → (place < length states) × (name_in states place ≡ n)
name_found [] place n e = cc
name_found (c ∷ states) zero n e = (omega arith, cc)
name_found (c ∷ states) (suc place) n e = let rest = name_found states place n e in (omega (arith, rest.0), rest.1)

front_within : (order : List ℕ) (place bound : ℕ) → slice_get order 0 ≡ Some place → All (λ p. p < bound) order → place < bound
front_within [] place bound front all = cc
front_within (p ∷ order) place bound front all = let e : p ≡ place = cc in subst (λ k. k < bound) e (All-head (λ p. p < bound) p order all)

module _ (max_len turns : ℕ) (states : List NamedState) (circle : Circle) (h : IsSound max_len turns states circle) where
  pub differ : StatesDiffer states
  differ = states_apart states h.kept.states_differ

  -- the class of a place, and the place of a class
  pub stands_at : (place : ℕ) → place < length states → Stands place (name_in states place) states
  stands_at place lt = stands_in states place differ lt

  pub stands_found : (n place : ℕ) → place_of_state n states ≡ Some place → Stands place n states
  stands_found n place found = stands_by states n place differ found

  pub stands_named : (s : Schedule) (n place : ℕ) → shown max_len turns states (names_in states circle.order) ≡ s → name_at place s.classes ≡ Some n → Stands place n states
  stands_named s n place view so =
      let found = name_found states place n (ap (λ v. name_at place v.classes) view ∙ so) in
      subst (λ m. Stands place m states) found.1 (stands_at place found.0)

  pub stands_front : (place : ℕ) → slice_get circle.order 0 ≡ Some place → Stands place (name_in states place) states
  stands_front place front = stands_at place (front_within circle.order place (length states) front h.placed)

  pub few : length states ≤ 2 ^ 16
  few = few_states states (2 ^ 16) differ (All-weaker (IsState max_len) (λ c. c.name < 2 ^ 16) (λ c i. i.small_name) states h.kept.each)

  pub spare : (n : ℕ) → n < 2 ^ 16 → has_state n states ≡ false → length states < 2 ^ 16
  spare n small absent = place_to_spare states n (2 ^ 16) differ (All-weaker (IsState max_len) (λ c. c.name < 2 ^ 16) (λ c i. i.small_name) states h.kept.each) absent small

  pub lawful : (s : Schedule) → shown max_len turns states (names_in states circle.order) ≡ s → IsLawful s
  lawful s view = lawful_view max_len turns states (names_in states circle.order) s view h.counted_turns h.kept

  -- whether a place is in the circle
  pub among : (place n : ℕ) → Stands place n states → is_among n (names_in states circle.order) ≡ is_among place circle.order
  among place n s = ap (λ m. is_among m (names_in states circle.order)) (sym s.name) ∙ among_places states place circle.order differ s.within h.placed

  others : (place n : ℕ) → Stands place n states → names_in states (without place circle.order) ≡ without n (names_in states circle.order)
  others place n s = without_places states place circle.order differ s.within h.placed ∙ ap (λ m. without m (names_in states circle.order)) s.name

  pub fits : (n : ℕ) → has_state n states ≡ true → IsState max_len (state_of n states)
  fits n there = state_kept max_len states (names_in states circle.order) n h.kept there

  pub small : (place n : ℕ) → Stands place n states → n < 2 ^ 16
  small place n s = subst (λ m. m < 2 ^ 16) (name_of_state n states s.there) (fits n s.there).small_name

  -- the name of a class that stands at a place is shown there
  pub name_shown : (s : Schedule) (place n : ℕ) → shown max_len turns states (names_in states circle.order) ≡ s → Stands place n states → name_at place s.classes ≡ Some n
  name_shown s place n view stands =
      ap (λ v. name_at place v.classes) (sym view)
      ∙ ap (option_map (λ (c : Class). c.name)) (slice_get-map class_in states place ∙ ap (option_map class_in) (slice_get-get_or states place no_state stands.within)) ∙ ap Some stands.name

  -- a circle with more room
  pub sound_roomier : (more : Circle) → more.order ≡ circle.order → circle.room ≤ more.room → IsSound max_len turns states more
  sound_roomier more e le = record {
    kept = subst (λ order. IsKept max_len states (names_in states order)) (sym e) h.kept;
    placed = subst (All (λ place. place < length states)) (sym e) h.placed;
    room = omega (arith, h.room, le);
    counted_turns = h.counted_turns;
  }

  -- a class put into the circle, taken out, and sent to the end
  pub sound_pushed : (place n : ℕ) → Stands place n states → is_among place circle.order ≡ false → IsSound max_len turns states (record circle { order = circle.order ++ place ∷ [] })
  sound_pushed place n s absent = record {
    kept = subst (IsKept max_len states) (sym (names_pushed states circle.order place n s.name)) (kept_push max_len states (names_in states circle.order) n s.there (among place n s ∙ absent) h.kept);
    placed = All-push (λ p. p < length states) circle.order place h.placed s.within;
    room = h.room;
    counted_turns = h.counted_turns;
  }

  pub sound_asleep : (place n : ℕ) → Stands place n states → IsSound max_len turns states (record circle { order = without place circle.order })
  sound_asleep place n s = record {
    kept = subst (IsKept max_len states) (sym (others place n s)) (kept_asleep max_len states (names_in states circle.order) n h.kept);
    placed = All-filter (λ m. not (place == m)) (λ p. p < length states) circle.order h.placed;
    room = h.room;
    counted_turns = h.counted_turns;
  }

  pub shown_asleep : (place n : ℕ) → Stands place n states
      → shown max_len turns states (names_in states (without place circle.order)) ≡ asleep n (shown max_len turns states (names_in states circle.order))
  shown_asleep place n s = ap (shown max_len turns states) (others place n s) ∙ asleep_shown max_len turns states (names_in states circle.order) n

  pub sound_rotated : IsSound max_len turns states (record circle { order = drop 1 circle.order ++ take 1 circle.order })
  sound_rotated = record {
    kept = subst (IsKept max_len states) (sym (names_rotated states circle.order)) (kept_rotated max_len states (names_in states circle.order) h.kept);
    placed =
        All-append (λ p. p < length states) (drop 1 circle.order) (take 1 circle.order) (All-drop (λ p. p < length states) 1 circle.order h.placed)
        (All-take (λ p. p < length states) 1 circle.order h.placed);
    room = h.room;
    counted_turns = h.counted_turns;
  }

  -- what is kept of a class, read and written
  pub state_at : (place n : ℕ) (k : ClassState) → Stands place n states → k ≡ kept_of (slice_index_or states place no_state) → k ≡ kept_of (state_of n states)
  state_at place n k s e = e ∙ ap kept_of (sym s.is)

  put_is : (place n : ℕ) (k : ClassState) → Stands place n states → set states place (named (name_in states place) k) ≡ with_state (named n k) states
  put_is place n k s = ap (λ m. set states place (named m k)) s.name ∙ set_replaces states place (named n k) s.within s.name s.only

  pub shown_put : (place n later : ℕ) (k : ClassState) (order : List ℕ) → Stands place n states
      → shown max_len later (set states place (named (name_in states place) k)) (names_in (set states place (named (name_in states place) k)) order)
      ≡ shown max_len later (with_state (named n k) states) (names_in states order)
  shown_put place n later k order s =
      ap (λ t. shown max_len later t (names_in t order)) (put_is place n k s) ∙ ap (shown max_len later (with_state (named n k) states)) (names_with (named n k) states order)

  pub sound_put : (place n later : ℕ) (k : ClassState) → Stands place n states → IsState max_len (named n k) → later < 2 ^ 64
      → IsSound max_len later (set states place (named (name_in states place) k)) circle
  sound_put place n later k s p counted_later =
      let new : NamedState = named n k in
      let len : length (with_state new states) ≡ length states = length-map states (λ (c : NamedState). if new.name == c.name then new else c) in
      subst (λ t. IsSound max_len later t circle) (sym (put_is place n k s)) (record {
        kept = subst (IsKept max_len (with_state new states)) (sym (names_with new states circle.order)) (kept_put max_len states (names_in states circle.order) new p h.kept);
        placed = subst (λ l. All (λ place. place < l) circle.order) (sym len) h.placed;
        room = omega (arith, h.room, len);
        counted_turns = counted_later;
      })

  -- `wake`
  pub shown_woken : (place n : ℕ) (k : ClassState) → Stands place n states → is_among place circle.order ≡ false
      → k.quantum ≡ (state_of n states).quantum → k.deficit ≡ (state_of n states).quantum → k.granted ≡ 0
      → shown max_len turns (set states place (named (name_in states place) k)) (names_in (set states place (named (name_in states place) k)) (circle.order ++ place ∷ []))
      ≡ woken n (shown max_len turns states (names_in states circle.order))
  shown_woken place n k s absent quantum deficit granted =
      shown_put place n turns k (circle.order ++ place ∷ []) s
      ∙ ap (shown max_len turns (with_state (named n k) states)) (names_pushed states circle.order place n s.name)
      ∙ woken_shown max_len turns states (names_in states circle.order) n (named n k) differ s.there (among place n s ∙ absent) refl quantum deficit granted

  -- `turn`
  front_named : (place : ℕ) → slice_get circle.order 0 ≡ Some place → slice_get (names_in states circle.order) 0 ≡ Some (name_in states place)
  front_named place front = slice_get-map (name_in states) circle.order 0 ∙ ap (option_map (name_in states)) front

  pub answer_of : (place len : ℕ) → slice_get circle.order 0 ≡ Some place
      → turn_answer len (shown max_len turns states (names_in states circle.order)).active ≡ (if nat_le len (state_of (name_in states place) states).deficit then Send else Granted)
  answer_of place len front = front_deficit max_len turns states (names_in states circle.order) (name_in states place) len (front_named place front)

  pub shown_sent : (place len : ℕ) (k : ClassState) → slice_get circle.order 0 ≡ Some place → let n = name_in states place in
      len ≤ (state_of n states).deficit → k.quantum ≡ (state_of n states).quantum → k.deficit ≡ (state_of n states).deficit - len → k.granted ≡ (state_of n states).granted
      → shown max_len (counted (turns + 1)) (set states place (named (name_in states place) k)) (names_in (set states place (named (name_in states place) k)) circle.order)
      ≡ turned len (shown max_len turns states (names_in states circle.order))
  shown_sent place len k front covers quantum deficit granted =
      let s = stands_front place front in
      let n : ℕ = name_in states place in
      shown_put place n (counted (turns + 1)) k circle.order s
      ∙ sent_front max_len turns len states (names_in states circle.order) n (named n k) (front_named place front)
      (numbers_apart (names_in states circle.order) h.kept.order_differs) differ s.there covers refl quantum deficit granted

  pub shown_granted : (place len : ℕ) (k : ClassState) → slice_get circle.order 0 ≡ Some place → let n = name_in states place in
      (state_of n states).deficit < len → k.quantum ≡ (state_of n states).quantum → k.deficit ≡ (state_of n states).deficit + (state_of n states).quantum
      → k.granted ≡ counted ((state_of n states).granted + (state_of n states).quantum)
      → shown max_len (counted (turns + 1)) (set states place (named (name_in states place) k))
      (names_in (set states place (named (name_in states place) k)) (drop 1 circle.order ++ take 1 circle.order))
      ≡ turned len (shown max_len turns states (names_in states circle.order))
  shown_granted place len k front short quantum deficit granted =
      let s = stands_front place front in
      let n : ℕ = name_in states place in
      shown_put place n (counted (turns + 1)) k (drop 1 circle.order ++ take 1 circle.order) s
      ∙ ap (shown max_len (counted (turns + 1)) (with_state (named n k) states)) (names_rotated states circle.order)
      ∙ granted_front max_len turns len states (names_in states circle.order) n (named n k) (front_named place front)
      (numbers_apart (names_in states circle.order) h.kept.order_differs) differ s.there short refl quantum deficit granted

  -- `grants_needed`
  pub needs_front : (place len : ℕ) → slice_get circle.order 0 ≡ Some place → let n = name_in states place in
      front_need len (shown max_len turns states (names_in states circle.order)) ≡ grants_for (state_of n states).quantum (state_of n states).deficit (Some len)
  needs_front place len front = front_needs max_len turns states (names_in states circle.order) (name_in states place) len (front_named place front)

  -- `grant_front`
  pub within_front : (place k : ℕ) → slice_get circle.order 0 ≡ Some place → let n = name_in states place in
      All (IsWithin k max_len (map class_in states)) (take 1 (shown max_len turns states (names_in states circle.order)).active)
      → (state_of n states).deficit + k * (state_of n states).quantum < (state_of n states).quantum + max_len
  within_front place k front within = front_can max_len turns k states (names_in states circle.order) (name_in states place) (front_named place front) within

  pub shown_passed : (place grants : ℕ) (k : ClassState) → slice_get circle.order 0 ≡ Some place → let n = name_in states place in
      k.quantum ≡ (state_of n states).quantum → k.deficit ≡ (state_of n states).deficit + grants * (state_of n states).quantum
      → k.granted ≡ counted ((state_of n states).granted + grants * (state_of n states).quantum)
      → shown max_len (counted (turns + grants)) (set states place (named (name_in states place) k))
      (names_in (set states place (named (name_in states place) k)) (drop 1 circle.order ++ take 1 circle.order))
      ≡ front_given grants (shown max_len turns states (names_in states circle.order))
  shown_passed place grants k front quantum deficit granted =
      let s = stands_front place front in
      let n : ℕ = name_in states place in
      shown_put place n (counted (turns + grants)) k (drop 1 circle.order ++ take 1 circle.order) s
      ∙ ap (shown max_len (counted (turns + grants)) (with_state (named n k) states)) (names_rotated states circle.order)
      ∙ passed_front max_len turns grants states (names_in states circle.order) n (named n k) (front_named place front)
      (numbers_apart (names_in states circle.order) h.kept.order_differs) differ s.there refl quantum deficit granted

  -- `front`, and the place of the class that it names
  pub front_shown : (s : Schedule) → shown max_len turns states (names_in states circle.order) ≡ s → option_map (name_in states) (slice_get circle.order 0) ≡ front_of s
  front_shown s view = sym (slice_get-map (name_in states) circle.order 0) ∙ sym (front_in states (names_in states circle.order)) ∙ ap front_of view

  pub front_name : (s : Schedule) (place : ℕ) → shown max_len turns states (names_in states circle.order) ≡ s → slice_get circle.order 0 ≡ Some place
      → option_map (λ (c : NamedState). c.name) (slice_get states place) ≡ front_of s
  front_name s place view front =
      ap (option_map (λ (c : NamedState). c.name)) (slice_get-get_or states place no_state (stands_front place front).within)
      ∙ sym (ap (option_map (name_in states)) front) ∙ front_shown s view

  pub front_placed : (s : Schedule) (r : Option ℕ) → shown max_len turns states (names_in states circle.order) ≡ s → r ≡ slice_get circle.order 0
      → r ≡ option_and_then (λ n. place_of n s.classes) (front_of s)
  front_placed s r view is = of_front r (sym is) ∙ ap (option_and_then (λ n. place_of n s.classes)) (ap (option_map (name_in states)) is ∙ front_shown s view)
    where
      of_front : (r : Option ℕ) → slice_get circle.order 0 ≡ r → r ≡ option_and_then (λ n. place_of n s.classes) (option_map (name_in states) r)
      of_front None front = refl
      of_front (Some place) front =
          sym (ap (λ v. place_of (name_in states place) v.classes) (sym view) ∙ place_in (name_in states place) states ∙ place_found states (name_in states place) place (stands_front place front))

  -- `set_quantum`
  pub shown_requantized : (place n q : ℕ) (k : ClassState) → Stands place n states → k.quantum ≡ q
      → k.deficit ≡ min (state_of n states).deficit (q + max_len - 1) → k.granted ≡ (state_of n states).granted
      → shown max_len turns (set states place (named (name_in states place) k)) (names_in (set states place (named (name_in states place) k)) circle.order)
      ≡ with_quantum n q (shown max_len turns states (names_in states circle.order))
  shown_requantized place n q k s quantum deficit granted =
      shown_put place n turns k circle.order s ∙ requantized_shown max_len turns q states (names_in states circle.order) n (named n k) s.there refl quantum deficit granted

  -- `remove`
  remove_is : (place n : ℕ) → Stands place n states → remove states place ≡ without_state n states
  remove_is place n s = remove_drops states place n s.within s.name s.only

  left : (place n : ℕ) → Stands place n states → names_in (remove states place) (map (moved_down place) (without place circle.order)) ≡ without n (names_in states circle.order)
  left place n s = names_down states place (without place circle.order) s.within (not_among_without place circle.order) ∙ others place n s

  pub sound_removed : (place n : ℕ) → Stands place n states
      → IsSound max_len turns (remove states place) (record { order = map (moved_down place) (without place circle.order); room = circle.room - 1 })
  sound_removed place n s =
      let len : length (remove states place) ≡ length states - 1 = omega (arith, length-remove states place s.within) in
      record {
        kept =
            subst (IsKept max_len (remove states place)) (sym (left place n s))
            (subst (λ t. IsKept max_len t (without n (names_in states circle.order))) (sym (remove_is place n s))
            (kept_removed max_len states (names_in states circle.order) n h.kept));
        placed = subst (λ l. All (λ p. p < l) (map (moved_down place) (without place circle.order))) (sym len)
            (all_down place (length states) (without place circle.order) s.within (not_among_without place circle.order)
            (All-filter (λ m. not (place == m)) (λ p. p < length states) circle.order h.placed));
        room = omega (arith, len, h.room);
        counted_turns = h.counted_turns;
      }

  pub shown_removed : (place n : ℕ) → Stands place n states
      → shown max_len turns (remove states place) (names_in (remove states place) (map (moved_down place) (without place circle.order)))
      ≡ removed n (shown max_len turns states (names_in states circle.order))
  shown_removed place n s =
      ap (shown max_len turns (remove states place)) (left place n s) ∙ ap (λ t. shown max_len turns t (without n (names_in states circle.order))) (remove_is place n s)
      ∙ removed_shown max_len turns states (names_in states circle.order) n

  -- `add`
  pub sound_added : (n : ℕ) (k : ClassState) → has_state n states ≡ false → IsState max_len (named n k) → length states < circle.room → IsSound max_len turns (states ++ named n k ∷ []) circle
  sound_added n k absent p more = record {
    kept =
        subst (IsKept max_len (states ++ named n k ∷ [])) (sym (names_added states (named n k) circle.order h.placed))
        (kept_added max_len states (names_in states circle.order) (named n k) absent p h.kept);
    placed = All-weaker (λ p. p < length states) (λ p. p < length (states ++ named n k ∷ [])) (λ p lt. omega (arith, lt, length_push states (named n k))) circle.order h.placed;
    room = omega (arith, more, length_push states (named n k));
    counted_turns = h.counted_turns;
  }

  pub shown_added : (n : ℕ) (k : ClassState)
      → shown max_len turns (states ++ named n k ∷ []) (names_in (states ++ named n k ∷ []) circle.order) ≡ added n k.quantum (shown max_len turns states (names_in states circle.order))
  shown_added n k =
      ap (shown max_len turns (states ++ named n k ∷ [])) (names_added states (named n k) circle.order h.placed)
      ∙ added_shown max_len turns states (names_in states circle.order) (named n k) h.kept.known
