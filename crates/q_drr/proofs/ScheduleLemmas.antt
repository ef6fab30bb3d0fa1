-- What an active list shows, after each change of its table and of the names of its active classes.
use Rattle.std.proofs.Common.{◌≡◌, ℕ, ◌+◌, ◌-◌, ◌<◌, ◌≤◌, ◌^◌, min, Bool, true, false, eqb, ◌||◌, not, cond, List, [], ◌∷◌, ◌++◌, map, length, Some, None, refl, sym, ap, ◌∙◌, subst, inl, inr, arith, eq-eqb, take, drop}
use Rattle.std.specs.Prelude.{if◌then◌else◌, slice_get, ◌==◌, nat_lt, Option, unwrap_or}
use Rattle.std.specs.List.{All, filter, position_or_len}
use Rattle.std.proofs.lemmas.List.Elements.{All-nil, All-cons, All-head, All-tail, All-push, All-append, All-drop, All-take, All-filter, All-map, All-weaker}
use Rattle.std.proofs.lemmas.Bool.{eqb-true, false≢true, or_parts, or_from, cases_Bool}
use Rattle.std.proofs.lemmas.List.{map-append, length-map}
use Rattle.q_drr.specs.Links.{is_among, without}
use Rattle.q_drr.specs.States.{NamedState, no_state, has_state, place_of_state, state_of, with_state, without_state, class_in, entry_in}
use Rattle.q_drr.specs.Schedule.{Class, Entry, Schedule, woken, asleep, removed, added, with_quantum, has_class, place_of, quantum_of, is_active, deficit_of, granted_of, cut, IsEntry, IsLawful}
use Rattle.q_drr.specs.Kept.{shown, IsState, IsKept}
use Rattle.q_drr.proofs.DifferLemmas.{AllDiffer, StatesDiffer, ClassesDiffer, EntriesDiffer, pairs_from_differ, numbers_apart, states_apart, numbers_differ_from, states_differ_from}
use Rattle.q_drr.proofs.KeyLemmas.{has_push, find_push, has_others, find_others}
use Rattle.q_drr.proofs.KeyLemmas as keys
use Rattle.q_drr.proofs.LookupLemmas.{state_here, state_behind, quantum_here, quantum_behind, deficit_here, deficit_behind, granted_here, granted_behind}
use Rattle.q_drr.proofs.NameLemmas.{each_at, differ_by_member, differ_push, differ_rotated, without_absent, or_left, or_right}
use Rattle.q_drr.proofs.StateLemmas.{with_absent}

same_class : (new c : NamedState) → new.name ≡ c.name → new.quantum ≡ c.quantum → class_in new ≡ class_in c
same_class new c name quantum = cc

same_name : (new c : NamedState) → (if eqb new.name c.name then new else c).name ≡ c.name
same_name new c = elim (cases_Bool (eqb new.name c.name)) [
  | inl e ↦ ap (λ (t : Bool). (if t then new else c).name) e ∙ eqb-true new.name c.name e
  | inr e ↦ ap (λ (t : Bool). (if t then new else c).name) e
]

-- what the classes and the entries show of the states
pub has_class_in : (n : ℕ) (states : List NamedState) → has_class n (map class_in states) ≡ has_state n states
has_class_in n [] = refl
has_class_in n (c ∷ states) = ap (λ t. eqb n c.name || t) (has_class_in n states)

pub quantum_in : (n : ℕ) (states : List NamedState) → quantum_of n (map class_in states) ≡ (state_of n states).quantum
quantum_in n [] = refl
quantum_in n (c ∷ states) = elim (cases_Bool (eqb n c.name)) [
  | inl e ↦ quantum_here n (class_in c) (map class_in states) e ∙ ap (λ x. x.quantum) (sym (state_here n c states e))
  | inr e ↦ quantum_behind n (class_in c) (map class_in states) e ∙ quantum_in n states ∙ ap (λ x. x.quantum) (sym (state_behind n c states e))
]

pub active_in : (n : ℕ) (states : List NamedState) (order : List ℕ) → is_active n (map (entry_in states) order) ≡ is_among n order
active_in n states [] = refl
active_in n states (m ∷ order) = ap (λ t. eqb n m || t) (active_in n states order)

pub deficit_in : (n : ℕ) (states : List NamedState) (order : List ℕ) → is_among n order ≡ true → deficit_of n (map (entry_in states) order) ≡ (state_of n states).deficit
deficit_in n states [] there = absurd (false≢true there)
deficit_in n states (m ∷ order) there = elim (cases_Bool (eqb n m)) [
  | inl e ↦ deficit_here n (entry_in states m) (map (entry_in states) order) e ∙ ap (λ k. (state_of k states).deficit) (sym (eqb-true n m e))
  | inr e ↦ deficit_behind n (entry_in states m) (map (entry_in states) order) e ∙ deficit_in n states order (sym (ap (λ t. t || is_among n order) e) ∙ there)
]

pub granted_in : (n : ℕ) (states : List NamedState) (order : List ℕ) → is_among n order ≡ true → granted_of n (map (entry_in states) order) ≡ (state_of n states).granted
granted_in n states [] there = absurd (false≢true there)
granted_in n states (m ∷ order) there = elim (cases_Bool (eqb n m)) [
  | inl e ↦ granted_here n (entry_in states m) (map (entry_in states) order) e ∙ ap (λ k. (state_of k states).granted) (sym (eqb-true n m e))
  | inr e ↦ granted_behind n (entry_in states m) (map (entry_in states) order) e ∙ granted_in n states order (sym (ap (λ t. t || is_among n order) e) ∙ there)
]

pub deficit_asleep : (n : ℕ) (states : List NamedState) (order : List ℕ) → is_among n order ≡ false → deficit_of n (map (entry_in states) order) ≡ 0
deficit_asleep n states [] absent = refl
deficit_asleep n states (m ∷ order) absent =
    let parts = or_parts (eqb n m) (is_among n order) absent in
    deficit_behind n (entry_in states m) (map (entry_in states) order) parts.0 ∙ deficit_asleep n states order parts.1

pub granted_asleep : (n : ℕ) (states : List NamedState) (order : List ℕ) → is_among n order ≡ false → granted_of n (map (entry_in states) order) ≡ 0
granted_asleep n states [] absent = refl
granted_asleep n states (m ∷ order) absent =
    let parts = or_parts (eqb n m) (is_among n order) absent in
    granted_behind n (entry_in states m) (map (entry_in states) order) parts.0 ∙ granted_asleep n states order parts.1

-- the state found for a class that is there
pub name_of_state : (n : ℕ) (states : List NamedState) → has_state n states ≡ true → (state_of n states).name ≡ n
name_of_state n [] there = absurd (false≢true there)
name_of_state n (c ∷ states) there = elim (cases_Bool (eqb n c.name)) [
  | inl e ↦ ap (λ x. x.name) (state_here n c states e) ∙ sym (eqb-true n c.name e)
  | inr e ↦ ap (λ x. x.name) (state_behind n c states e) ∙ name_of_state n states (sym (ap (λ t. t || has_state n states) e) ∙ there)
]

pub state_meets : (P : NamedState → Type 0) (n : ℕ) (states : List NamedState) → All P states → has_state n states ≡ true → P (state_of n states)
state_meets P n [] each there = absurd (false≢true there)
state_meets P n (c ∷ states) each there = elim (cases_Bool (eqb n c.name)) [
  | inl e ↦ subst P (sym (state_here n c states e)) (All-head P c states each)
  | inr e ↦ subst P (sym (state_behind n c states e)) (state_meets P n states (All-tail P c states each) (sym (ap (λ t. t || has_state n states) e) ∙ there))
]

-- one state written
pub state_of_same : (new : NamedState) (states : List NamedState) → has_state new.name states ≡ true → state_of new.name (with_state new states) ≡ new
state_of_same new [] there = absurd (false≢true there)
state_of_same new (c ∷ states) there = elim (cases_Bool (eqb new.name c.name)) [
  | inl e ↦ ap (λ (t : Bool). state_of new.name ((if t then new else c) ∷ with_state new states)) e ∙ state_here new.name new (with_state new states) (eq-eqb new.name new.name refl)
  | inr e ↦ ap (λ (t : Bool). state_of new.name ((if t then new else c) ∷ with_state new states)) e ∙ state_behind new.name c (with_state new states) e
      ∙ state_of_same new states (sym (ap (λ t. t || has_state new.name states) e) ∙ there)
]

head_name : (n : ℕ) (new c : NamedState) → eqb n (if eqb new.name c.name then new else c).name ≡ eqb n c.name
head_name n new c = elim (cases_Bool (eqb new.name c.name)) [
  | inl e ↦ ap (λ (t : Bool). eqb n (if t then new else c).name) e ∙ ap (eqb n) (eqb-true new.name c.name e)
  | inr e ↦ ap (λ (t : Bool). eqb n (if t then new else c).name) e
]

pub has_with : (n : ℕ) (new : NamedState) (states : List NamedState) → has_state n (with_state new states) ≡ has_state n states
has_with n new [] = refl
has_with n new (c ∷ states) = ap (λ t. t || has_state n (with_state new states)) (head_name n new c) ∙ ap (λ t. eqb n c.name || t) (has_with n new states)

pub state_of_other : (n : ℕ) (new : NamedState) (states : List NamedState) → eqb new.name n ≡ false → state_of n (with_state new states) ≡ state_of n states
state_of_other n new [] apart = refl
state_of_other n new (c ∷ states) apart =
    let first : NamedState = if eqb new.name c.name then new else c in
    elim (cases_Bool (eqb n c.name)) [
      | inl e ↦ state_here n first (with_state new states) (head_name n new c ∙ e)
          ∙ ap (λ (t : Bool). if t then new else c) (ap (eqb new.name) (sym (eqb-true n c.name e)) ∙ apart)
          ∙ sym (state_here n c states e)
      | inr e ↦ state_behind n first (with_state new states) (head_name n new c ∙ e)
          ∙ state_of_other n new states apart ∙ sym (state_behind n c states e)
    ]

pub each_with : (P : NamedState → Type 0) (new : NamedState) (states : List NamedState) → P new → All P states → All P (with_state new states)
each_with P new states p each =
    let one : NamedState → NamedState = λ c. if new.name == c.name then new else c in
    All-map P one states (All-weaker P (λ c. P (one c)) (λ c h. elim (eqb new.name c.name) as (λ (t : Bool). P (if t then new else c)) [ true ↦ p | false ↦ h ]) states each)

pub differ_with : (new : NamedState) (states : List NamedState) → StatesDiffer states → StatesDiffer (with_state new states)
differ_with new [] d = tt
differ_with new (c ∷ states) d = (
  has_with _ new states ∙ ap (λ m. has_state m states) (same_name new c) ∙ d.0,
  differ_with new states d.1,
)

known_by : (old new : List NamedState) (order : List ℕ) → ((n : ℕ) → is_among n order ≡ true → has_state n new ≡ has_state n old)
    → All (λ n. has_state n old ≡ true) order → All (λ n. has_state n new ≡ true) order
known_by old new [] same known = All-nil (λ n. has_state n new ≡ true)
known_by old new (n ∷ order) same known =
    All-cons (λ n. has_state n new ≡ true) n order
    (same n (ap (λ t. t || is_among n order) (eq-eqb n n refl)) ∙ All-head (λ n. has_state n old ≡ true) n order known)
    (known_by old new order (λ m h. same m (or_right (eqb m n) (is_among m order) h)) (All-tail (λ n. has_state n old ≡ true) n order known))

pub known_with : (new : NamedState) (states : List NamedState) (order : List ℕ) → All (λ n. has_state n states ≡ true) order → All (λ n. has_state n (with_state new states) ≡ true) order
known_with new states order known = All-weaker (λ n. has_state n states ≡ true) (λ n. has_state n (with_state new states) ≡ true) (λ n h. has_with n new states ∙ h) order known

pub classes_with : (new : NamedState) (states : List NamedState) → StatesDiffer states → new.quantum ≡ (state_of new.name states).quantum → map class_in (with_state new states) ≡ map class_in states
classes_with new [] d same = refl
classes_with new (c ∷ states) d same = elim (cases_Bool (eqb new.name c.name)) [
  | inl e ↦
      let name : new.name ≡ c.name = eqb-true new.name c.name e in
      let quantum : new.quantum ≡ c.quantum = same ∙ ap (λ x. x.quantum) (state_here new.name c states e) in
      ap (λ (t : Bool). class_in (if t then new else c) ∷ map class_in (with_state new states)) e
      ∙ ap (λ rest. class_in new ∷ map class_in rest) (with_absent new states (ap (λ m. has_state m states) name ∙ d.0))
      ∙ ap (λ k. k ∷ map class_in states) (same_class new c name quantum)
  | inr e ↦ ap (λ (t : Bool). class_in (if t then new else c) ∷ map class_in (with_state new states)) e
      ∙ ap (λ rest. class_in c ∷ rest) (classes_with new states d.1 (same ∙ ap (λ x. x.quantum) (state_behind new.name c states e)))
]

entries_by : (old new : List NamedState) (order : List ℕ) → ((n : ℕ) → is_among n order ≡ true → state_of n new ≡ state_of n old) → map (entry_in new) order ≡ map (entry_in old) order
entries_by old new [] same = refl
entries_by old new (n ∷ order) same =
    ap (λ (c : NamedState). record { class = n; deficit = c.deficit; granted = c.granted } ∷ map (entry_in new) order) (same n (ap (λ t. t || is_among n order) (eq-eqb n n refl)))
    ∙ ap (λ es. entry_in old n ∷ es) (entries_by old new order (λ m h. same m (or_right (eqb m n) (is_among m order) h)))

pub entries_with : (new : NamedState) (states : List NamedState) (order : List ℕ) → is_among new.name order ≡ false → map (entry_in (with_state new states)) order ≡ map (entry_in states) order
entries_with new states order absent = entries_by states (with_state new states) order (λ n there. state_of_other n new states (differ_by_member new.name n order there absent))

-- facts on a class, carried between what is shown and what is kept
pub there_of : (max_len turns : ℕ) (states : List NamedState) (order : List ℕ) (s : Schedule) (n : ℕ) → shown max_len turns states order ≡ s → has_class n s.classes ≡ true → has_state n states ≡ true
there_of max_len turns states order s n e h = sym (has_class_in n states) ∙ ap (λ v. has_class n v.classes) e ∙ h

pub state_kept : (max_len : ℕ) (states : List NamedState) (order : List ℕ) (n : ℕ) → IsKept max_len states order → has_state n states ≡ true → IsState max_len (state_of n states)
state_kept max_len states order n h there = state_meets (IsState max_len) n states h.each there

pub front_in : (states : List NamedState) (order : List ℕ) → slice_get (map (λ (e : Entry). e.class) (map (entry_in states) order)) 0 ≡ slice_get order 0
front_in states [] = refl
front_in states (n ∷ order) = refl

-- one state written
pub kept_put : (max_len : ℕ) (states : List NamedState) (order : List ℕ) (new : NamedState) → IsState max_len new → IsKept max_len states order → IsKept max_len (with_state new states) order
kept_put max_len states order new p h = record {
  positive = h.positive;
  each = each_with (IsState max_len) new states p h.each;
  states_differ = states_differ_from (with_state new states) (differ_with new states (states_apart states h.states_differ));
  known = known_with new states order h.known;
  order_differs = h.order_differs;
}

pub kept_order : (max_len : ℕ) (states : List NamedState) (old order : List ℕ) → All (λ n. has_state n states ≡ true) order → AllDiffer order
    → IsKept max_len states old → IsKept max_len states order
kept_order max_len states old order known differ h = record {
  positive = h.positive;
  each = h.each;
  states_differ = h.states_differ;
  known = known;
  order_differs = numbers_differ_from order differ;
}

-- the entry of the class written
pub entry_put : (new : NamedState) (states : List NamedState) (n : ℕ) → new.name ≡ n → has_state n states ≡ true
    → entry_in (with_state new states) n ≡ record { class = n; deficit = new.deficit; granted = new.granted }
entry_put new states n name there =
    let at : state_of n (with_state new states) ≡ new =
    ap (λ m. state_of m (with_state new states)) (sym name) ∙ state_of_same new states (ap (λ m. has_state m states) name ∙ there) in
    ap (λ (c : NamedState). record { class = n; deficit = c.deficit; granted = c.granted }) at

pub same_entry : (n deficit deficit' granted granted' : ℕ) → deficit ≡ deficit' → granted ≡ granted'
    → ◌≡◌ {A = Entry} (record { class = n; deficit = deficit; granted = granted }) (record { class = n; deficit = deficit'; granted = granted' })
same_entry n deficit deficit' granted granted' e f = cc

pub same_schedule : (max_len turns turns' : ℕ) (cs cs' : List Class) (es es' : List Entry) → cs ≡ cs' → es ≡ es' → turns ≡ turns'
    → ◌≡◌ {A = Schedule} (record { max_len = max_len; classes = cs; active = es; turns = turns }) (record { max_len = max_len; classes = cs'; active = es'; turns = turns' })
same_schedule max_len turns turns' cs cs' es es' e f g = cc

-- `wake`
pub woken_shown : (max_len turns : ℕ) (states : List NamedState) (order : List ℕ) (n : ℕ) (new : NamedState) → StatesDiffer states → has_state n states ≡ true
    → is_among n order ≡ false → new.name ≡ n → new.quantum ≡ (state_of n states).quantum → new.deficit ≡ (state_of n states).quantum → new.granted ≡ 0
    → shown max_len turns (with_state new states) (order ++ n ∷ []) ≡ woken n (shown max_len turns states order)
woken_shown max_len turns states order n new differ there absent name quantum deficit granted =
    let cs = classes_with new states differ (quantum ∙ ap (λ m. (state_of m states).quantum) (sym name)) in
    let rest = entries_with new states order (ap (λ m. is_among m order) name ∙ absent) in
    let last : entry_in (with_state new states) n ≡ record { class = n; deficit = quantum_of n (map class_in states); granted = 0 } =
    entry_put new states n name there ∙ same_entry n _ _ _ _ (deficit ∙ sym (quantum_in n states)) granted in
    let es : map (entry_in (with_state new states)) (order ++ n ∷ []) ≡ map (entry_in states) order ++ record { class = n; deficit = quantum_of n (map class_in states); granted = 0 } ∷ [] =
    map-append (entry_in (with_state new states)) order (n ∷ []) ∙ ap (λ xs. xs ++ entry_in (with_state new states) n ∷ []) rest
    ∙ ap (λ x. map (entry_in states) order ++ x ∷ []) last in
    same_schedule max_len turns turns _ _ _ _ cs es refl
    ∙ ap (λ (t : Bool). if t then shown max_len turns states order else record (shown max_len turns states order) {
      active = map (entry_in states) order ++ record { class = n; deficit = quantum_of n (map class_in states); granted = 0 } ∷ [];
    }) (sym (active_in n states order ∙ absent))

-- `sleep`
pub asleep_entries : (states : List NamedState) (order : List ℕ) (n : ℕ) → map (entry_in states) (without n order) ≡ filter (λ e. not (n == e.class)) (map (entry_in states) order)
asleep_entries states [] n = refl
asleep_entries states (m ∷ order) n = elim (cases_Bool (eqb n m)) [
  | inl e ↦ ap (λ t. map (entry_in states) (cond (not t) (m ∷ without n order) (without n order))) e ∙ asleep_entries states order n
      ∙ ap (λ t. cond (not t) (entry_in states m ∷ filter (λ e. not (n == e.class)) (map (entry_in states) order)) (filter (λ e. not (n == e.class)) (map (entry_in states) order))) (sym e)
  | inr e ↦ ap (λ t. map (entry_in states) (cond (not t) (m ∷ without n order) (without n order))) e ∙ ap (λ es. entry_in states m ∷ es) (asleep_entries states order n)
      ∙ ap (λ t. cond (not t) (entry_in states m ∷ filter (λ e. not (n == e.class)) (map (entry_in states) order)) (filter (λ e. not (n == e.class)) (map (entry_in states) order))) (sym e)
]

pub asleep_shown : (max_len turns : ℕ) (states : List NamedState) (order : List ℕ) (n : ℕ) → shown max_len turns states (without n order) ≡ asleep n (shown max_len turns states order)
asleep_shown max_len turns states order n = same_schedule max_len turns turns _ _ _ _ refl (asleep_entries states order n) refl

among_without : (m n : ℕ) (ns : List ℕ) → is_among m ns ≡ false → is_among m (without n ns) ≡ false
among_without m n [] absent = refl
among_without m n (k ∷ ns) absent =
    let parts = or_parts (eqb m k) (is_among m ns) absent in
    elim (cases_Bool (eqb n k)) [
      | inl e ↦ ap (λ t. is_among m (cond (not t) (k ∷ without n ns) (without n ns))) e ∙ among_without m n ns parts.1
      | inr e ↦ ap (λ t. is_among m (cond (not t) (k ∷ without n ns) (without n ns))) e ∙ or_from (eqb m k) _ parts.0 (among_without m n ns parts.1)
    ]

pub differ_without : (n : ℕ) (ns : List ℕ) → AllDiffer ns → AllDiffer (without n ns)
differ_without n [] d = tt
differ_without n (k ∷ ns) d = elim (eqb n k) as (λ t. AllDiffer (cond (not t) (k ∷ without n ns) (without n ns))) [
  | true ↦ differ_without n ns d.1
  | false ↦ (among_without k n ns d.0, differ_without n ns d.1)
]

pub kept_asleep : (max_len : ℕ) (states : List NamedState) (order : List ℕ) (n : ℕ) → IsKept max_len states order → IsKept max_len states (without n order)
kept_asleep max_len states order n h =
    kept_order max_len states order (without n order) (All-filter (λ m. not (n == m)) (λ m. has_state m states ≡ true) order h.known) (differ_without n order (numbers_apart order h.order_differs)) h

pub asleep_stays : (max_len turns : ℕ) (states : List NamedState) (order : List ℕ) (n : ℕ) → is_among n order ≡ false → shown max_len turns states order ≡ asleep n (shown max_len turns states order)
asleep_stays max_len turns states order n absent = ap (shown max_len turns states) (sym (without_absent n order absent)) ∙ asleep_shown max_len turns states order n

pub awake_stays : (s : Schedule) (n : ℕ) → is_active n s.active ≡ true → s ≡ woken n s
awake_stays s n there = sym (ap (λ (t : Bool). if t then s else record s { active = s.active ++ record { class = n; deficit = quantum_of n s.classes; granted = 0 } ∷ [] }) there)

pub kept_push : (max_len : ℕ) (states : List NamedState) (order : List ℕ) (n : ℕ) → has_state n states ≡ true → is_among n order ≡ false
    → IsKept max_len states order → IsKept max_len states (order ++ n ∷ [])
kept_push max_len states order n there absent h =
    kept_order max_len states order (order ++ n ∷ []) (All-push (λ m. has_state m states ≡ true) order n h.known there) (differ_push n order (numbers_apart order h.order_differs) absent) h

differ_turned : (ns : List ℕ) → AllDiffer ns → AllDiffer (drop 1 ns ++ take 1 ns)
differ_turned [] d = tt
differ_turned (n ∷ ns) d = differ_rotated n ns d

pub kept_rotated : (max_len : ℕ) (states : List NamedState) (order : List ℕ) → IsKept max_len states order → IsKept max_len states (drop 1 order ++ take 1 order)
kept_rotated max_len states order h =
    kept_order max_len states order (drop 1 order ++ take 1 order)
    (All-append (λ m. has_state m states ≡ true) (drop 1 order) (take 1 order) (All-drop (λ m. has_state m states ≡ true) 1 order h.known)
    (All-take (λ m. has_state m states ≡ true) 1 order h.known))
    (differ_turned order (numbers_apart order h.order_differs)) h

-- `remove`
has_without : (m n : ℕ) (states : List NamedState) → eqb n m ≡ false → has_state m (without_state n states) ≡ has_state m states
has_without m n states apart = has_others (λ (c : NamedState). c.name) m n states apart

state_of_without : (m n : ℕ) (states : List NamedState) → eqb n m ≡ false → state_of m (without_state n states) ≡ state_of m states
state_of_without m n states apart = ap (λ (o : Option NamedState). unwrap_or o no_state) (find_others (λ (c : NamedState). c.name) m n states apart)

classes_without : (n : ℕ) (states : List NamedState) → map class_in (without_state n states) ≡ filter (λ c. not (n == c.name)) (map class_in states)
classes_without n [] = refl
classes_without n (c ∷ states) = elim (cases_Bool (eqb n c.name)) [
  | inl e ↦ ap (λ t. map class_in (cond (not t) (c ∷ without_state n states) (without_state n states))) e ∙ classes_without n states
      ∙ ap (λ t. cond (not t) (class_in c ∷ filter (λ k. not (n == k.name)) (map class_in states)) (filter (λ k. not (n == k.name)) (map class_in states))) (sym e)
  | inr e ↦ ap (λ t. map class_in (cond (not t) (c ∷ without_state n states) (without_state n states))) e ∙ ap (λ cs. class_in c ∷ cs) (classes_without n states)
      ∙ ap (λ t. cond (not t) (class_in c ∷ filter (λ k. not (n == k.name)) (map class_in states)) (filter (λ k. not (n == k.name)) (map class_in states))) (sym e)
]

pub not_among_without : (n : ℕ) (ns : List ℕ) → is_among n (without n ns) ≡ false
not_among_without n [] = refl
not_among_without n (k ∷ ns) = elim (cases_Bool (eqb n k)) [
  | inl e ↦ ap (λ t. is_among n (cond (not t) (k ∷ without n ns) (without n ns))) e ∙ not_among_without n ns
  | inr e ↦ ap (λ t. is_among n (cond (not t) (k ∷ without n ns) (without n ns))) e ∙ or_from (eqb n k) _ e (not_among_without n ns)
]

pub removed_shown : (max_len turns : ℕ) (states : List NamedState) (order : List ℕ) (n : ℕ)
    → shown max_len turns (without_state n states) (without n order) ≡ removed n (shown max_len turns states order)
removed_shown max_len turns states order n =
    same_schedule max_len turns turns _ _ _ _ (classes_without n states)
    (entries_by states (without_state n states) (without n order) (λ m there. state_of_without m n states (differ_by_member n m (without n order) there (not_among_without n order)))
    ∙ asleep_entries states order n) refl

absent_filtered : (m n : ℕ) (states : List NamedState) → has_state m states ≡ false → has_state m (without_state n states) ≡ false
absent_filtered m n [] absent = refl
absent_filtered m n (c ∷ states) absent =
    let parts = or_parts (eqb m c.name) (has_state m states) absent in
    elim (cases_Bool (eqb n c.name)) [
      | inl e ↦ ap (λ t. has_state m (cond (not t) (c ∷ without_state n states) (without_state n states))) e ∙ absent_filtered m n states parts.1
      | inr e ↦ ap (λ t. has_state m (cond (not t) (c ∷ without_state n states) (without_state n states))) e ∙ or_from (eqb m c.name) _ parts.0 (absent_filtered m n states parts.1)
    ]

differ_filtered : (n : ℕ) (states : List NamedState) → StatesDiffer states → StatesDiffer (without_state n states)
differ_filtered n [] d = tt
differ_filtered n (c ∷ states) d = elim (eqb n c.name) as (λ t. StatesDiffer (cond (not t) (c ∷ without_state n states) (without_state n states))) [
  | true ↦ differ_filtered n states d.1
  | false ↦ (absent_filtered c.name n states d.0, differ_filtered n states d.1)
]

pub kept_removed : (max_len : ℕ) (states : List NamedState) (order : List ℕ) (n : ℕ) → IsKept max_len states order → IsKept max_len (without_state n states) (without n order)
kept_removed max_len states order n h = record {
  positive = h.positive;
  each = All-filter (λ (c : NamedState). not (n == c.name)) (IsState max_len) states h.each;
  states_differ = states_differ_from (without_state n states) (differ_filtered n states (states_apart states h.states_differ));
  known = known_by states (without_state n states) (without n order)
      (λ m there. has_without m n states (differ_by_member n m (without n order) there (not_among_without n order)))
      (All-filter (λ m. not (n == m)) (λ m. has_state m states ≡ true) order h.known);
  order_differs = numbers_differ_from (without n order) (differ_without n order (numbers_apart order h.order_differs));
}

one_class : (new c : NamedState) (q : ℕ) → new.name ≡ c.name → new.quantum ≡ q → class_in new ≡ record (class_in c) { quantum = q }
one_class new c q name quantum = cc

-- `add`
has_added : (n : ℕ) (new : NamedState) (states : List NamedState) → has_state n (states ++ new ∷ []) ≡ (has_state n states || eqb n new.name)
has_added n new states = has_push (λ (c : NamedState). c.name) n new states

state_of_added : (n : ℕ) (new : NamedState) (states : List NamedState) → has_state n states ≡ true → state_of n (states ++ new ∷ []) ≡ state_of n states
state_of_added n new states there = ap (λ (o : Option NamedState). unwrap_or o no_state) (find_push (λ (c : NamedState). c.name) n new states there)

pub added_shown : (max_len turns : ℕ) (states : List NamedState) (order : List ℕ) (new : NamedState) → All (λ n. has_state n states ≡ true) order
    → shown max_len turns (states ++ new ∷ []) order ≡ added new.name new.quantum (shown max_len turns states order)
added_shown max_len turns states order new known =
    same_schedule max_len turns turns _ _ _ _ (map-append class_in states (new ∷ []))
    (entries_by states (states ++ new ∷ []) order (λ n there. state_of_added n new states (each_at (λ m. has_state m states ≡ true) n order known there))) refl

pub kept_added : (max_len : ℕ) (states : List NamedState) (order : List ℕ) (new : NamedState) → has_state new.name states ≡ false
    → IsState max_len new → IsKept max_len states order → IsKept max_len (states ++ new ∷ []) order
kept_added max_len states order new absent p h = record {
  positive = h.positive;
  each = All-push (IsState max_len) states new h.each p;
  states_differ = states_differ_from (states ++ new ∷ []) (keys.differ_push (λ (c : NamedState). c.name) new states (states_apart states h.states_differ) absent);
  known = known_by states (states ++ new ∷ []) order (λ n there. has_added n new states ∙ or_left (has_state n states) (eqb n new.name) (each_at (λ m. has_state m states ≡ true) n order h.known there)
      ∙ sym (each_at (λ m. has_state m states ≡ true) n order h.known there)) h.known;
  order_differs = h.order_differs;
}

-- `set_quantum`
head_class : (n q : ℕ) (new c : NamedState) → new.name ≡ n → new.quantum ≡ q
    → class_in (if eqb new.name c.name then new else c) ≡ (if eqb n c.name then record (class_in c) { quantum = q } else class_in c)
head_class n q new c name quantum = elim (cases_Bool (eqb new.name c.name)) [
  | inl e ↦ ap (λ (t : Bool). class_in (if t then new else c)) e ∙ one_class new c q (eqb-true new.name c.name e) quantum
      ∙ sym (ap (λ (t : Bool). if t then record (class_in c) { quantum = q } else class_in c) (ap (λ m. eqb m c.name) (sym name) ∙ e))
  | inr e ↦ ap (λ (t : Bool). class_in (if t then new else c)) e ∙ sym (ap (λ (t : Bool). if t then record (class_in c) { quantum = q } else class_in c) (ap (λ m. eqb m c.name) (sym name) ∙ e))
]

classes_requantized : (n q : ℕ) (new : NamedState) (states : List NamedState) → new.name ≡ n → new.quantum ≡ q
    → map class_in (with_state new states) ≡ map (λ (c : Class). if n == c.name then record c { quantum = q } else c) (map class_in states)
classes_requantized n q new [] name quantum = refl
classes_requantized n q new (c ∷ states) name quantum =
    ap (λ x. x ∷ map class_in (with_state new states)) (head_class n q new c name quantum)
    ∙ ap (λ xs. (if eqb n c.name then record (class_in c) { quantum = q } else class_in c) ∷ xs) (classes_requantized n q new states name quantum)

entries_cut : (n q max_len : ℕ) (new : NamedState) (states : List NamedState) (order : List ℕ) → has_state n states ≡ true → new.name ≡ n
    → new.deficit ≡ min (state_of n states).deficit (q + max_len - 1) → new.granted ≡ (state_of n states).granted
    → map (entry_in (with_state new states)) order ≡ map (cut n q max_len) (map (entry_in states) order)
entries_cut n q max_len new states [] there name deficit granted = refl
entries_cut n q max_len new states (m ∷ order) there name deficit granted =
    ap (λ x. x ∷ map (entry_in (with_state new states)) order) (elim (cases_Bool (eqb n m)) [
      | inl e ↦ let same : n ≡ m = eqb-true n m e in
          ap (entry_in (with_state new states)) (sym same) ∙ entry_put new states n name there ∙ same_entry n _ _ _ _ deficit granted
          ∙ ap (λ k. record (entry_in states k) { deficit = min (entry_in states k).deficit (q + max_len - 1) }) same
          ∙ sym (ap (λ (t : Bool). if t then record (entry_in states m) { deficit = min (entry_in states m).deficit (q + max_len - 1) } else entry_in states m) e)
      | inr e ↦ ap (λ (c : NamedState). record { class = m; deficit = c.deficit; granted = c.granted }) (state_of_other m new states (ap (λ k. eqb k m) name ∙ e))
          ∙ sym (ap (λ (t : Bool). if t then record (entry_in states m) { deficit = min (entry_in states m).deficit (q + max_len - 1) } else entry_in states m) e)
    ])
    ∙ ap (λ xs. cut n q max_len (entry_in states m) ∷ xs) (entries_cut n q max_len new states order there name deficit granted)

pub requantized_shown : (max_len turns q : ℕ) (states : List NamedState) (order : List ℕ) (n : ℕ) (new : NamedState) → has_state n states ≡ true → new.name ≡ n → new.quantum ≡ q
    → new.deficit ≡ min (state_of n states).deficit (q + max_len - 1) → new.granted ≡ (state_of n states).granted
    → shown max_len turns (with_state new states) order ≡ with_quantum n q (shown max_len turns states order)
requantized_shown max_len turns q states order n new there name quantum deficit granted =
    same_schedule max_len turns turns _ _ _ _ (classes_requantized n q new states name quantum) (entries_cut n q max_len new states order there name deficit granted) refl

-- what holds of every active list
classes_lawful : (states : List NamedState) → StatesDiffer states → ClassesDiffer (map class_in states)
classes_lawful [] d = tt
classes_lawful (c ∷ states) d = (has_class_in c.name states ∙ d.0, classes_lawful states d.1)

quanta_lawful : (max_len : ℕ) (states : List NamedState) → All (IsState max_len) states → All (λ (c : Class). 1 ≤ c.quantum) (map class_in states)
quanta_lawful max_len states h =
    All-map (λ (c : Class). 1 ≤ c.quantum) class_in states (All-weaker (IsState max_len) (λ c. 1 ≤ c.quantum) (λ c i. i.at_least_one) states h)

entries_lawful : (states : List NamedState) (order : List ℕ) → AllDiffer order → EntriesDiffer (map (entry_in states) order)
entries_lawful states [] d = tt
entries_lawful states (n ∷ order) d = (active_in n states order ∙ d.0, entries_lawful states order d.1)

each_entry_lawful : (max_len : ℕ) (states : List NamedState) (order : List ℕ) → All (IsState max_len) states → All (λ n. has_state n states ≡ true) order
    → All (IsEntry max_len (map class_in states)) (map (entry_in states) order)
each_entry_lawful max_len states order each known =
    let entry : (n : ℕ) → has_state n states ≡ true → IsEntry max_len (map class_in states) (entry_in states n) = λ n there.
    let s = state_meets (IsState max_len) n states each there in
    record {
      there = has_class_in n states ∙ there;
      bounded = omega (arith, s.bounded, quantum_in n states);
      in_range = s.in_range;
    } in
    All-map (IsEntry max_len (map class_in states)) (entry_in states) order
    (All-weaker (λ n. has_state n states ≡ true) (λ n. IsEntry max_len (map class_in states) (entry_in states n)) entry order known)

shown_lawful : (max_len turns : ℕ) (states : List NamedState) (order : List ℕ) → turns < 2 ^ 64 → IsKept max_len states order → IsLawful (shown max_len turns states order)
shown_lawful max_len turns states order range h = record {
  classes_differ = pairs_from_differ (λ (c : Class). c.name) (map class_in states) (classes_lawful states (states_apart states h.states_differ));
  quanta = quanta_lawful max_len states h.each;
  entries_differ = pairs_from_differ (λ (e : Entry). e.class) (map (entry_in states) order) (entries_lawful states order (numbers_apart order h.order_differs));
  entries = each_entry_lawful max_len states order h.each h.known;
  counted_turns = range;
}

pub lawful_view : (max_len turns : ℕ) (states : List NamedState) (order : List ℕ) (s : Schedule) → shown max_len turns states order ≡ s → turns < 2 ^ 64 → IsKept max_len states order → IsLawful s
lawful_view max_len turns states order s e range h = subst IsLawful e (shown_lawful max_len turns states order range h)

-- the place of a class among those that are shown
place_len_in : (n : ℕ) (states : List NamedState) → position_or_len (λ (c : Class). n == c.name) (map class_in states) ≡ position_or_len (λ (c : NamedState). n == c.name) states
place_len_in n [] = refl
place_len_in n (c ∷ states) = ap (λ k. cond (not (n == c.name)) (1 + k) 0) (place_len_in n states)

pub place_in : (n : ℕ) (states : List NamedState) → place_of n (map class_in states) ≡ place_of_state n states
place_in n states =
    ap (λ i. cond (nat_lt i (length (map class_in states))) (Some i) None) (place_len_in n states)
    ∙ ap (λ l. cond (nat_lt (position_or_len (λ (c : NamedState). n == c.name) states) l) (Some (position_or_len (λ (c : NamedState). n == c.name) states)) None) (length-map states class_in)
