-- Each change of a schedule keeps it lawful.
use Rattle.std.proofs.Common.{◌≡◌, ◌≢◌, ℕ, ◌+◌, ◌-◌, ◌≤◌, min, Bool, true, false, eqb, ◌||◌, not, List, [], ◌∷◌, ◌++◌, map, get_or, Option, refl, sym, ap, ◌∙◌, subst, inl, inr, arith}
use Rattle.std.specs.Prelude.{if◌then◌else◌, ◌==◌}
use Rattle.std.specs.List.{All, AllPairs, filter}
use Rattle.std.specs.Option.{option_map_or}
use Rattle.std.proofs.lemmas.Bool.{eqb-true, false≢true, cases_Bool, cases_lt, le-leb, lt-leb}
use Rattle.std.proofs.lemmas.List.Elements.{All-nil, All-push, All-filter, All-head, All-tail, All-cons, All-weaker, All-map, All-same, filter_passes}
use Rattle.std.proofs.lemmas.List.Kept.{AllPairs-filter}
use Rattle.q_drr.specs.Schedule.{Class, Entry, Schedule, has_class, is_active, quantum_of, cut, active_after, after_grants, IsEntry, IsLawful}
use Rattle.q_drr.specs.Changes.{EmptyIsLawful, AddedIsLawful, RemovedIsLawful, WokenIsLawful, AsleepIsLawful, WithQuantumIsLawful, TurnedIsLawful}
use Rattle.q_drr.proofs.DifferLemmas.{ClassesDiffer, differ_from_pairs, pairs_from_differ, entries_apart}
use Rattle.q_drr.proofs.KeyLemmas.{has_push, find_push, differ_push, has_others, find_others, has_map, differ_map}
use Rattle.q_drr.proofs.LookupLemmas.{quantum_here, quantum_behind}
use Rattle.q_drr.proofs.StretchLemmas.{list_differ}
use Rattle.q_drr.proofs.NameLemmas.{or_left}

classes_apart : (classes : List Class) → AllPairs (λ (a b : Class). a.name ≢ b.name) classes → ClassesDiffer classes
classes_apart classes h = differ_from_pairs (λ (c : Class). c.name) classes h

-- an entry whose class is still there, with the same quantum
entry_kept : (max_len : ℕ) (old new : List Class) (e : Entry) → has_class e.class new ≡ has_class e.class old → quantum_of e.class new ≡ quantum_of e.class old
    → IsEntry max_len old e → IsEntry max_len new e
entry_kept max_len old new e there quantum h = record { there = there ∙ h.there; bounded = omega (arith, h.bounded, quantum); in_range = h.in_range }

-- ---- no class, and one more

pub empty_lawful : EmptyIsLawful
empty_lawful max_len = record {
  classes_differ = λ i j d lt below. absurd (omega arith);
  quanta = All-nil (λ (c : Class). 1 ≤ c.quantum);
  entries_differ = λ i j d lt below. absurd (omega arith);
  entries = All-nil (IsEntry max_len []);
  counted_turns = omega arith;
}

pub added_lawful : AddedIsLawful
added_lawful s n quantum h absent positive =
    let c : Class = record { name = n; quantum = quantum } in
    let new : List Class = s.classes ++ c ∷ [] in
    let kept : (e : Entry) → IsEntry s.max_len s.classes e → IsEntry s.max_len new e = λ e i.
    entry_kept s.max_len s.classes new e
    (has_push (λ (c : Class). c.name) e.class c s.classes ∙ or_left (has_class e.class s.classes) (eqb e.class n) i.there ∙ sym i.there)
    (ap (λ (o : Option Class). option_map_or (λ (c : Class). c.quantum) o 0) (find_push (λ (c : Class). c.name) e.class c s.classes i.there)) i in
    record {
      classes_differ = pairs_from_differ (λ (c : Class). c.name) new (differ_push (λ (c : Class). c.name) c s.classes (classes_apart s.classes h.classes_differ) absent);
      quanta = All-push (λ (c : Class). 1 ≤ c.quantum) s.classes c h.quanta positive;
      entries_differ = h.entries_differ;
      entries = All-weaker (IsEntry s.max_len s.classes) (IsEntry s.max_len new) kept s.active h.entries;
      counted_turns = h.counted_turns;
    }

-- ---- a class asleep, and taken away

pub asleep_lawful : AsleepIsLawful
asleep_lawful s n h = record {
  classes_differ = h.classes_differ;
  quanta = h.quanta;
  entries_differ = AllPairs-filter (λ (a b : Entry). a.class ≢ b.class) (λ (e : Entry). not (n == e.class)) s.active h.entries_differ;
  entries = All-filter (λ (e : Entry). not (n == e.class)) (IsEntry s.max_len s.classes) s.active h.entries;
  counted_turns = h.counted_turns;
}

not_passed : (t : Bool) → not t ≡ true → t ≡ false
not_passed true e = absurd (false≢true e)
not_passed false e = refl

pub removed_lawful : RemovedIsLawful
removed_lawful s n h =
    let keeps : Entry → Bool = λ e. not (n == e.class) in
    let new : List Class = filter (λ (c : Class). not (n == c.name)) s.classes in
    let left : List Entry = filter keeps s.active in
    let old : All (IsEntry s.max_len s.classes) left = All-filter keeps (IsEntry s.max_len s.classes) s.active h.entries in
    let passes : All (λ e. keeps e ≡ true) left = filter_passes keeps s.active in
    let kept : (e : Entry) → keeps e ≡ true → IsEntry s.max_len s.classes e → IsEntry s.max_len new e = λ e p i.
    let apart : eqb n e.class ≡ false = not_passed (eqb n e.class) p in
    entry_kept s.max_len s.classes new e (has_others (λ (c : Class). c.name) e.class n s.classes apart)
    (ap (λ (o : Option Class). option_map_or (λ (c : Class). c.quantum) o 0) (find_others (λ (c : Class). c.name) e.class n s.classes apart)) i in
    record {
      classes_differ = AllPairs-filter (λ (a b : Class). a.name ≢ b.name) (λ (c : Class). not (n == c.name)) s.classes h.classes_differ;
      quanta = All-filter (λ (c : Class). not (n == c.name)) (λ (c : Class). 1 ≤ c.quantum) s.classes h.quanta;
      entries_differ = AllPairs-filter (λ (a b : Entry). a.class ≢ b.class) keeps s.active h.entries_differ;
      entries = λ k d lt. kept (get_or left k d) (passes k d lt) (old k d lt);
      counted_turns = h.counted_turns;
    }

-- ---- a class awake

woken_if : (t : Bool) (s : Schedule) (n : ℕ) → is_active n s.active ≡ t → IsLawful s → 1 ≤ s.max_len → has_class n s.classes ≡ true
    → IsLawful (if t then s else record s { active = s.active ++ record { class = n; deficit = quantum_of n s.classes; granted = 0 } ∷ [] })
woken_if true s n e h positive there = h
woken_if false s n e h positive there =
    let x : Entry = record { class = n; deficit = quantum_of n s.classes; granted = 0 } in
    record {
      classes_differ = h.classes_differ;
      quanta = h.quanta;
      entries_differ = pairs_from_differ (λ (e : Entry). e.class) (s.active ++ x ∷ []) (differ_push (λ (e : Entry). e.class) x s.active (entries_apart s.active h.entries_differ) e);
      entries = All-push (IsEntry s.max_len s.classes) s.active x h.entries (record { there = there; bounded = omega (arith, positive); in_range = omega arith });
      counted_turns = h.counted_turns;
    }

pub woken_lawful : WokenIsLawful
woken_lawful s n h positive there = woken_if (is_active n s.active) s n refl h positive there

-- ---- another quantum

module _ (n q : ℕ) where
  abbrev pub quantum_set : Class → Class
  quantum_set c = if n == c.name then record c { quantum = q } else c

  same_name : (c : Class) → (quantum_set c).name ≡ c.name
  same_name c = elim (n == c.name) as (λ (t : Bool). (if t then record c { quantum = q } else c).name ≡ c.name) [ true ↦ refl | false ↦ refl ]

  new_quantum : (classes : List Class) → has_class n classes ≡ true → quantum_of n (map quantum_set classes) ≡ q
  new_quantum [] there = absurd (false≢true there)
  new_quantum (c ∷ classes) there = elim (cases_Bool (eqb n c.name)) [
    | inl e ↦ quantum_here n (quantum_set c) (map quantum_set classes) (ap (eqb n) (same_name c) ∙ e)
        ∙ ap (λ (t : Bool). (if t then record c { quantum = q } else c).quantum) e
    | inr e ↦ quantum_behind n (quantum_set c) (map quantum_set classes) (ap (eqb n) (same_name c) ∙ e)
        ∙ new_quantum classes (sym (ap (λ t. t || has_class n classes) e) ∙ there)
  ]

  old_quantum : (m : ℕ) (classes : List Class) → eqb n m ≡ false → quantum_of m (map quantum_set classes) ≡ quantum_of m classes
  old_quantum m [] apart = refl
  old_quantum m (c ∷ classes) apart = elim (cases_Bool (eqb m c.name)) [
    | inl e ↦ quantum_here m (quantum_set c) (map quantum_set classes) (ap (eqb m) (same_name c) ∙ e)
        ∙ ap (λ (t : Bool). (if t then record c { quantum = q } else c).quantum) (ap (eqb n) (sym (eqb-true m c.name e)) ∙ apart)
        ∙ sym (quantum_here m c classes e)
    | inr e ↦ quantum_behind m (quantum_set c) (map quantum_set classes) (ap (eqb m) (same_name c) ∙ e)
        ∙ old_quantum m classes apart ∙ sym (quantum_behind m c classes e)
  ]

  at_least_one : (c : Class) → 1 ≤ q → 1 ≤ c.quantum → 1 ≤ (quantum_set c).quantum
  at_least_one c positive h = elim (n == c.name) as (λ (t : Bool). 1 ≤ (if t then record c { quantum = q } else c).quantum) [ true ↦ positive | false ↦ h ]

  cut_kept : (max_len : ℕ) (classes : List Class) (e : Entry) → 1 ≤ q → IsEntry max_len classes e → IsEntry max_len (map quantum_set classes) (cut n q max_len e)
  cut_kept max_len classes e positive h = elim (cases_Bool (eqb n e.class)) [
    | inl same ↦
        let name : n ≡ e.class = eqb-true n e.class same in
        let quantum : quantum_of e.class (map quantum_set classes) ≡ q =
        ap (λ m. quantum_of m (map quantum_set classes)) (sym name) ∙ new_quantum classes (ap (λ m. has_class m classes) name ∙ h.there) in
        let less : IsEntry max_len (map quantum_set classes) (record e { deficit = min e.deficit (q + max_len - 1) }) = record {
          there = has_map (λ (c : Class). c.name) quantum_set same_name e.class classes ∙ h.there;
          bounded = omega (arith, quantum, positive);
          in_range = h.in_range;
        } in
        subst (λ (t : Bool). IsEntry max_len (map quantum_set classes) (if t then record e { deficit = min e.deficit (q + max_len - 1) } else e)) (sym same) less
    | inr apart ↦
        let kept : IsEntry max_len (map quantum_set classes) e =
        entry_kept max_len classes (map quantum_set classes) e (has_map (λ (c : Class). c.name) quantum_set same_name e.class classes) (old_quantum e.class classes apart) h in
        subst (λ (t : Bool). IsEntry max_len (map quantum_set classes) (if t then record e { deficit = min e.deficit (q + max_len - 1) } else e)) (sym apart) kept
  ]

cut_class : (n q max_len : ℕ) (e : Entry) → (cut n q max_len e).class ≡ e.class
cut_class n q max_len e = elim (n == e.class) as (λ (t : Bool). (if t then record e { deficit = min e.deficit (q + max_len - 1) } else e).class ≡ e.class) [ true ↦ refl | false ↦ refl ]

pub with_quantum_lawful : WithQuantumIsLawful
with_quantum_lawful s n q h positive = record {
  classes_differ = pairs_from_differ (λ (c : Class). c.name) (map (quantum_set n q) s.classes)
      (differ_map (λ (c : Class). c.name) (quantum_set n q) (same_name n q) s.classes (classes_apart s.classes h.classes_differ));
  quanta = All-map (λ (c : Class). 1 ≤ c.quantum) (quantum_set n q) s.classes
      (All-weaker (λ (c : Class). 1 ≤ c.quantum) (λ (c : Class). 1 ≤ (quantum_set n q c).quantum) (λ c. at_least_one n q c positive) s.classes h.quanta);
  entries_differ = pairs_from_differ (λ (e : Entry). e.class) (map (cut n q s.max_len) s.active)
      (differ_map (λ (e : Entry). e.class) (cut n q s.max_len) (cut_class n q s.max_len) s.active (entries_apart s.active h.entries_differ));
  entries = All-map (IsEntry s.max_len (map (quantum_set n q) s.classes)) (cut n q s.max_len) s.active
      (All-weaker (IsEntry s.max_len s.classes) (λ e. IsEntry s.max_len (map (quantum_set n q) s.classes) (cut n q s.max_len e)) (λ e. cut_kept n q s.max_len s.classes e positive) s.active h.entries);
  counted_turns = h.counted_turns;
}

-- ---- a turn

turn_entries : (max_len len : ℕ) (classes : List Class) (es : List Entry) → len ≤ max_len → All (IsEntry max_len classes) es → All (IsEntry max_len classes) (active_after len classes es)
turn_entries max_len len classes [] fits h = h
turn_entries max_len len classes (e ∷ es) fits h =
    let P : Entry → Type 0 = IsEntry max_len classes in
    let first : P e = All-head P e es h in
    let rest : All P es = All-tail P e es h in
    let less : Entry = record e { deficit = e.deficit - len } in
    let more : Entry = after_grants (quantum_of e.class classes) 1 e in
    elim (cases_lt e.deficit len) [
      | inl short ↦ All-same P (active_after len classes (e ∷ es)) (es ++ more ∷ [])
          (ap (λ (t : Bool). if t then less ∷ es else es ++ more ∷ []) (lt-leb len e.deficit short))
          (All-push P es more rest (record { there = first.there; bounded = omega (arith, short, fits); in_range = omega arith }))
      | inr covers ↦ All-same P (active_after len classes (e ∷ es)) (less ∷ es)
          (ap (λ (t : Bool). if t then less ∷ es else es ++ more ∷ []) (le-leb len e.deficit covers))
          (All-cons P less es (record { there = first.there; bounded = omega (arith, first.bounded); in_range = first.in_range }) rest)
    ]

pub turned_lawful : TurnedIsLawful
turned_lawful s len h fits = record {
  classes_differ = h.classes_differ;
  quanta = h.quanta;
  entries_differ = pairs_from_differ (λ (e : Entry). e.class) (active_after len s.classes s.active) (list_differ len s.classes s.active (entries_apart s.active h.entries_differ));
  entries = turn_entries s.max_len len s.classes s.active fits h.entries;
  counted_turns = omega arith;
}
