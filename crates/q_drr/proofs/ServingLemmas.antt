-- A take in its midst: the turns given so far were all grants, so what is to come is the rest of the take as it began, and
-- the classes stand in their old order, those granted behind the others.
use Rattle.std.proofs.Common.{◌≡◌, ◌≢◌, ℕ, zero, suc, ◌+◌, ◌*◌, ◌<◌, ◌≤◌, List, [], ◌∷◌, ◌++◌, map, length, take, drop, get_or, append_assoc, Option, Some, None, IfSome, option_map, refl, sym, ap, ◌∙◌, subst, inl, inr, arith, add-one}
use Rattle.std.specs.Prelude.{slice_get}
use Rattle.std.specs.List.{AllPairs}
use Rattle.std.proofs.lemmas.Bool.{cases_lt}
use Rattle.std.proofs.lemmas.List.{append-nil, length-map, length_push, map_push, drop_more, take_more, nil_from_length}
use Rattle.std.proofs.lemmas.Option.{same_Some, slice_get-map, slice_get_within, get_or_from_slice_get}
use Rattle.q_packet.specs.Choice.{Choice, sooner, choose}
use Rattle.q_packet.proofs.ChoiceLemmas.{last_one}
use Rattle.q_drr.specs.Schedule.{Entry, Schedule, quantum_of, turned, IsLawful}
use Rattle.q_drr.specs.Take.{need, needs, choice_of, turns_until, prepared}
use Rattle.q_drr.proofs.TakeLemmas.{Front, once, turned_granted, choice_within, choice_before, choice_after, choice_ready, prepared_granted, turns_go_on, front_quantum, need_at}

-- the active classes by their names, front first
abbrev pub names : Schedule → List ℕ
names s = map (λ (e : Entry). e.class) s.active

-- `first` after so many turns, each of them a grant
pub record IsServing (heads : ℕ → Option ℕ) (first s : Schedule) (turns : ℕ) : Type 0 where
  pub classes : s.classes ≡ first.classes
  pub longest : s.max_len ≡ first.max_len
  pub long : length s.active ≡ length first.active
  pub ready : prepared heads s ≡ prepared heads first
  pub until : turns_until (choice_of heads first) (length first.active) ≡ turns + turns_until (choice_of heads s) (length s.active)
  pub order : turns ≤ length first.active → names s ≡ drop turns (names first) ++ take turns (names first)

pub serving_start : (heads : ℕ → Option ℕ) (s : Schedule) → IsServing heads s s 0
serving_start heads s = record {
  classes = refl;
  longest = refl;
  long = refl;
  ready = refl;
  until = omega arith;
  order = λ within. sym (append-nil (names s));
}

-- ---- the order of the names

names_of : (n : ℕ) (s : Schedule) (f : Front n s) → names s ≡ f.first.class ∷ map (λ (e : Entry). e.class) f.rest
names_of n s f = ap (map (λ (e : Entry). e.class)) f.is

-- where the list is turned by k places, the one in front stood at place k
front_turned : (k m : ℕ) (ns ms xs : List ℕ) → k < length ns → m ∷ ms ≡ drop k ns ++ xs → slice_get ns k ≡ Some m
front_turned k m [] ms xs within e = absurd (omega arith)
front_turned zero m (n ∷ ns) ms xs within e = cc
front_turned (suc k) m (n ∷ ns) ms xs within e = front_turned k m ns ms xs (omega arith) e

-- one place more
turned_more : (k m : ℕ) (ns ms : List ℕ) → k < length ns → m ∷ ms ≡ drop k ns ++ take k ns → ms ++ m ∷ [] ≡ drop (suc k) ns ++ take (suc k) ns
turned_more k m ns ms within e =
    let n : ℕ = get_or ns k 0 in
    let dropped : drop k ns ≡ n ∷ drop (suc k) ns = drop_more ns k 0 within ∙ ap (λ i. n ∷ drop i ns) (add-one k) in
    let taken : take (suc k) ns ≡ take k ns ++ n ∷ [] = ap (λ i. take i ns) (sym (add-one k)) ∙ take_more ns k 0 within in
    let both : m ∷ ms ≡ n ∷ (drop (suc k) ns ++ take k ns) = e ∙ ap (λ xs. xs ++ take k ns) dropped in
    let first : m ≡ n = cc in
    let rest : ms ≡ drop (suc k) ns ++ take k ns = cc in
    ap (λ xs. xs ++ m ∷ []) rest ∙ ap (λ x. (drop (suc k) ns ++ take k ns) ++ x ∷ []) first
    ∙ append_assoc (drop (suc k) ns) (take k ns) (n ∷ []) ∙ ap (λ xs. drop (suc k) ns ++ xs) (sym taken)

by_name : (n : ℕ) (o : Option Entry) → option_map (λ (e : Entry). e.class) o ≡ Some n → (e : Entry) × (o ≡ Some e) × (e.class ≡ n)
by_name n None h = cc
by_name n (Some e) h = (e, refl, same_Some e.class n h)

-- while not every class was in front yet, the one in front is the next of the list as it began
pub serving_front : (heads : ℕ → Option ℕ) (first s : Schedule) (turns n : ℕ) → IsServing heads first s turns → turns < length first.active → Front n s
    → (e : Entry) × (slice_get first.active turns ≡ Some e) × (e.class ≡ n)
serving_front heads first s turns n h early f =
    let all : length (names first) ≡ length first.active = length-map first.active (λ (e : Entry). e.class) in
    let stood : slice_get (names first) turns ≡ Some f.first.class =
    front_turned turns f.first.class (names first) (map (λ (e : Entry). e.class) f.rest) (take turns (names first)) (omega (arith, all))
    (sym (names_of n s f) ∙ h.order (omega arith)) in
    by_name n (slice_get first.active turns) (sym (slice_get-map (λ (e : Entry). e.class) first.active turns) ∙ stood ∙ ap Some f.class)

-- ---- one grant more

pub serving_granted : (heads : ℕ → Option ℕ) (first s : Schedule) (turns n len : ℕ) → IsServing heads first s turns → IsLawful s → (f : Front n s) → heads n ≡ Some len → f.first.deficit < len
    → IsServing heads first (turned len s) (suc turns)
serving_granted heads first s turns n len h law f head short =
    let quantum : ℕ → ℕ = λ m. quantum_of m s.classes in
    let one : 1 ≤ quantum n = front_quantum s n f law in
    let last : Entry = once quantum f.first in
    let k : ℕ = need quantum heads last in
    let others : Option Choice = choose (needs quantum heads f.rest) in
    let list : (turned len s).active ≡ f.rest ++ last ∷ [] = turned_granted s n len f short in
    let long_before : length s.active ≡ suc (length f.rest) = ap length f.is in
    let long_after : length (turned len s).active ≡ suc (length f.rest) = ap length list ∙ length_push f.rest last ∙ add-one (length f.rest) in
    let before : turns_until (choice_of heads s) (length s.active) ≡ turns_until (Some (sooner (suc k) others)) (suc (length f.rest)) =
    ap (λ c. turns_until c (length s.active)) (choice_before heads s n len f head one short) ∙ ap (turns_until (Some (sooner (suc k) others))) long_before in
    let after : turns_until (choice_of heads (turned len s)) (length (turned len s).active) ≡ turns_until (Some (last_one k (length f.rest) others)) (suc (length f.rest)) =
    ap (λ c. turns_until c (length (turned len s).active)) (choice_after heads s n len f short) ∙ ap (turns_until (Some (last_one k (length f.rest) others))) long_after in
    record {
      classes = h.classes;
      longest = h.longest;
      long = long_after ∙ sym long_before ∙ h.long;
      ready = prepared_granted heads s n len f head one short ∙ h.ready;
      until = omega (arith, h.until, before, after, turns_go_on quantum f.first f.rest k others);
      order = λ within.
          ap (map (λ (e : Entry). e.class)) list ∙ map_push (λ (e : Entry). e.class) f.rest last
          ∙ turned_more turns f.first.class (names first) (map (λ (e : Entry). e.class) f.rest) (omega (arith, length-map first.active (λ (e : Entry). e.class)))
          (sym (names_of n s f) ∙ h.order (omega arith));
    }

-- ---- the end

-- the class that a take of so many grants has come to, by its place in the list as it began
pub record IsCome (heads : ℕ → Option ℕ) (first : Schedule) (turns : ℕ) : Type 0 where
  pub choice : Choice
  pub is : choice_of heads first ≡ Some choice
  pub count : choice.rounds * length first.active + choice.place ≡ turns
  pub within : choice.place < length first.active
  pub early : turns < length first.active → (choice.rounds ≡ 0) × (choice.place ≡ turns)
  pub late : length first.active ≤ turns → 1 ≤ choice.rounds

in_first_round : (rounds place long turns : ℕ) → rounds * long + place ≡ turns → turns < long → (rounds ≡ 0) × (place ≡ turns)
in_first_round zero place long turns e early = (refl, omega (arith, e))
in_first_round (suc rounds) place long turns e early = absurd (omega (arith, e))

in_later_round : (rounds place long turns : ℕ) → rounds * long + place ≡ turns → place < long → long ≤ turns → 1 ≤ rounds
in_later_round zero place long turns e within late = absurd (omega (arith, e))
in_later_round (suc rounds) place long turns e within late = omega arith

some_choice : (quantum : ℕ → ℕ) (heads : ℕ → Option ℕ) (es : List Entry) → 0 < length es → (c : Choice) × (choose (needs quantum heads es) ≡ Some c)
some_choice quantum heads [] some = absurd (omega arith)
some_choice quantum heads (e ∷ es) some = (sooner (need quantum heads e) (choose (needs quantum heads es)), refl)

-- where the class in front shows nothing, or a head that its deficit covers
pub serving_ends : (heads : ℕ → Option ℕ) (first s : Schedule) (turns n : ℕ) → IsServing heads first s turns → (f : Front n s) → (h : Option ℕ)
    → heads n ≡ h → ((len : ℕ) → h ≡ Some len → len ≤ f.first.deficit)
    → IsCome heads first turns
serving_ends heads first s turns n v f h e covered =
    let quantum : ℕ → ℕ = λ m. quantum_of m first.classes in
    let here : choice_of heads s ≡ Some (record { rounds = 0; place = 0 }) = choice_ready heads s n f (need_at heads s n f h e covered) in
    let found = some_choice quantum heads first.active (omega (arith, v.long, ap length f.is)) in
    let c : Choice = found.0 in
    let within : c.place < length first.active = subst (λ o. IfSome o (λ d. d.place < length first.active)) found.1 (choice_within quantum heads first.active) in
    let here_none : turns_until (choice_of heads s) (length s.active) ≡ 0 = ap (λ o. turns_until o (length s.active)) here ∙ omega arith in
    let all : turns_until (choice_of heads first) (length first.active) ≡ c.rounds * length first.active + c.place = ap (λ o. turns_until o (length first.active)) found.1 in
    let count : c.rounds * length first.active + c.place ≡ turns = omega (arith, all, v.until, here_none) in
    record {
      choice = c;
      is = found.1;
      count = count;
      within = within;
      early = in_first_round c.rounds c.place (length first.active) turns count;
      late = in_later_round c.rounds c.place (length first.active) turns count within;
    }

-- where no class is active there was none to begin with, and no turn was given
pub serving_nobody : (heads : ℕ → Option ℕ) (first s : Schedule) (turns : ℕ) → IsServing heads first s turns → s.active ≡ [] → (first.active ≡ []) × (choice_of heads first ≡ None) × (turns ≡ 0)
serving_nobody heads first s turns v empty =
    let none : first.active ≡ [] = nil_from_length first.active (sym v.long ∙ ap length empty) in
    let choice : choice_of heads first ≡ None = ap (λ es. choose (needs (λ m. quantum_of m first.classes) heads es)) none in
    let nothing : turns_until (choice_of heads first) (length first.active) ≡ 0 = ap (λ o. turns_until o (length first.active)) choice in
    (none, choice, omega (arith, nothing, v.until))

-- ---- nobody twice

-- in a list in which no two have one name, the places of one name are one
pub one_place : {X : Type 0} (key : X → ℕ) (xs : List X) → AllPairs (λ x y. key x ≢ key y) xs → (i j : ℕ) (x y : X) → slice_get xs i ≡ Some x → slice_get xs j ≡ Some y → key x ≡ key y → i ≡ j
one_place {X} key xs differ i j x y at_i at_j same = elim (cases_lt i j) [
  | inl before ↦ absurd (apart i j x y before at_i at_j same)
  | inr from ↦ elim (cases_lt j i) [
    | inl behind ↦ absurd (apart j i y x behind at_j at_i (sym same))
    | inr upto ↦ omega arith
  ]
]
  where
    apart : (i j : ℕ) (x y : X) → i < j → slice_get xs i ≡ Some x → slice_get xs j ≡ Some y → key x ≡ key y → ⊥
    apart i j x y before at_i at_j same =
        differ i j x before (slice_get_within xs j y at_j)
        (ap key (get_or_from_slice_get xs i x x at_i) ∙ same ∙ sym (ap key (get_or_from_slice_get xs j y x at_j)))
