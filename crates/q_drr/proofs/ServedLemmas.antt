-- A whole take as turns: how often each class is granted and what it sends, turn by turn and at once.
use Rattle.std.proofs.Common.{◌≡◌, ◌≢◌, ◌⊎◌, ℕ, zero, suc, ◌+◌, ◌*◌, ◌<◌, ◌≤◌, Bool, List, [], ◌∷◌, ◌++◌, map, length, get_or, take, drop, Option, Some, None, IfSome, IsSomeAnd, MatchOption, refl, sym, ap, ◌∙◌, subst, inl, inr, arith, eq-eqb}
use Rattle.std.specs.Prelude.{◌==◌, if◌then◌else◌, nat_lt, nat_le, slice_get, option_map, option_and_then, unwrap_or}
use Rattle.std.specs.List.{sum_by}
use Rattle.std.proofs.Math.Seq.{get_or-append_seam}
use Rattle.std.proofs.lemmas.Bool.{cases_lt, cases_eq, cond-true, cond-false, ne_eqb, lt-ltb, le-ltb, lt-leb, le-leb, leb-false}
use Rattle.std.proofs.lemmas.List.{get_or_append_left, get_or-map, length_push}
use Rattle.q_packet.specs.Choice.{Choice, sooner, choose, IsChosen}
use Rattle.q_packet.proofs.ChoiceLemmas.{last_one, last_one_within, last_one_past, sooner_within, sooner_past, choice_is, chosen_is}
use Rattle.q_packet.proofs.LeastLemmas.{least_gt}
use Rattle.q_drr.specs.Changes.{HeadsFit, ServedIsLawful}
use Rattle.q_drr.specs.Schedule.{Entry, Schedule, quantum_of, deficit_of, front_of, turned, IsLawful}
use Rattle.q_drr.specs.Stretch.{after_turns, grant_in, bytes_in, grants, sent}
use Rattle.q_drr.specs.Take.{grants_for, need, needs, choice_of, granted, brought_up, sent_in, served, met_in}
use Rattle.q_drr.specs.Turns.{AreShown, grants_at, bytes_at, TakesAreTurns, LeastNeedIsMet, ChosenIsMet, TurnsGrantWhereShort, TakesGrantWhereShort}
use Rattle.q_drr.proofs.ChangeLemmas.{turned_lawful}
use Rattle.q_drr.proofs.DifferLemmas.{EntriesDiffer, entries_apart, nowhere}
use Rattle.q_drr.proofs.LookupLemmas.{deficit_here}
use Rattle.q_drr.proofs.TakeLemmas.{Front, once, need_at, choice_ready, choice_within, choice_before, choice_after, prepared_ready, prepared_empty, prepared_granted, turned_granted, served_nothing, served_head, served_nobody, front_quantum, measure_falls}
use Rattle.q_drr.proofs.StretchLemmas.{if_same}

-- ---- a choice at a place

grants_before : (c : Choice) (i : ℕ) → i < c.place → grants_at (Some c) i ≡ suc c.rounds
grants_before c i h = cond-true (nat_lt i c.place) (suc c.rounds) c.rounds (lt-ltb i c.place h)

grants_from : (c : Choice) (i : ℕ) → c.place ≤ i → grants_at (Some c) i ≡ c.rounds
grants_from c i h = cond-false (nat_lt i c.place) (suc c.rounds) c.rounds (le-ltb i c.place h)

bytes_chosen : (c : Choice) (i : ℕ) (head : Option ℕ) → i ≡ c.place → bytes_at (Some c) i head ≡ unwrap_or head 0
bytes_chosen c i head e = cond-true (i == c.place) (unwrap_or head 0) 0 (eq-eqb i c.place e)

bytes_other : (c : Choice) (i : ℕ) (head : Option ℕ) → (i ≡ c.place → ⊥) → bytes_at (Some c) i head ≡ 0
bytes_other c i head ne = cond-false (i == c.place) (unwrap_or head 0) 0 (ne_eqb i c.place ne)

-- the front, which is granted and goes to the end, and those behind it, which move up by one place
module _ (k len : ℕ) where
  grants_front : (o : Option Choice) → IfSome o (λ c. c.place < len) → grants_at (Some (sooner (suc k) o)) 0 ≡ suc (grants_at (Some (last_one k len o)) len)
  grants_front None within = grants_from (record { rounds = suc k; place = 0 }) 0 (omega arith) ∙ sym (ap suc (grants_from (record { rounds = k; place = len }) len (omega arith)))
  grants_front (Some c) within = elim (cases_lt k c.rounds) [
    | inl less ↦ ap (λ d. grants_at (Some d) 0) (sooner_within (suc k) c (omega arith)) ∙ grants_from (record { rounds = suc k; place = 0 }) 0 (omega arith)
        ∙ sym (ap (λ d. suc (grants_at (Some d) len)) (last_one_past k len c less) ∙ ap suc (grants_from (record { rounds = k; place = len }) len (omega arith)))
    | inr more ↦ ap (λ d. grants_at (Some d) 0) (sooner_past (suc k) c (omega arith)) ∙ grants_before (record { rounds = c.rounds; place = suc c.place }) 0 (omega arith)
        ∙ sym (ap (λ d. suc (grants_at (Some d) len)) (last_one_within k len c more) ∙ ap suc (grants_from c len (omega (arith, within))))
  ]

  grants_behind : (j : ℕ) (o : Option Choice) → j < len → grants_at (Some (sooner (suc k) o)) (suc j) ≡ grants_at (Some (last_one k len o)) j
  grants_behind j None below = grants_from (record { rounds = suc k; place = 0 }) (suc j) (omega arith) ∙ sym (grants_before (record { rounds = k; place = len }) j below)
  grants_behind j (Some c) below = elim (cases_lt k c.rounds) [
    | inl less ↦ ap (λ d. grants_at (Some d) (suc j)) (sooner_within (suc k) c (omega arith)) ∙ grants_from (record { rounds = suc k; place = 0 }) (suc j) (omega arith)
        ∙ sym (ap (λ d. grants_at (Some d) j) (last_one_past k len c less) ∙ grants_before (record { rounds = k; place = len }) j below)
    | inr more ↦ ap (λ d. grants_at (Some d) (suc j)) (sooner_past (suc k) c (omega arith))
        ∙ elim (cases_lt j c.place) [
          | inl before ↦ grants_before (record { rounds = c.rounds; place = suc c.place }) (suc j) (omega arith) ∙ sym (grants_before c j before)
          | inr from ↦ grants_from (record { rounds = c.rounds; place = suc c.place }) (suc j) (omega arith) ∙ sym (grants_from c j from)
        ]
        ∙ sym (ap (λ d. grants_at (Some d) j) (last_one_within k len c more))
  ]

  bytes_front : (o : Option Choice) (head : Option ℕ) → IfSome o (λ c. c.place < len) → bytes_at (Some (sooner (suc k) o)) 0 head ≡ bytes_at (Some (last_one k len o)) len head
  bytes_front None head within = bytes_chosen (record { rounds = suc k; place = 0 }) 0 head refl ∙ sym (bytes_chosen (record { rounds = k; place = len }) len head refl)
  bytes_front (Some c) head within = elim (cases_lt k c.rounds) [
    | inl less ↦ ap (λ d. bytes_at (Some d) 0 head) (sooner_within (suc k) c (omega arith)) ∙ bytes_chosen (record { rounds = suc k; place = 0 }) 0 head refl
        ∙ sym (ap (λ d. bytes_at (Some d) len head) (last_one_past k len c less) ∙ bytes_chosen (record { rounds = k; place = len }) len head refl)
    | inr more ↦ ap (λ d. bytes_at (Some d) 0 head) (sooner_past (suc k) c (omega arith)) ∙ bytes_other (record { rounds = c.rounds; place = suc c.place }) 0 head (λ e. omega arith)
        ∙ sym (ap (λ d. bytes_at (Some d) len head) (last_one_within k len c more) ∙ bytes_other c len head (λ e. omega (arith, within)))
  ]

  bytes_behind : (j : ℕ) (o : Option Choice) (head : Option ℕ) → j < len → bytes_at (Some (sooner (suc k) o)) (suc j) head ≡ bytes_at (Some (last_one k len o)) j head
  bytes_behind j None head below = bytes_other (record { rounds = suc k; place = 0 }) (suc j) head (λ e. omega arith) ∙ sym (bytes_other (record { rounds = k; place = len }) j head (λ e. omega arith))
  bytes_behind j (Some c) head below = elim (cases_lt k c.rounds) [
    | inl less ↦ ap (λ d. bytes_at (Some d) (suc j) head) (sooner_within (suc k) c (omega arith)) ∙ bytes_other (record { rounds = suc k; place = 0 }) (suc j) head (λ e. omega arith)
        ∙ sym (ap (λ d. bytes_at (Some d) j head) (last_one_past k len c less) ∙ bytes_other (record { rounds = k; place = len }) j head (λ e. omega arith))
    | inr more ↦ ap (λ d. bytes_at (Some d) (suc j) head) (sooner_past (suc k) c (omega arith))
        ∙ elim (cases_eq j c.place) [
          | inl same ↦ bytes_chosen (record { rounds = c.rounds; place = suc c.place }) (suc j) head (ap suc same) ∙ sym (bytes_chosen c j head same)
          | inr other ↦ bytes_other (record { rounds = c.rounds; place = suc c.place }) (suc j) head (λ e. other (omega arith)) ∙ sym (bytes_other c j head other)
        ]
        ∙ sym (ap (λ d. bytes_at (Some d) j head) (last_one_within k len c more))
  ]

-- ---- what one turn grants and sends

grant_here : (len m : ℕ) (e : Entry) (es : List Entry) → m ≡ e.class → e.deficit < len → grant_in m len (e ∷ es) ≡ 1
grant_here len m e es same short =
    cond-true (m == e.class) (if nat_le len e.deficit then 0 else 1) 0 (eq-eqb m e.class same) ∙ cond-false (nat_le len e.deficit) 0 1 (lt-leb len e.deficit short)

grant_other : (len m : ℕ) (e : Entry) (es : List Entry) → m ≢ e.class → grant_in m len (e ∷ es) ≡ 0
grant_other len m e es apart = cond-false (m == e.class) (if nat_le len e.deficit then 0 else 1) 0 (ne_eqb m e.class apart)

grant_covered : (len m : ℕ) (e : Entry) (es : List Entry) → len ≤ e.deficit → grant_in m len (e ∷ es) ≡ 0
grant_covered len m e es covers = ap (λ (t : Bool). if m == e.class then (if t then 0 else 1) else 0) (le-leb len e.deficit covers) ∙ if_same (m == e.class)

bytes_here : (len m : ℕ) (e : Entry) (es : List Entry) → m ≡ e.class → len ≤ e.deficit → bytes_in m len (e ∷ es) ≡ len
bytes_here len m e es same covers =
    cond-true (m == e.class) (if nat_le len e.deficit then len else 0) 0 (eq-eqb m e.class same) ∙ cond-true (nat_le len e.deficit) len 0 (le-leb len e.deficit covers)

bytes_elsewhere : (len m : ℕ) (e : Entry) (es : List Entry) → m ≢ e.class → bytes_in m len (e ∷ es) ≡ 0
bytes_elsewhere len m e es apart = cond-false (m == e.class) (if nat_le len e.deficit then len else 0) 0 (ne_eqb m e.class apart)

bytes_short : (len m : ℕ) (e : Entry) (es : List Entry) → e.deficit < len → bytes_in m len (e ∷ es) ≡ 0
bytes_short len m e es short = ap (λ (t : Bool). if m == e.class then (if t then len else 0) else 0) (lt-leb len e.deficit short) ∙ if_same (m == e.class)

-- those behind the front have other names
behind_differs : (s : Schedule) (n : ℕ) (f : Front n s) → IsLawful s → (j : ℕ) (d : Entry) → j < length f.rest → (get_or f.rest j d).class ≢ f.first.class
behind_differs s n f law j d below e =
    let apart : EntriesDiffer (f.first ∷ f.rest) = subst EntriesDiffer f.is (entries_apart s.active law.entries_differ) in
    nowhere (λ (e : Entry). e.class) f.first.class f.rest apart.0 j d below (sym e)

front_shows : (heads : ℕ → Option ℕ) (s : Schedule) (n len : ℕ) (f : Front n s) → heads n ≡ Some len → option_and_then heads (front_of s) ≡ Some len
front_shows heads s n len f head = ap (λ es. option_and_then heads (slice_get (map (λ (e : Entry). e.class) es) 0)) f.is ∙ ap heads f.class ∙ head

-- the same by index
pub record AreTurnsBy (heads : ℕ → Option ℕ) (s : Schedule) (lens : List ℕ) : Type 0 where
  pub shown : AreShown heads lens s
  after : after_turns lens s ≡ served heads s
  pub granted : (i : ℕ) (d : Entry) → i < length s.active → grants (get_or s.active i d).class lens s ≡ grants_at (choice_of heads s) i
  pub bytes : (i : ℕ) (d : Entry) → i < length s.active → sent (get_or s.active i d).class lens s ≡ bytes_at (choice_of heads s) i (heads (get_or s.active i d).class)

-- an element by its index, as `slice_get` gives it
record IsAt {X : Type 0} (xs : List X) (i : ℕ) (x : X) : Type 0 where
  below : i < length xs
  same : get_or xs i x ≡ x

is_at : {X : Type 0} (xs : List X) (i : ℕ) (x : X) → slice_get xs i ≡ Some x → IsAt xs i x
is_at [] i x e = cc
is_at (y ∷ xs) zero x e = record { below = omega arith; same = cc }
is_at (y ∷ xs) (suc i) x e = let rest = is_at xs i x e in record { below = omega (arith, rest.below); same = rest.same }

-- ---- a take that ends at once

ends_empty : (heads : ℕ → Option ℕ) (s : Schedule) → IsLawful s → s.active ≡ [] → AreTurnsBy heads s []
ends_empty heads s law none = record {
  shown = tt;
  after = served_nobody heads s s none (prepared_empty heads s law none);
  granted = λ i d below. absurd (omega (arith, ap length none));
  bytes = λ i d below. absurd (omega (arith, ap length none));
}

module _ (heads : ℕ → Option ℕ) (s : Schedule) (n : ℕ) (f : Front n s) (law : IsLawful s) where
  -- the choice is the front, which needs no grant
  none_granted : (i : ℕ) → choice_of heads s ≡ Some (record { rounds = 0; place = 0 }) → grants_at (choice_of heads s) i ≡ 0
  none_granted i choice = ap (λ o. grants_at o i) choice ∙ grants_from (record { rounds = 0; place = 0 }) i (omega arith)

  hidden_bytes : (i : ℕ) (d : Entry) → choice_of heads s ≡ Some (record { rounds = 0; place = 0 }) → heads n ≡ None → bytes_at (choice_of heads s) i (heads (get_or s.active i d).class) ≡ 0
  hidden_bytes i d choice head = ap (λ o. bytes_at o i (heads (get_or s.active i d).class)) choice ∙ elim (cases_eq i 0) [
    | inr other ↦ bytes_other (record { rounds = 0; place = 0 }) i (heads (get_or s.active i d).class) other
    | inl same ↦ bytes_chosen (record { rounds = 0; place = 0 }) i (heads (get_or s.active i d).class) same
        ∙ ap (λ j. unwrap_or (heads (get_or s.active j d).class) 0) same
        ∙ ap (λ es. unwrap_or (heads (get_or es 0 d).class) 0) f.is ∙ ap (λ m. unwrap_or (heads m) 0) f.class ∙ ap (λ h. unwrap_or h 0) head
  ]

  ends_hidden : heads n ≡ None → AreTurnsBy heads s []
  ends_hidden head =
      let ready : need (λ m. quantum_of m s.classes) heads f.first ≡ 0 = need_at heads s n f None head (λ len e. cc) in
      let choice = choice_ready heads s n f ready in
      record {
        shown = tt;
        after = served_nothing heads s s n f head (prepared_ready heads s n f law ready);
        granted = λ i d below. sym (none_granted i choice);
        bytes = λ i d below. sym (hidden_bytes i d choice head);
      }

  -- what the classes at each place send where the front sends its head
  module _ (len : ℕ) (head : heads n ≡ Some len) (covers : len ≤ f.first.deficit) where
    front_bytes : (i : ℕ) (d : Entry) → i < length (f.first ∷ f.rest)
        → bytes_in (get_or (f.first ∷ f.rest) i d).class len (f.first ∷ f.rest) ≡ bytes_at (Some (record { rounds = 0; place = 0 })) i (heads (get_or (f.first ∷ f.rest) i d).class)
    front_bytes zero d below =
        bytes_here len f.first.class f.first f.rest refl covers
        ∙ sym (bytes_chosen (record { rounds = 0; place = 0 }) 0 (heads f.first.class) refl ∙ ap (λ m. unwrap_or (heads m) 0) f.class ∙ ap (λ h. unwrap_or h 0) head)
    front_bytes (suc j) d below =
        bytes_elsewhere len (get_or f.rest j d).class f.first f.rest (behind_differs s n f law j d (omega arith))
        ∙ sym (bytes_other (record { rounds = 0; place = 0 }) (suc j) (heads (get_or f.rest j d).class) (λ e. omega arith))

    ends_sent : AreTurnsBy heads s (len ∷ [])
    ends_sent =
        let ready : need (λ m. quantum_of m s.classes) heads f.first ≡ 0 = need_at heads s n f (Some len) head (λ l e. let same : len ≡ l = cc in omega arith) in
        let choice = choice_ready heads s n f ready in
        record {
          shown = (front_shows heads s n len f head, tt);
          after = served_head heads s s n len f head covers (prepared_ready heads s n f law ready);
          granted = λ i d below.
              let none : grant_in (get_or s.active i d).class len s.active ≡ 0 =
              ap (grant_in (get_or s.active i d).class len) f.is ∙ grant_covered len (get_or s.active i d).class f.first f.rest covers in
              omega (arith, none, none_granted i choice);
          bytes = λ i d below.
              let at : bytes_in (get_or s.active i d).class len s.active ≡ bytes_at (Some (record { rounds = 0; place = 0 })) i (heads (get_or s.active i d).class) =
              subst (λ es. i < length es → bytes_in (get_or es i d).class len es ≡ bytes_at (Some (record { rounds = 0; place = 0 })) i
              (heads (get_or es i d).class)) (sym f.is) (front_bytes i d) below in
              omega (arith, at, ap (λ o. bytes_at o i (heads (get_or s.active i d).class)) choice);
        }

  -- ---- and one that goes on after a grant
  module _ (len : ℕ) (head : heads n ≡ Some len) (short : f.first.deficit < len) (lens : List ℕ) (h : AreTurnsBy heads (turned len s) lens) where
    abbrev pub grant_of : ℕ → ℕ
    grant_of m = quantum_of m s.classes

    abbrev pub moved : Entry
    moved = once grant_of f.first

    abbrev pub still_needed : ℕ
    still_needed = need grant_of heads moved

    abbrev pub rest_choice : Option Choice
    rest_choice = choose (needs grant_of heads f.rest)

    abbrev pub rotated : List Entry
    rotated = f.rest ++ moved ∷ []

    one : 1 ≤ grant_of n
    one = front_quantum s n f law

    before : choice_of heads s ≡ Some (sooner (suc still_needed) rest_choice)
    before = choice_before heads s n len f head one short

    after : choice_of heads (turned len s) ≡ Some (last_one still_needed (length f.rest) rest_choice)
    after = choice_after heads s n len f short

    within : IfSome rest_choice (λ c. c.place < length f.rest)
    within = choice_within grant_of heads f.rest

    -- what holds of the turns after this one, over the list as it is then
    granted_then : (j : ℕ) (d : Entry) → j < length rotated → grants (get_or rotated j d).class lens (turned len s) ≡ grants_at (Some (last_one still_needed (length f.rest) rest_choice)) j
    granted_then j d below =
        subst (λ es. j < length es → grants (get_or es j d).class lens (turned len s) ≡ grants_at (choice_of heads (turned len s)) j) (turned_granted s n len f short) (h.granted j d) below
        ∙ ap (λ o. grants_at o j) after

    bytes_then : (j : ℕ) (d : Entry) → j < length rotated
        → sent (get_or rotated j d).class lens (turned len s) ≡ bytes_at (Some (last_one still_needed (length f.rest) rest_choice)) j
        (heads (get_or rotated j d).class)
    bytes_then j d below =
        subst (λ es. j < length es → sent (get_or es j d).class lens (turned len s)
        ≡ bytes_at (choice_of heads (turned len s)) j (heads (get_or es j d).class)) (turned_granted s n len f short) (h.bytes j d) below
        ∙ ap (λ o. bytes_at o j (heads (get_or rotated j d).class)) after

    long : length rotated ≡ length f.rest + 1
    long = length_push f.rest moved

    seam : (d : Entry) → get_or rotated (length f.rest) d ≡ moved
    seam d = get_or-append_seam f.rest moved [] d

    same_place : (j : ℕ) (d : Entry) → j < length f.rest → get_or rotated j d ≡ get_or f.rest j d
    same_place j d below = get_or_append_left f.rest (moved ∷ []) d j below

    granted_now : (i : ℕ) (d : Entry) → i < length (f.first ∷ f.rest)
        → grant_in (get_or (f.first ∷ f.rest) i d).class len (f.first ∷ f.rest) + grants (get_or (f.first ∷ f.rest) i d).class lens (turned len s)
        ≡ grants_at (Some (sooner (suc still_needed) rest_choice)) i
    granted_now zero d below =
        let here = grant_here len f.first.class f.first f.rest refl short in
        let later : grants f.first.class lens (turned len s) ≡ grants_at (Some (last_one still_needed (length f.rest) rest_choice)) (length f.rest) =
        ap (λ x. grants x.class lens (turned len s)) (sym (seam d)) ∙ granted_then (length f.rest) d (omega (arith, long)) in
        omega (arith, here, later, grants_front still_needed (length f.rest) rest_choice within)
    granted_now (suc j) d below =
        let here = grant_other len (get_or f.rest j d).class f.first f.rest (behind_differs s n f law j d (omega arith)) in
        let later : grants (get_or f.rest j d).class lens (turned len s) ≡ grants_at (Some (last_one still_needed (length f.rest) rest_choice)) j =
        ap (λ x. grants x.class lens (turned len s)) (sym (same_place j d (omega arith))) ∙ granted_then j d (omega (arith, long)) in
        omega (arith, here, later, grants_behind still_needed (length f.rest) j rest_choice (omega arith))

    bytes_now : (i : ℕ) (d : Entry) → i < length (f.first ∷ f.rest)
        → bytes_in (get_or (f.first ∷ f.rest) i d).class len (f.first ∷ f.rest) + sent (get_or (f.first ∷ f.rest) i d).class lens (turned len s)
        ≡ bytes_at (Some (sooner (suc still_needed) rest_choice)) i (heads (get_or (f.first ∷ f.rest) i d).class)
    bytes_now zero d below =
        let here = bytes_short len f.first.class f.first f.rest short in
        let later : sent f.first.class lens (turned len s) ≡ bytes_at (Some (last_one still_needed (length f.rest) rest_choice)) (length f.rest) (heads f.first.class) =
        ap (λ x. sent x.class lens (turned len s)) (sym (seam d)) ∙ bytes_then (length f.rest) d (omega (arith, long))
        ∙ ap (λ x. bytes_at (Some (last_one still_needed (length f.rest) rest_choice)) (length f.rest) (heads x.class)) (seam d) in
        omega (arith, here, later, bytes_front still_needed (length f.rest) rest_choice (heads f.first.class) within)
    bytes_now (suc j) d below =
        let here = bytes_elsewhere len (get_or f.rest j d).class f.first f.rest (behind_differs s n f law j d (omega arith)) in
        let later : sent (get_or f.rest j d).class lens (turned len s) ≡ bytes_at (Some (last_one still_needed (length f.rest) rest_choice)) j (heads (get_or f.rest j d).class) =
        ap (λ x. sent x.class lens (turned len s)) (sym (same_place j d (omega arith))) ∙ bytes_then j d (omega (arith, long))
        ∙ ap (λ x. bytes_at (Some (last_one still_needed (length f.rest) rest_choice)) j (heads x.class)) (same_place j d (omega arith)) in
        omega (arith, here, later, bytes_behind still_needed (length f.rest) j rest_choice (heads (get_or f.rest j d).class) (omega arith))

    goes_on : AreTurnsBy heads s (len ∷ lens)
    goes_on = record {
      shown = (front_shows heads s n len f head, h.shown);
      after = h.after ∙ ap (λ v. sent_in heads v.active v) (prepared_granted heads s n len f head one short);
      granted = λ i d below.
          subst (λ es. i < length es → grant_in (get_or es i d).class len es + grants (get_or es i d).class lens (turned len s)
          ≡ grants_at (Some (sooner (suc still_needed) rest_choice)) i) (sym f.is) (granted_now i d) below
          ∙ ap (λ o. grants_at o i) (sym before);
      bytes = λ i d below.
          subst (λ es. i < length es → bytes_in (get_or es i d).class len es + sent (get_or es i d).class lens (turned len s)
          ≡ bytes_at (Some (sooner (suc still_needed) rest_choice)) i (heads (get_or es i d).class)) (sym f.is) (bytes_now i d) below
          ∙ ap (λ o. bytes_at o i (heads (get_or s.active i d).class)) (sym before);
    }

-- ---- every take

front_cases : (s : Schedule) → (s.active ≡ []) ⊎ ((n : ℕ) × Front n s)
front_cases s = cases s.active refl where
  cases : (es : List Entry) → s.active ≡ es → (s.active ≡ []) ⊎ ((n : ℕ) × Front n s)
  cases [] e = inl e
  cases (x ∷ es) e = inr (x.class, record { first = x; rest = es; is = e; class = refl })

head_cases : (heads : ℕ → Option ℕ) (n : ℕ) → (heads n ≡ None) ⊎ ((len : ℕ) × (heads n ≡ Some len))
head_cases heads n = cases (heads n) refl where
  cases : (o : Option ℕ) → heads n ≡ o → (heads n ≡ None) ⊎ ((len : ℕ) × (heads n ≡ Some len))
  cases None e = inl e
  cases (Some len) e = inr (len, e)

take_turns : (bound : ℕ) (heads : ℕ → Option ℕ) (s : Schedule) → sum_by (need (λ m. quantum_of m s.classes) heads) s.active < bound → IsLawful s
    → HeadsFit heads s.max_len → (lens : List ℕ) × AreTurnsBy heads s lens
take_turns zero heads s below law fits = absurd (omega arith)
take_turns (suc bound) heads s below law fits = elim (front_cases s) [
  | inl none ↦ ([], ends_empty heads s law none)
  | inr front ↦ elim (head_cases heads front.0) [
    | inl hidden ↦ ([], ends_hidden heads s front.0 front.1 law hidden)
    | inr shows ↦ elim (cases_lt front.1.first.deficit shows.0) [
      | inr covers ↦ (shows.0 ∷ [], ends_sent heads s front.0 front.1 law shows.0 shows.1 covers)
      | inl short ↦
          let falls = measure_falls heads s front.0 shows.0 front.1 shows.1 (front_quantum s front.0 front.1 law) short in
          let rest = take_turns bound heads (turned shows.0 s) (omega (arith, falls)) (turned_lawful s shows.0 law (fits front.0 shows.0 shows.1)) fits in
          (shows.0 ∷ rest.0, goes_on heads s front.0 front.1 law shows.0 shows.1 short rest.0 rest.1)
    ]
  ]
]

pub takes_are_turns : TakesAreTurns
takes_are_turns s heads law fits =
    let t = take_turns (suc (sum_by (need (λ m. quantum_of m s.classes) heads) s.active)) heads s (omega arith) law fits in (
      t.0,
      record {
        shown = t.1.shown;
        after = t.1.after;
        granted = λ i e there.
            let at = is_at s.active i e there in
            subst (λ (x : Entry). grants x.class t.0 s ≡ grants_at (choice_of heads s) i) at.same (t.1.granted i e at.below);
        bytes = λ i e there.
            let at = is_at s.active i e there in
            subst (λ (x : Entry). sent x.class t.0 s ≡ bytes_at (choice_of heads s) i (heads x.class)) at.same (t.1.bytes i e at.below);
      },
    )

-- turns whose heads fit keep a schedule lawful, and so does a take
head_of_front : (heads : ℕ → Option ℕ) (max_len len : ℕ) (o : Option ℕ) → HeadsFit heads max_len → option_and_then heads o ≡ Some len → len ≤ max_len
head_of_front heads max_len len None fits e = cc
head_of_front heads max_len len (Some n) fits e = fits n len e

turns_lawful : (lens : List ℕ) (heads : ℕ → Option ℕ) (s : Schedule) → IsLawful s → HeadsFit heads s.max_len → AreShown heads lens s → IsLawful (after_turns lens s)
turns_lawful [] heads s law fits shown = law
turns_lawful (len ∷ lens) heads s law fits shown =
    turns_lawful lens heads (turned len s) (turned_lawful s len law (head_of_front heads s.max_len len (front_of s) fits shown.0)) fits shown.1

pub served_lawful : ServedIsLawful
served_lawful s heads law fits = let t = takes_are_turns s heads law fits in subst IsLawful t.1.after (turns_lawful t.0 heads s law fits t.1.shown)

-- ---- the class that is met, and what is short before each grant

least_met : (quantum : ℕ → ℕ) (heads : ℕ → Option ℕ) (es : List Entry) → MatchOption (choose (needs quantum heads es)) (es ≡ []) (IsChosen (needs quantum heads es))
least_met quantum heads [] = refl
least_met quantum heads (e ∷ es) = choice_is (needs quantum heads (e ∷ es))

pub least_need_is_met : LeastNeedIsMet
least_need_is_met s heads = least_met (λ n. quantum_of n s.classes) heads s.active

-- the class at the chosen place comes to the front
first_dropped : (heads : ℕ → Option ℕ) (quantum : ℕ → ℕ) (k p : ℕ) (es xs : List Entry) → p < length es
    → met_in heads (granted quantum k (drop p es) ++ xs) ≡ option_map (λ (e : Entry). record { class = e.class; head = heads e.class }) (slice_get es p)
first_dropped heads quantum k p [] xs below = absurd (omega arith)
first_dropped heads quantum k zero (e ∷ es) xs below = refl
first_dropped heads quantum k (suc p) (e ∷ es) xs below = first_dropped heads quantum k p es xs (omega arith)

met_chosen : (heads : ℕ → Option ℕ) (quantum : ℕ → ℕ) (es : List Entry) (o : Option Choice) → MatchOption o (es ≡ []) (λ c. c.place < length es)
    → met_in heads (brought_up quantum o es) ≡ option_map (λ (e : Entry). record { class = e.class; head = heads e.class }) (option_and_then (λ (c : Choice). slice_get es c.place) o)
met_chosen heads quantum es None none = ap (met_in heads) none
met_chosen heads quantum es (Some c) within = first_dropped heads quantum c.rounds c.place es (granted quantum (suc c.rounds) (take c.place es)) within

chosen_within : (quantum : ℕ → ℕ) (heads : ℕ → Option ℕ) (es : List Entry) → MatchOption (choose (needs quantum heads es)) (es ≡ []) (λ c. c.place < length es)
chosen_within quantum heads [] = refl
chosen_within quantum heads (e ∷ es) = choice_within quantum heads (e ∷ es)

pub chosen_is_met : ChosenIsMet
chosen_is_met s heads =
    let quantum : ℕ → ℕ = λ n. quantum_of n s.classes in
    met_chosen heads quantum s.active (choice_of heads s) (chosen_within quantum heads s.active)

turn_short : (len n : ℕ) (es : List Entry) → grant_in n len es ≡ 1 → deficit_of n es < len
turn_short len n [] granted = absurd (omega arith)
turn_short len n (e ∷ es) granted = elim (cases_eq n e.class) [
  | inr other ↦ absurd (omega (arith, grant_other len n e es other))
  | inl same ↦ elim (cases_lt e.deficit len) [
    | inr covers ↦ absurd (omega (arith, grant_covered len n e es covers))
    | inl short ↦ subst (λ d. d < len) (sym (deficit_here n e es (eq-eqb n e.class same))) short
  ]
]

pub turns_grant_where_short : TurnsGrantWhereShort
turns_grant_where_short s len n granted = turn_short len n s.active granted

-- a class that needs more grants than this has its deficit below its head after them
short_of_need : (q d k : ℕ) (head : Option ℕ) → k < grants_for q d head → IsSomeAnd head (λ len. d + k * q < len)
unfolding grants_for
short_of_need q d k None more = absurd (omega arith)
short_of_need q d k (Some len) more = leb-false len (d + k * q) (least_gt (λ k. nat_le len (d + k * q)) len k more)

-- what the choice says of the need at a place
chosen_needs : (quantum : ℕ → ℕ) (heads : ℕ → Option ℕ) (es : List Entry) (c : Choice) (i k : ℕ) (d : Entry) → choose (needs quantum heads es) ≡ Some c → i < length es → grants_at (Some c) i ≡ suc k
    → k < need quantum heads (get_or es i d)
chosen_needs quantum heads es c i k d choice below granted =
    let asked : Entry → Option ℕ = λ e. Some (need quantum heads e) in
    let h = chosen_is (needs quantum heads es) c choice in
    let at : get_or (needs quantum heads es) i None ≡ Some (need quantum heads (get_or es i d)) = get_or-map asked es i d None below in
    elim (cases_lt i c.place) [
      | inl before ↦ omega (arith, grants_before c i before, h.first i (need quantum heads (get_or es i d)) before at)
      | inr from ↦ omega (arith, grants_from c i from, h.least i (need quantum heads (get_or es i d)) at)
    ]

needs_more : (quantum : ℕ → ℕ) (heads : ℕ → Option ℕ) (es : List Entry) (o : Option Choice) (i k : ℕ) (d : Entry) → choose (needs quantum heads es) ≡ o → i < length es → grants_at o i ≡ suc k
    → k < need quantum heads (get_or es i d)
needs_more quantum heads es None i k d choice below granted = absurd (omega arith)
needs_more quantum heads es (Some c) i k d choice below granted = chosen_needs quantum heads es c i k d choice below granted

pub takes_grant_where_short : TakesGrantWhereShort
takes_grant_where_short s heads i k e there granted =
    let at = is_at s.active i e there in
    let quantum : ℕ → ℕ = λ n. quantum_of n s.classes in
    let more : k < need quantum heads (get_or s.active i e) = needs_more quantum heads s.active (choice_of heads s) i k e refl at.below granted in
    short_of_need (quantum e.class) e.deficit k (heads e.class) (subst (λ (x : Entry). k < need quantum heads x) at.same more)
