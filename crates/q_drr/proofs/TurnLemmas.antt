-- What an active list shows after a turn of the class in front.
use Rattle.std.proofs.Common.{◌≡◌, ℕ, ◌+◌, ◌-◌, ◌*◌, ◌<◌, ◌≤◌, Bool, true, false, List, [], ◌∷◌, ◌++◌, map, refl, sym, ap, ◌∙◌, subst, arith, take, drop, Some}
use Rattle.std.specs.Prelude.{if◌then◌else◌, slice_get, nat_le}
use Rattle.std.proofs.lemmas.Bool.{le-leb, lt-leb}
use Rattle.std.specs.Prelude.{All}
use Rattle.std.proofs.lemmas.List.{map-append}
use Rattle.std.proofs.lemmas.List.Elements.{All-head}
use Rattle.q_drr.specs.Links.{is_among}
use Rattle.q_drr.specs.declared.active.Turn.TheVariants.{Send, Granted}
use Rattle.q_drr.specs.States.{NamedState, has_state, state_of, with_state, class_in, entry_in}
use Rattle.q_drr.specs.Schedule.{quantum_of, after_grants, turn_answer, turned, counted}
use Rattle.q_drr.specs.Kept.{shown}
use Rattle.q_drr.specs.Rounds.{front_given, IsWithin, need_in}
use Rattle.q_drr.specs.Take.{grants_for}
use Rattle.q_drr.proofs.DifferLemmas.{AllDiffer, StatesDiffer}
use Rattle.q_drr.proofs.ScheduleLemmas.{quantum_in, classes_with, entries_with, entry_put, same_entry, same_schedule}

-- `turn`
pub sent_shown : (max_len turns len : ℕ) (states : List NamedState) (n : ℕ) (order : List ℕ) (new : NamedState) → StatesDiffer states → has_state n states ≡ true → is_among n order ≡ false
    → len ≤ (state_of n states).deficit → new.name ≡ n → new.quantum ≡ (state_of n states).quantum → new.deficit ≡ (state_of n states).deficit - len → new.granted ≡ (state_of n states).granted
    → shown max_len (counted (turns + 1)) (with_state new states) (n ∷ order) ≡ turned len (shown max_len turns states (n ∷ order))
sent_shown max_len turns len states n order new differ there absent covers name quantum deficit granted =
    let e : map (entry_in (with_state new states)) (n ∷ order) ≡ record
    { class = n; deficit = (state_of n states).deficit - len; granted = (state_of n states).granted } ∷ map (entry_in states) order =
    ap (λ x. x ∷ map (entry_in (with_state new states)) order) (entry_put new states n name there ∙ same_entry n _ _ _ _ deficit granted)
    ∙ ap (λ xs. record { class = n; deficit = (state_of n states).deficit - len; granted = (state_of n states).granted } ∷ xs)
    (entries_with new states order (ap (λ m. is_among m order) name ∙ absent)) in
    same_schedule max_len _ _ _ _ _ _ (classes_with new states differ (quantum ∙ ap (λ m. (state_of m states).quantum) (sym name)))
    (e ∙ sym (ap (λ (t : Bool). if t then record (entry_in states n) { deficit = (state_of n states).deficit - len } ∷ map (entry_in states) order
    else map (entry_in states) order ++ after_grants (quantum_of n (map class_in states)) 1 (entry_in states n) ∷ []) (le-leb len (state_of n states).deficit covers))) refl

pub granted_shown : (max_len turns len : ℕ) (states : List NamedState) (n : ℕ) (order : List ℕ) (new : NamedState) → StatesDiffer states → has_state n states ≡ true → is_among n order ≡ false
    → (state_of n states).deficit < len → new.name ≡ n → new.quantum ≡ (state_of n states).quantum → new.deficit ≡ (state_of n states).deficit + (state_of n states).quantum
    → new.granted ≡ counted ((state_of n states).granted + (state_of n states).quantum)
    → shown max_len (counted (turns + 1)) (with_state new states) (order ++ n ∷ []) ≡ turned len (shown max_len turns states (n ∷ order))
granted_shown max_len turns len states n order new differ there absent short name quantum deficit granted =
    let one : quantum_of n (map class_in states) ≡ (state_of n states).quantum = quantum_in n states in
    let last : entry_in (with_state new states) n ≡ after_grants (quantum_of n (map class_in states)) 1 (entry_in states n) =
    entry_put new states n name there ∙ same_entry n _ _ _ _
    (deficit ∙ omega (arith, one))
    (granted ∙ ap (λ k. counted ((state_of n states).granted + k)) (omega (arith, one))) in
    let e : map (entry_in (with_state new states)) (order ++ n ∷ []) ≡ map (entry_in states) order ++ after_grants (quantum_of n (map class_in states)) 1 (entry_in states n) ∷ [] =
    map-append (entry_in (with_state new states)) order (n ∷ [])
    ∙ ap (λ xs. xs ++ entry_in (with_state new states) n ∷ []) (entries_with new states order (ap (λ m. is_among m order) name ∙ absent))
    ∙ ap (λ x. map (entry_in states) order ++ x ∷ []) last in
    same_schedule max_len _ _ _ _ _ _ (classes_with new states differ (quantum ∙ ap (λ m. (state_of m states).quantum) (sym name)))
    (e ∙ sym (ap (λ (t : Bool). if t then record (entry_in states n) { deficit = (state_of n states).deficit - len } ∷ map (entry_in states) order
    else map (entry_in states) order ++ after_grants (quantum_of n (map class_in states)) 1 (entry_in states n) ∷ []) (lt-leb len (state_of n states).deficit short))) refl

pub front_deficit : (max_len turns : ℕ) (states : List NamedState) (order : List ℕ) (n len : ℕ) → slice_get order 0 ≡ Some n
    → turn_answer len (shown max_len turns states order).active ≡ (if nat_le len (state_of n states).deficit then Send else Granted)
front_deficit max_len turns states [] n len front = cc
front_deficit max_len turns states (m ∷ order) n len front = let e : m ≡ n = cc in ap (λ k. if nat_le len (state_of k states).deficit then Send else Granted) e

pub sent_front : (max_len turns len : ℕ) (states : List NamedState) (order : List ℕ) (n : ℕ) (new : NamedState) → slice_get order 0 ≡ Some n
    → AllDiffer order → StatesDiffer states → has_state n states ≡ true
    → len ≤ (state_of n states).deficit → new.name ≡ n → new.quantum ≡ (state_of n states).quantum → new.deficit ≡ (state_of n states).deficit - len → new.granted ≡ (state_of n states).granted
    → shown max_len (counted (turns + 1)) (with_state new states) order ≡ turned len (shown max_len turns states order)
sent_front max_len turns len states [] n new front apart differ there covers name quantum deficit granted = cc
sent_front max_len turns len states (m ∷ order) n new front apart differ there covers name quantum deficit granted =
    let e : n ≡ m = cc in
    subst (λ k. shown max_len (counted (turns + 1)) (with_state new states) (k ∷ order) ≡ turned len (shown max_len turns states (k ∷ order))) e
    (sent_shown max_len turns len states n order new differ there (ap (λ k. is_among k order) e ∙ apart.0) covers name quantum deficit granted)

pub granted_front : (max_len turns len : ℕ) (states : List NamedState) (order : List ℕ) (n : ℕ) (new : NamedState) → slice_get order 0 ≡ Some n
    → AllDiffer order → StatesDiffer states → has_state n states ≡ true
    → (state_of n states).deficit < len → new.name ≡ n → new.quantum ≡ (state_of n states).quantum → new.deficit ≡ (state_of n states).deficit + (state_of n states).quantum
    → new.granted ≡ counted ((state_of n states).granted + (state_of n states).quantum)
    → shown max_len (counted (turns + 1)) (with_state new states) (drop 1 order ++ take 1 order) ≡ turned len (shown max_len turns states order)
granted_front max_len turns len states [] n new front apart differ there short name quantum deficit granted = cc
granted_front max_len turns len states (m ∷ order) n new front apart differ there short name quantum deficit granted =
    let e : n ≡ m = cc in
    subst (λ k. shown max_len (counted (turns + 1)) (with_state new states) (order ++ k ∷ []) ≡ turned len (shown max_len turns states (k ∷ order))) e
    (granted_shown max_len turns len states n order new differ there (ap (λ k. is_among k order) e ∙ apart.0) short name quantum deficit granted)

-- `grant_front`
pub passed_shown : (max_len turns k : ℕ) (states : List NamedState) (n : ℕ) (order : List ℕ) (new : NamedState) → StatesDiffer states → has_state n states ≡ true → is_among n order ≡ false
    → new.name ≡ n → new.quantum ≡ (state_of n states).quantum → new.deficit ≡ (state_of n states).deficit + k * (state_of n states).quantum
    → new.granted ≡ counted ((state_of n states).granted + k * (state_of n states).quantum)
    → shown max_len (counted (turns + k)) (with_state new states) (order ++ n ∷ []) ≡ front_given k (shown max_len turns states (n ∷ order))
passed_shown max_len turns k states n order new differ there absent name quantum deficit granted =
    let one : quantum_of n (map class_in states) ≡ (state_of n states).quantum = quantum_in n states in
    let last : entry_in (with_state new states) n ≡ after_grants (quantum_of n (map class_in states)) k (entry_in states n) =
    entry_put new states n name there ∙ same_entry n _ _ _ _
    (deficit ∙ ap (λ (q : ℕ). (state_of n states).deficit + k * q) (sym one))
    (granted ∙ ap (λ (q : ℕ). counted ((state_of n states).granted + k * q)) (sym one)) in
    let e : map (entry_in (with_state new states)) (order ++ n ∷ []) ≡ map (entry_in states) order ++ after_grants (quantum_of n (map class_in states)) k (entry_in states n) ∷ [] =
    map-append (entry_in (with_state new states)) order (n ∷ [])
    ∙ ap (λ xs. xs ++ entry_in (with_state new states) n ∷ []) (entries_with new states order (ap (λ m. is_among m order) name ∙ absent))
    ∙ ap (λ x. map (entry_in states) order ++ x ∷ []) last in
    same_schedule max_len _ _ _ _ _ _ (classes_with new states differ (quantum ∙ ap (λ m. (state_of m states).quantum) (sym name))) e refl

pub passed_front : (max_len turns k : ℕ) (states : List NamedState) (order : List ℕ) (n : ℕ) (new : NamedState) → slice_get order 0 ≡ Some n
    → AllDiffer order → StatesDiffer states → has_state n states ≡ true
    → new.name ≡ n → new.quantum ≡ (state_of n states).quantum → new.deficit ≡ (state_of n states).deficit + k * (state_of n states).quantum
    → new.granted ≡ counted ((state_of n states).granted + k * (state_of n states).quantum)
    → shown max_len (counted (turns + k)) (with_state new states) (drop 1 order ++ take 1 order) ≡ front_given k (shown max_len turns states order)
passed_front max_len turns k states [] n new front apart differ there name quantum deficit granted = cc
passed_front max_len turns k states (m ∷ order) n new front apart differ there name quantum deficit granted =
    let e : n ≡ m = cc in
    subst (λ i. shown max_len (counted (turns + k)) (with_state new states) (order ++ i ∷ []) ≡ front_given k (shown max_len turns states (i ∷ order))) e
    (passed_shown max_len turns k states n order new differ there (ap (λ i. is_among i order) e ∙ apart.0) name quantum deficit granted)

-- the front as it is kept
pub front_can : (max_len turns k : ℕ) (states : List NamedState) (order : List ℕ) (n : ℕ) → slice_get order 0 ≡ Some n
    → All (IsWithin k max_len (map class_in states)) (take 1 (shown max_len turns states order).active)
    → (state_of n states).deficit + k * (state_of n states).quantum < (state_of n states).quantum + max_len
front_can max_len turns k states [] n front within = cc
front_can max_len turns k states (m ∷ order) n front within =
    let e : m ≡ n = cc in
    let first : IsWithin k max_len (map class_in states) (entry_in states m) = All-head (IsWithin k max_len (map class_in states)) (entry_in states m) [] within in
    let at : IsWithin k max_len (map class_in states) (entry_in states n) = subst (λ i. IsWithin k max_len (map class_in states) (entry_in states i)) e first in
    subst (λ (q : ℕ). (state_of n states).deficit + k * q < q + max_len) (quantum_in n states) at

pub front_needs : (max_len turns : ℕ) (states : List NamedState) (order : List ℕ) (n len : ℕ) → slice_get order 0 ≡ Some n
    → need_in len (map class_in states) (shown max_len turns states order).active ≡ grants_for (state_of n states).quantum (state_of n states).deficit (Some len)
front_needs max_len turns states [] n len front = cc
front_needs max_len turns states (m ∷ order) n len front =
    let e : m ≡ n = cc in
    ap (λ i. grants_for (quantum_of i (map class_in states)) (state_of i states).deficit (Some len)) e
    ∙ ap (λ (q : ℕ). grants_for q (state_of n states).deficit (Some len)) (quantum_in n states)
