-- Pieces of values that the same filters take: one more, and one filter more.
use Rattle.std.proofs.Common.{◌≡◌, ◌∙◌, ap, ap₂, zero, suc, ◌⊎◌, ℕ, ◌<◌, ◌≤◌, ◌-◌, ◌+◌, ◌^◌, sym, refl, subst, arith, inl, inr, List, [], ◌∷◌, ◌++◌, length, length-set, get_or, set, slice_get, Some}
use Rattle.std.specs.Prelude.{Bool, true, false, ◌==◌, ◌&&◌, ◌||◌, nat_le}
use Rattle.std.specs.List.{insert}
use Rattle.std.proofs.lemmas.Bool.{cases_lt, cases_eq, cases_order, eq-eqb, le-leb, lt-leb, ne_eqb}
use Rattle.std.proofs.lemmas.List.Sorted.{IsNonDecreasingBy-insert}
use Rattle.std.proofs.lemmas.Option.{get_or_from_slice_get, none-some, same_Some, slice_get-get_or, slice_get_within}
use Rattle.q_tree.specs.filters.FieldSets.{AreMarked, ArePieces, IsCutBy, IsFieldOf, IsInPiece, IsMarked, IsStart, is_in, start_of, takes_at}
use Rattle.q_tree.specs.filters.FilterSets.{holds}
use Rattle.q_tree.specs.declared.filters.field_sets.Piece.{Piece}
use Rattle.q_tree.specs.declared.filters.field_sets.Values.{Values}

-- what is where after an insertion
pub insert-below : {A : Type 0} (xs : List A) (k : ℕ) (y : A) (i : ℕ) → i < k → k ≤ length xs → slice_get (insert xs k y) i ≡ slice_get xs i
insert-below [] k y i low within = absurd (omega (arith, low, within))
insert-below (x ∷ xs) zero y i low within = absurd (omega (arith, low))
insert-below (x ∷ xs) (suc k) y zero low within = refl
insert-below (x ∷ xs) (suc k) y (suc i) low within = insert-below xs k y i (omega (arith, low)) (omega (arith, within))

pub insert-here : {A : Type 0} (xs : List A) (k : ℕ) (y : A) → k ≤ length xs → slice_get (insert xs k y) k ≡ Some y
insert-here xs zero y within = refl
insert-here [] (suc k) y within = absurd (omega (arith, within))
insert-here (x ∷ xs) (suc k) y within = insert-here xs k y (omega (arith, within))

pub insert-above : {A : Type 0} (xs : List A) (k : ℕ) (y : A) (h : ℕ) → k ≤ h → k ≤ length xs → slice_get (insert xs k y) (suc h) ≡ slice_get xs h
insert-above xs zero y h high within = refl
insert-above [] (suc k) y h high within = absurd (omega (arith, within))
insert-above (x ∷ xs) (suc k) y zero high within = absurd (omega (arith, high))
insert-above (x ∷ xs) (suc k) y (suc h) high within = insert-above xs k y h (omega (arith, high)) (omega (arith, within))

-- a piece that begins within another one
pub record IsWithin (xs : List Piece) (k : ℕ) (o y : Piece) : Type 0 where
  pub there : slice_get xs k ≡ Some o
  pub from : o.start ≤ y.start
  pub takers : y.takers ≡ o.takers
  pub before : (q : Piece) → slice_get xs (suc k) ≡ Some q → y.start < q.start

pub field-insert : (xs : List Piece) (k : ℕ) (o y : Piece) (ranges : List Values) → IsWithin xs k o y → IsFieldOf xs ranges → IsFieldOf (insert xs (suc k) y) ranges
field-insert xs k o y ranges w field = record { right = right }
  where
    long : suc k ≤ length xs
    long = omega (arith, slice_get_within xs k o w.there)

    right : (i j x : ℕ) (p : Piece) → IsInPiece (insert xs (suc k) y) i x p → x < 2 ^ 128 → holds p.takers j ≡ takes_at ranges j x
    right i j x p inp low = by (cases_order i (suc k))
      where
        before_it : i ≤ k → (q : Piece) → slice_get xs (suc i) ≡ Some q → x < q.start
        before_it early q e = on (cases_lt i k)
          where
            on : (i < k) ⊎ (k ≤ i) → x < q.start
            on (inl less_) = inp.before q (insert-below xs (suc k) y (suc i) (omega (arith, less_)) long ∙ e)
            on (inr more) =
                let same : i ≡ k = omega (arith, early, more) in
                let first : x < y.start = inp.before y (ap (slice_get (insert xs (suc k) y)) (ap suc same) ∙ insert-here xs (suc k) y long) in
                let second : y.start < q.start = w.before q (ap (slice_get xs) (ap suc (sym same)) ∙ e) in
                omega (arith, first, second)

        by : (i ≡ suc k) ⊎ ((i < suc k) ⊎ (suc k < i)) → holds p.takers j ≡ takes_at ranges j x
        by (inl same) =
            let is : y ≡ p = same_Some y p (sym (insert-here xs (suc k) y long) ∙ ap (slice_get (insert xs (suc k) y)) (sym same) ∙ inp.there) in
            let start : y.start ≤ x = subst (λ (r : Piece). r.start ≤ x) (sym is) inp.from in
            let old : holds o.takers j ≡ takes_at ranges j x = field.right k j x o record {
              there = w.there;
              from = omega (arith, start, w.from);
              before = λ q e. inp.before q (ap (slice_get (insert xs (suc k) y)) (ap suc same) ∙ insert-above xs (suc k) y (suc k) (omega arith) long ∙ e);
            } low in
            ap (λ (r : Piece). holds r.takers j) (sym is) ∙ ap (λ s. holds s j) w.takers ∙ old
        by (inr (inl early)) =
            field.right i j x p record {
              there = sym (insert-below xs (suc k) y i early long) ∙ inp.there;
              from = inp.from;
              before = before_it (omega (arith, early));
            } low
        by (inr (inr late)) =
            let h : ℕ = i - 1 in
            let one : i ≡ suc h = omega (arith, late) in
            let behind : suc k ≤ h = omega (arith, late) in
            field.right h j x p record {
              there = sym (insert-above xs (suc k) y h behind long) ∙ ap (slice_get (insert xs (suc k) y)) (sym one) ∙ inp.there;
              from = inp.from;
              before = λ q e. inp.before q (ap (slice_get (insert xs (suc k) y)) (ap suc one) ∙ insert-above xs (suc k) y (suc h) (omega (arith, behind)) long ∙ e);
            } low

pub pieces-insert : (xs : List Piece) (k : ℕ) (o y : Piece) → IsWithin xs k o y → ArePieces xs → ArePieces (insert xs (suc k) y)
pieces-insert xs k o y w are = record {
  some = omega (arith, slice_get_within (insert xs (suc k) y) (suc k) y (insert-here xs (suc k) y long));
  begins = λ p e. are.begins p (sym (insert-below xs (suc k) y 0 (omega arith) long) ∙ e);
  rising = IsNonDecreasingBy-insert start_of xs (suc k) y are.rising long low high;
}
  where
    inside : k < length xs
    inside = slice_get_within xs k o w.there

    long : suc k ≤ length xs
    long = omega (arith, inside)

    low : (m : ℕ) (d : Piece) → m < suc k → start_of (get_or xs m d) ≤ start_of y
    low m d under =
        let at_o : get_or xs k d ≡ o = get_or_from_slice_get xs k o d w.there in
        let up : start_of (get_or xs m d) ≤ start_of (get_or xs k d) = are.rising m k d (omega (arith, under)) inside in
        omega (arith, up, ap start_of at_o, w.from)

    high : (m : ℕ) (d : Piece) → suc k ≤ m → m < length xs → start_of y ≤ start_of (get_or xs m d)
    high m d over under =
        let next : slice_get xs (suc k) ≡ Some (get_or xs (suc k) d) = slice_get-get_or xs (suc k) d (omega (arith, over, under)) in
        let up : start_of (get_or xs (suc k) d) ≤ start_of (get_or xs m d) = are.rising (suc k) m d over under in
        omega (arith, up, w.before (get_or xs (suc k) d) next)

pub start-insert : (xs : List Piece) (k : ℕ) (o y : Piece) (x : ℕ) → IsWithin xs k o y → IsStart xs x → IsStart (insert xs (suc k) y) x
start-insert xs k o y x w s = by (cases_lt s.place (suc k))
  where
    long : suc k ≤ length xs
    long = omega (arith, slice_get_within xs k o w.there)

    by : (s.place < suc k) ⊎ (suc k ≤ s.place) → IsStart (insert xs (suc k) y) x
    by (inl low) = record { place = s.place; piece = s.piece; there = insert-below xs (suc k) y s.place low long ∙ s.there; starts = s.starts }
    by (inr high) = record { place = suc s.place; piece = s.piece; there = insert-above xs (suc k) y s.place high long ∙ s.there; starts = s.starts }

pub start-inserted : (xs : List Piece) (k : ℕ) (o y : Piece) → IsWithin xs k o y → IsStart (insert xs (suc k) y) y.start
start-inserted xs k o y w = record {
  place = suc k;
  piece = y;
  there = insert-here xs (suc k) y (omega (arith, slice_get_within xs k o w.there));
  starts = refl;
}

-- in the order of places
pub starts-rise : (xs : List Piece) (i m : ℕ) (p q : Piece) → ArePieces xs → i ≤ m → slice_get xs i ≡ Some p → slice_get xs m ≡ Some q → p.start ≤ q.start
starts-rise xs i m p q are up at_i at_m =
    omega (arith, are.rising i m p up (slice_get_within xs m q at_m), ap start_of (get_or_from_slice_get xs i p p at_i), ap start_of (get_or_from_slice_get xs m q p at_m))

-- no value of a piece is on another side of a start than the piece's own start
pub start-splits : (xs : List Piece) (i x c : ℕ) (o : Piece) → ArePieces xs → IsStart xs c → IsInPiece xs i x o → c ≤ x → c ≤ o.start
start-splits xs i x c o are s inp over = by (cases_lt i s.place)
  where
    by : (i < s.place) ⊎ (s.place ≤ i) → c ≤ o.start
    by (inl before) =
        let q : Piece = get_or xs (suc i) o in
        let at_q : slice_get xs (suc i) ≡ Some q = slice_get-get_or xs (suc i) o (omega (arith, before, slice_get_within xs s.place s.piece s.there)) in
        let up : q.start ≤ s.piece.start = starts-rise xs (suc i) s.place q s.piece are (omega (arith, before)) at_q s.there in
        absurd (omega (arith, up, s.starts, inp.before q at_q, over))
    by (inr behind) = omega (arith, s.starts, starts-rise xs s.place i s.piece o are behind s.there inp.there)

-- a test of numbers is the same where one holds if and only if the other does
pub same_test : (a b c d : ℕ) → (a ≤ b → c ≤ d) → (c ≤ d → a ≤ b) → nat_le a b ≡ nat_le c d
same_test a b c d to from = by (cases_lt b a)
  where
    by : (b < a) ⊎ (a ≤ b) → nat_le a b ≡ nat_le c d
    by (inl past) = on (cases_lt d c)
      where
        on : (d < c) ⊎ (c ≤ d) → nat_le a b ≡ nat_le c d
        on (inl over) = lt-leb a b past ∙ sym (lt-leb c d over)
        on (inr under) = absurd (omega (arith, past, from under))
    by (inr within) = le-leb a b within ∙ sym (le-leb c d (to within))

-- a piece of these values is of them as a whole
pub whole : (xs : List Piece) (v : Values) (i x : ℕ) (o : Piece) → ArePieces xs → IsCutBy xs v → IsInPiece xs i x o → x < 2 ^ 128 → is_in v o.start ≡ is_in v x
whole xs v i x o are cut inp low =
    ap₂ (λ a b. a && b)
    (same_test v.first o.start v.first x (λ h. omega (arith, h, inp.from)) (start-splits xs i x v.first o are cut.first inp))
    (same_test o.start v.last x v.last up (λ h. omega (arith, h, inp.from)))
  where
    up : o.start ≤ v.last → x ≤ v.last
    up h = by (cases_lt v.last x)
      where
        by : (v.last < x) ⊎ (x ≤ v.last) → x ≤ v.last
        by (inl past) = absurd (omega (arith, h, start-splits xs i x (suc v.last) o are (cut.last (omega (arith, past, low))) inp (omega (arith, past))))
        by (inr within) = within

or_false : (b : Bool) → (b || false) ≡ b
or_false true = refl
or_false false = refl

same_suc : (a b : ℕ) → (suc a == suc b) ≡ (a == b)
same_suc a b = by (cases_eq a b)
  where
    by : (a ≡ b) ⊎ (a ≡ b → ⊥) → (suc a == suc b) ≡ (a == b)
    by (inl same) = eq-eqb (suc a) (suc b) (ap suc same) ∙ sym (eq-eqb a b same)
    by (inr other) = ne_eqb (suc a) (suc b) (λ e. other (omega (arith, e))) ∙ sym (ne_eqb a b other)

-- one filter more takes what it takes, behind the others
pub takes_at-more : (ranges : List Values) (v : Values) (j x : ℕ) → ((j == length ranges && is_in v x) || takes_at ranges j x) ≡ takes_at (ranges ++ v ∷ []) j x
takes_at-more [] v zero x = or_false (is_in v x)
takes_at-more [] v (suc j) x = ap (λ b. (b && is_in v x) || false) (ne_eqb (suc j) 0 (λ e. omega (arith, e)))
takes_at-more (r ∷ ranges) v zero x = ap (λ b. (b && is_in v x) || is_in r x) (ne_eqb 0 (suc (length ranges)) (λ e. omega (arith, e)))
takes_at-more (r ∷ ranges) v (suc j) x = ap (λ b. (b && is_in v x) || takes_at ranges j x) (same_suc j (length ranges)) ∙ takes_at-more ranges v j x

pub field-marked : (xs ys : List Piece) (place : ℕ) (v : Values) (ranges : List Values) → ArePieces xs → IsCutBy xs v → AreMarked xs ys place v (length xs)
    → length ranges ≡ place → IsFieldOf xs ranges → IsFieldOf ys (ranges ++ v ∷ [])
field-marked xs ys place v ranges are cut marked long field = record { right = right }
  where
    right : (i j x : ℕ) (p : Piece) → IsInPiece ys i x p → x < 2 ^ 128 → holds p.takers j ≡ takes_at (ranges ++ v ∷ []) j x
    right i j x p inp low =
        let inside : i < length xs = omega (arith, slice_get_within ys i p inp.there, marked.long) in
        let o : Piece = get_or xs i p in
        let at_o : slice_get xs i ≡ Some o = slice_get-get_or xs i p inside in
        let one : IsMarked place v o p = marked.each i o p inside at_o inp.there in
        let old : IsInPiece xs i x o = record {
          there = at_o;
          from = omega (arith, inp.from, one.start);
          before = λ q e. next q e;
        } in
        one.takers j
        ∙ ap (λ b. (j == place && b) || holds o.takers j) (whole xs v i x o are cut old low)
        ∙ ap (λ b. (j == place && is_in v x) || b) (field.right i j x o old low)
        ∙ ap (λ n. (j == n && is_in v x) || takes_at ranges j x) (sym long)
        ∙ takes_at-more ranges v j x
      where
        next : (q : Piece) → slice_get xs (suc i) ≡ Some q → x < q.start
        next q e =
            let within : suc i < length xs = slice_get_within xs (suc i) q e in
            let r : Piece = get_or ys (suc i) q in
            let at_r : slice_get ys (suc i) ≡ Some r = slice_get-get_or ys (suc i) q (omega (arith, within, marked.long)) in
            omega (arith, inp.before r at_r, (marked.each (suc i) q r within e at_r).start)

pub pieces-marked : (xs ys : List Piece) (place : ℕ) (v : Values) → ArePieces xs → AreMarked xs ys place v (length xs) → ArePieces ys
pieces-marked xs ys place v are marked = record {
  some = omega (arith, are.some, marked.long);
  begins = λ p e. begins p e;
  rising = λ i j d up inside. rising i j d up inside;
}
  where
    same : (i : ℕ) (d : Piece) → i < length ys → start_of (get_or ys i d) ≡ start_of (get_or xs i d)
    same i d inside =
        (marked.each i (get_or xs i d) (get_or ys i d) (omega (arith, inside, marked.long)) (slice_get-get_or xs i d (omega (arith, inside, marked.long))) (slice_get-get_or ys i d inside)).start

    begins : (p : Piece) → slice_get ys 0 ≡ Some p → p.start ≡ 0
    begins p e =
        let inside : 0 < length ys = omega (arith, are.some, marked.long) in
        sym (ap start_of (get_or_from_slice_get ys 0 p p e)) ∙ same 0 p inside ∙ are.begins (get_or xs 0 p) (slice_get-get_or xs 0 p are.some)

    rising : (i j : ℕ) (d : Piece) → i ≤ j → j < length ys → start_of (get_or ys i d) ≤ start_of (get_or ys j d)
    rising i j d up inside =
        omega (arith, same i d (omega (arith, up, inside)), same j d inside, are.rising i j d up (omega (arith, inside, marked.long)))

-- what is where after a write
set-other : {A : Type 0} (xs : List A) (n : ℕ) (y : A) (i : ℕ) → (i ≡ n → ⊥) → slice_get (set xs n y) i ≡ slice_get xs i
set-other [] n y i other = refl
set-other (x ∷ xs) zero y zero other = absurd (other refl)
set-other (x ∷ xs) zero y (suc i) other = refl
set-other (x ∷ xs) (suc n) y zero other = refl
set-other (x ∷ xs) (suc n) y (suc i) other = set-other xs n y i (λ e. other (ap suc e))

set-here : {A : Type 0} (xs : List A) (n : ℕ) (y x : A) → slice_get xs n ≡ Some x → slice_get (set xs n y) n ≡ Some y
set-here [] n y x there = absurd (none-some x there)
set-here (z ∷ xs) zero y x there = refl
set-here (z ∷ xs) (suc n) y x there = set-here xs n y x there

-- no piece has the filter yet
pub marked-none : (xs : List Piece) (place : ℕ) (v : Values) → AreMarked xs xs place v 0
marked-none xs place v = record { long = refl; each = λ i o p low at_o at_p. absurd (omega (arith, low)); others = λ i h. refl }

-- one piece more has it
pub marked-more : (xs ys : List Piece) (place : ℕ) (v : Values) (n : ℕ) (o q : Piece) → slice_get ys n ≡ Some o → IsMarked place v o q
    → AreMarked xs ys place v n → AreMarked xs (set ys n q) place v (n + 1)
marked-more xs ys place v n o q at_o one marked = record {
  long = length-set ys n q ∙ marked.long;
  each = each;
  others = λ i high. set-other ys n q i (λ e. omega (arith, e, high)) ∙ marked.others i (omega (arith, high));
}
  where
    each : (i : ℕ) (a b : Piece) → i < n + 1 → slice_get xs i ≡ Some a → slice_get (set ys n q) i ≡ Some b → IsMarked place v a b
    each i a b low at_a at_b = by (cases_eq i n)
      where
        by : (i ≡ n) ⊎ (i ≡ n → ⊥) → IsMarked place v a b
        by (inl same) =
            let old : a ≡ o = same_Some a o (sym at_a ∙ sym (marked.others i (omega (arith, same))) ∙ ap (slice_get ys) same ∙ at_o) in
            let new : b ≡ q = same_Some b q (sym at_b ∙ ap (slice_get (set ys n q)) same ∙ set-here ys n q o at_o) in
            subst (λ x. IsMarked place v x b) (sym old) (subst (λ x. IsMarked place v o x) (sym new) one)
        by (inr other) = marked.each i a b (omega (arith, low, other)) at_a (sym (set-other ys n q i other) ∙ at_b)

-- of no filter
pub field-none : (xs : List Piece) (p : Piece) → xs ≡ p ∷ [] → ((j : ℕ) → holds p.takers j ≡ false) → IsFieldOf xs []
field-none xs p one none = record { right = right }
  where
    right : (i j x : ℕ) (q : Piece) → IsInPiece xs i x q → x < 2 ^ 128 → holds q.takers j ≡ takes_at [] j x
    right zero j x q inp low = ap (λ (r : Piece). holds r.takers j) (same_Some q p (sym inp.there ∙ ap (λ ys. slice_get ys 0) one)) ∙ none j
    right (suc i) j x q inp low = absurd (none-some q (sym (ap (λ ys. slice_get ys (suc i)) one) ∙ inp.there))
