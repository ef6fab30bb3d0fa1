-- Paths along links, and what a new link makes of a circle.
use Rattle.std.proofs.Common.{◌≡◌, ℕ, zero, suc, ◌+◌, ◌<◌, ◌≤◌, Bool, true, false, eqb, ◌||◌, List, [], ◌∷◌, ◌++◌, length, refl, sym, ap, ◌∙◌, subst, inl, inr, arith, eq-eqb, append_assoc, add-one, take, drop, ◌-◌, ◌≢◌, ◌^◌, length-append, replicate}
use Rattle.std.proofs.Math.ListN.{length-replicate}
use Rattle.std.specs.Prelude.{if◌then◌else◌, slice_get, slice_index_or, Some}
use Rattle.std.proofs.lemmas.Option.{same_Some}
use Rattle.std.proofs.lemmas.Bool.{eqb-true, false≢true, or_parts, or_from, cases_Bool, cases_lt, false_from_ne_true}
use Rattle.std.proofs.lemmas.List.{append-nil, length_push, get_or_append_left, get_or-append_right, take_all}
use Rattle.std.specs.List.{All}
use Rattle.std.proofs.lemmas.List.Elements.{All-head, All-tail, All-push, All-weaker, All-replicate}
use Rattle.q_drr.specs.declared.ring.Link.{Link}
use Rattle.q_drr.specs.Links.{Circle, no_link, without, is_among, walk, IsPath, IsClosed, IsCircle, IsJoined, IsMarked, next_of, before_of}
use Rattle.q_drr.proofs.DifferLemmas.{AllDiffer, numbers_apart, numbers_differ_from}
use Rattle.q_drr.proofs.NameLemmas.{differ_by_member, eqb_swap, among_itself, among_rotated, differ_push, differ_rotated, each_at, place_of, is_among-append, or_right, or_middle}

if_true : (t : Bool) (x y z : ℕ) → z ≡ (if t then x else y) → t ≡ true → z ≡ x
if_true true x y z e p = e
if_true false x y z e p = absurd (false≢true p)

if_false : (t : Bool) (x y z : ℕ) → z ≡ (if t then x else y) → t ≡ false → z ≡ y
if_false true x y z e p = absurd (false≢true (sym p))
if_false false x y z e p = e

last_of : ℕ → List ℕ → ℕ
last_of a [] = a
last_of a (n ∷ ns) = last_of n ns

last_among : (a : ℕ) (ns : List ℕ) → is_among (last_of a ns) (a ∷ ns) ≡ true
unfolding last_of
last_among a [] = among_itself a []
last_among a (n ∷ ns) = or_right (eqb (last_of n ns) a) _ (last_among n ns)

path_last : (nx bf : ℕ → ℕ) (a : ℕ) (ns : List ℕ) (b : ℕ) → IsPath nx bf a ns b → bf b ≡ last_of a ns
unfolding last_of
path_last nx bf a [] b p = p.1
path_last nx bf a (n ∷ ns) b p = path_last nx bf n ns b p.2

walk_path : (nx bf : ℕ → ℕ) (a : ℕ) (ns : List ℕ) (b : ℕ) → IsPath nx bf a ns b → walk nx (length ns) (nx a) ≡ ns
walk_path nx bf a [] b p = refl
walk_path nx bf a (n ∷ ns) b p =
    ap (λ m. m ∷ walk nx (length ns) (nx m)) p.0 ∙ ap (λ ms. n ∷ ms) (walk_path nx bf n ns b p.2)

IsPath_joined : (nx bf : ℕ → ℕ) (a : ℕ) (ns : List ℕ) (c : ℕ) (ms : List ℕ) (b : ℕ) → IsPath nx bf a ns c → IsPath nx bf c ms b → IsPath nx bf a (ns ++ c ∷ ms) b
IsPath_joined nx bf a [] c ms b p q = (p.0, p.1, q)
IsPath_joined nx bf a (n ∷ ns) c ms b p q = (p.0, p.1, IsPath_joined nx bf n ns c ms b p.2 q)

-- links that agree at each member lead the same way
path_same : (nx bf nx' bf' : ℕ → ℕ) (a : ℕ) (ns : List ℕ) (b : ℕ)
    → ((m : ℕ) → is_among m (a ∷ ns) ≡ true → nx' m ≡ nx m) → ((m : ℕ) → is_among m (b ∷ ns) ≡ true → bf' m ≡ bf m)
    → IsPath nx bf a ns b → IsPath nx' bf' a ns b
path_same nx bf nx' bf' a [] b nexts befores p = (nexts a (among_itself a []) ∙ p.0, befores b (among_itself b []) ∙ p.1)
path_same nx bf nx' bf' a (n ∷ ns) b nexts befores p = (
  nexts a (among_itself a (n ∷ ns)) ∙ p.0,
  befores n (or_right (eqb n b) _ (among_itself n ns)) ∙ p.1,
  path_same nx bf nx' bf' n ns b (λ m h. nexts m (or_right (eqb m a) _ h)) (λ m h. befores m (or_middle (eqb m b) (eqb m n) (is_among m ns) h)) p.2,
)

-- the last of a path is led to another number than before
path_redirected : (nx bf nx' bf' : ℕ → ℕ) (a : ℕ) (ns : List ℕ) (c b l : ℕ) → l ≡ last_of a ns
    → ((m : ℕ) → nx' m ≡ (if eqb m l then b else nx m)) → ((m : ℕ) → bf' m ≡ (if eqb m b then l else bf m))
    → AllDiffer (a ∷ ns) → is_among b ns ≡ false → IsPath nx bf a ns c → IsPath nx' bf' a ns b
unfolding last_of
path_redirected nx bf nx' bf' a [] c b l is nexts befores d absent p = (
  if_true _ _ _ _ (nexts a) (eq-eqb a l (sym is)),
  if_true _ _ _ _ (befores b) (eq-eqb b b refl) ∙ is,
)
path_redirected nx bf nx' bf' a (n ∷ ns) c b l is nexts befores d absent p =
    let parts = or_parts (eqb b n) (is_among b ns) absent in
    let last : is_among l (n ∷ ns) ≡ true = ap (λ k. is_among k (n ∷ ns)) is ∙ last_among n ns in (
      if_false _ _ _ _ (nexts a) (differ_by_member a l (n ∷ ns) last d.0) ∙ p.0,
      if_false _ _ _ _ (befores n) (eqb_swap b n parts.0) ∙ p.1,
      path_redirected nx bf nx' bf' n ns c b l is nexts befores d.1 parts.1 p.2,
    )

-- the members of a circle, as a walk along its links
pub circle_walk : (links : List Link) (n : ℕ) (ns : List ℕ) → IsCircle links (n ∷ ns) → walk (next_of links) (suc (length ns)) n ≡ n ∷ ns
circle_walk links n ns h = ap (λ ms. n ∷ ms) (walk_path (next_of links) (before_of links) n ns n h.closed)

pub length-walk : (nx : ℕ → ℕ) (count n : ℕ) → length (walk nx count n) ≡ count
length-walk nx zero n = refl
length-walk nx (suc count) n = ap suc (length-walk nx count (nx n))

-- the link of a member leads to the next one
pub walk-next : (nx : ℕ → ℕ) (count n k p : ℕ) → slice_get (walk nx count n) k ≡ Some p → suc k < count
    → slice_get (walk nx count n) (suc k) ≡ Some (nx p)
walk-next nx zero n k p e less = absurd (omega (arith, less))
walk-next nx (suc zero) n k p e less = absurd (omega (arith, less))
walk-next nx (suc (suc count)) n zero p e less = ap (λ m. Some (nx m)) (same_Some n p e)
walk-next nx (suc (suc count)) n (suc k) p e less = walk-next nx (suc count) (nx n) k p e (omega (arith, less))

-- the link of the last member leads to the first one
path-last : (nx bf : ℕ → ℕ) (a : ℕ) (ns : List ℕ) (b : ℕ) → IsPath nx bf a ns b → (k p : ℕ) → slice_get (a ∷ ns) k ≡ Some p
    → suc k ≡ length (a ∷ ns) → nx p ≡ b
path-last nx bf a [] b path zero p e last = ap nx (sym (same_Some a p e)) ∙ path.0
path-last nx bf a [] b path (suc k) p e last = absurd (omega (arith, last))
path-last nx bf a (n ∷ ns) b path zero p e last = absurd (omega (arith, last))
path-last nx bf a (n ∷ ns) b path (suc k) p e last = path-last nx bf n ns b path.2 k p e (omega (arith, last))

pub circle-last : (links : List Link) (ns : List ℕ) → IsCircle links ns → (k p : ℕ) → slice_get ns k ≡ Some p → suc k ≡ length ns
    → slice_get ns 0 ≡ Some (next_of links p)
circle-last links [] c k p e last = absurd (omega (arith, last))
circle-last links (n ∷ ns) c k p e last = ap Some (sym (path-last (next_of links) (before_of links) n ns n c.closed k p e last))

-- links that make a circle of a list are a walk along it
pub circle_walks : (links : List Link) (ns : List ℕ) (count front : ℕ) → IsCircle links ns → length ns ≡ count
    → ((m : ℕ) (ms : List ℕ) → ns ≡ m ∷ ms → front ≡ m) → walk (next_of links) count front ≡ ns
circle_walks links [] count front h len head = ap (λ k. walk (next_of links) k front) (sym len)
circle_walks links (n ∷ ns) count front h len head =
    ap (λ k. walk (next_of links) k front) (sym len) ∙ ap (λ m. walk (next_of links) (suc (length ns)) m) (head n ns refl) ∙ circle_walk links n ns h

closed_rotated : (nx bf : ℕ → ℕ) (n : ℕ) (ns : List ℕ) → IsClosed nx bf (n ∷ ns) → IsClosed nx bf (ns ++ n ∷ [])
closed_rotated nx bf n [] h = h
closed_rotated nx bf n (m ∷ ms) h = IsPath_joined nx bf m ms n [] m h.2 (h.0, h.1)

circle_rotated : (links : List Link) (n : ℕ) (ns : List ℕ) → IsCircle links (n ∷ ns) → IsCircle links (ns ++ n ∷ [])
circle_rotated links n ns h = record {
  room = h.room;
  differ = numbers_differ_from (ns ++ n ∷ []) (differ_rotated n ns (numbers_apart (n ∷ ns) h.differ));
  inside = All-push (λ m. m < length links) ns n (All-tail (λ m. m < length links) n ns h.inside) (All-head (λ m. m < length links) n ns h.inside);
  closed = closed_rotated (next_of links) (before_of links) n ns h.closed;
  members = λ m below. h.members m below ∙ sym (among_rotated m n ns);
}

pub circle_swapped : (links : List Link) (ns ms : List ℕ) → IsCircle links (ns ++ ms) → IsCircle links (ms ++ ns)
circle_swapped links [] ms h = subst (λ ks. IsCircle links ks) (sym (append-nil ms)) h
circle_swapped links (n ∷ ns) ms h =
    let turned : IsCircle links ((ns ++ ms) ++ n ∷ []) = circle_rotated links n (ns ++ ms) h in
    let joined : IsCircle links (ns ++ (ms ++ n ∷ [])) = subst (λ ks. IsCircle links ks) (append_assoc ns ms (n ∷ [])) turned in
    subst (λ ks. IsCircle links ks) (append_assoc ms (n ∷ []) ns) (circle_swapped links ns (ms ++ n ∷ []) joined)

-- `rotate`
pub circle_turns : (links : List Link) (count front : ℕ) → IsCircle links (walk (next_of links) count front) → 0 < count
    → (walk (next_of links) count (next_of links front) ≡ drop 1 (walk (next_of links) count front) ++ take 1 (walk (next_of links) count front))
    × IsCircle links (walk (next_of links) count (next_of links front))
circle_turns links zero front h some = absurd (omega arith)
circle_turns links (suc zero) front h some =
    let same : next_of links front ≡ front = h.closed.0 in
    let e : walk (next_of links) 1 (next_of links front) ≡ front ∷ [] = ap (λ m. m ∷ []) same in
    (e, subst (λ ks. IsCircle links ks) (sym e) h)
circle_turns links (suc (suc k)) front h some =
    let nx = next_of links in
    let ns : List ℕ = walk nx (suc k) (nx front) in
    let turned : IsCircle links (ns ++ front ∷ []) = circle_rotated links front ns h in
    let e : walk nx (suc (suc k)) (nx front) ≡ ns ++ front ∷ [] =
    circle_walks links (ns ++ front ∷ []) (suc (suc k)) (nx front) turned
    (length_push ns front ∙ add-one (length ns) ∙ ap suc (length-walk nx (suc k) (nx front)))
    (λ m ms q. cc) in
    (e, subst (λ ks. IsCircle links ks) (sym e) turned)

below_same : (old new : List Link) (ns : List ℕ) → length new ≡ length old → All (λ n. n < length old) ns → All (λ n. n < length new) ns
below_same old new ns e h = subst (λ k. All (λ n. n < k) ns) (sym e) h

if_or : (t b : Bool) → (if t then true else b) ≡ (t || b)
if_or true b = refl
if_or false b = refl

-- who is a member once n is marked
members_more : (m n : ℕ) (ns : List ℕ) (old new : Bool) → new ≡ (if eqb m n then true else old) → old ≡ is_among m ns → new ≡ is_among m (n ∷ ns)
members_more m n ns old new e f = e ∙ ap (λ b. if eqb m n then true else b) f ∙ if_or (eqb m n) (is_among m ns)

-- one more member, behind the last
pub circle_grown : (links joined closed marked : List Link) (first : ℕ) (ns : List ℕ) (n : ℕ) → IsCircle links (first ∷ ns)
    → IsJoined links joined (before_of links first) n → IsJoined joined closed n first → IsMarked closed marked n true
    → n < length links → is_among n (first ∷ ns) ≡ false → IsCircle marked ((first ∷ ns) ++ n ∷ [])
circle_grown links joined closed marked first ns n h j i k below absent =
    let parts = or_parts (eqb n first) (is_among n ns) absent in
    let differ : AllDiffer (first ∷ ns) = numbers_apart (first ∷ ns) h.differ in
    let l = path_last (next_of links) (before_of links) first ns first h.closed in
    let there : IsPath (next_of joined) (before_of joined) first ns n =
    path_redirected (next_of links) (before_of links) (next_of joined) (before_of joined) first ns first n (before_of links first) l j.next j.before differ parts.1 h.closed in
    let whole : IsPath (next_of marked) (before_of marked) first ns n =
    path_same (next_of joined) (before_of joined) (next_of marked) (before_of marked) first ns n
    (λ m q. k.next m ∙ if_false _ _ _ _ (i.next m) (eqb_swap n m (differ_by_member n m (first ∷ ns) q absent)))
    (λ m q. k.before m ∙ if_false _ _ _ _ (i.before m)
    (eqb_swap first m (differ_by_member first m (n ∷ ns) q (or_from (eqb first n) (is_among first ns) (eqb_swap n first parts.0) differ.0))))
    there in
    record {
      room = omega (arith, h.room, j.len, i.len, k.len);
      differ = numbers_differ_from ((first ∷ ns) ++ n ∷ []) (differ_push n (first ∷ ns) differ absent);
      inside = All-push (λ m. m < length marked) (first ∷ ns) n (below_same links marked (first ∷ ns) (k.len ∙ i.len ∙ j.len) h.inside) (omega (arith, j.len, i.len, k.len));
      closed = IsPath_joined (next_of marked) (before_of marked) first ns n [] first whole (
        k.next n ∙ if_true _ _ _ _ (i.next n) (eq-eqb n n refl),
        k.before first ∙ if_true _ _ _ _ (i.before first) (eq-eqb first first refl),
      );
      members = λ m q. members_more m n (first ∷ ns) _ _ (k.changed m) (i.here m ∙ j.here m ∙ h.members m (omega (arith, j.len, i.len, k.len))) ∙ sym (among_rotated m n (first ∷ ns));
    }

-- the front taken out
members_less : (m n : ℕ) (ns : List ℕ) (old new : Bool) → is_among n ns ≡ false → new ≡ (if eqb m n then false else old) → old ≡ is_among m (n ∷ ns) → new ≡ is_among m ns
members_less m n ns old new absent e f = elim (cases_Bool (eqb m n)) [
  | inl q ↦ e ∙ ap (λ t. if t then false else old) q ∙ sym absent ∙ ap (λ k. is_among k ns) (sym (eqb-true m n q))
  | inr q ↦ e ∙ ap (λ t. if t then false else old) q ∙ f ∙ ap (λ t. t || is_among m ns) q
]

closed_without : (links joined marked : List Link) (n : ℕ) (ns : List ℕ) → IsCircle links (n ∷ ns)
    → IsJoined links joined (before_of links n) (next_of links n) → IsMarked joined marked n false → IsClosed (next_of marked) (before_of marked) ns
unfolding last_of
closed_without links joined marked n [] h j k = tt
closed_without links joined marked n (m ∷ ms) h j k =
    let nx = next_of links in
    let bf = before_of links in
    let l = path_last nx bf n (m ∷ ms) n h.closed in
    let first : nx n ≡ m = h.closed.0 in
    let differ : AllDiffer (n ∷ m ∷ ms) = numbers_apart (n ∷ m ∷ ms) h.differ in
    let nexts : (q : ℕ) → next_of marked q ≡ (if eqb q (bf n) then m else nx q) =
    λ q. k.next q ∙ j.next q ∙ ap (λ r. if eqb q (bf n) then r else nx q) first in
    let befores : (q : ℕ) → before_of marked q ≡ (if eqb q m then bf n else bf q) =
    λ q. k.before q ∙ j.before q ∙ ap (λ r. if eqb q r then bf n else bf q) first in
    path_redirected nx bf (next_of marked) (before_of marked) m ms n m (bf n) l nexts befores differ.1 differ.1.0 h.closed.2

pub circle_without : (links joined marked : List Link) (n : ℕ) (ns : List ℕ) → IsCircle links (n ∷ ns)
    → IsJoined links joined (before_of links n) (next_of links n) → IsMarked joined marked n false → IsCircle marked ns
circle_without links joined marked n ns h j k = record {
  room = omega (arith, h.room, j.len, k.len);
  differ = numbers_differ_from ns (numbers_apart (n ∷ ns) h.differ).1;
  inside = below_same links marked ns (k.len ∙ j.len) (All-tail (λ m. m < length links) n ns h.inside);
  closed = closed_without links joined marked n ns h j k;
  members = λ m q. members_less m n ns _ _ (numbers_apart (n ∷ ns) h.differ).0 (k.changed m) (j.here m ∙ h.members m (omega (arith, j.len, k.len)));
}

pub front_inside : (links : List Link) (count front : ℕ) → IsCircle links (walk (next_of links) count front) → 0 < count → front < length links
front_inside links zero front h some = absurd (omega arith)
front_inside links (suc k) front h some = All-head (λ m. m < length links) front (walk (next_of links) k (next_of links front)) h.inside

pub same_circle : (ns ms : List ℕ) (room next_room : ℕ) → ns ≡ ms → room ≡ next_room → ◌≡◌ {A = Circle} (record { order = ns; room = room }) (record { order = ms; room = next_room })
same_circle ns ms room next_room e f = cc

-- the neighbours of a member are within the links
pub near : (links : List Link) (n : ℕ) (ns : List ℕ) → IsCircle links (n ∷ ns) → (next_of links n < length links) × (before_of links n < length links)
unfolding last_of
near links n [] h =
    let itself : n < length links = All-head (λ m. m < length links) n [] h.inside in
    (subst (λ m. m < length links) (sym h.closed.0) itself, subst (λ m. m < length links) (sym h.closed.1) itself)
near links n (m ∷ ms) h = (
  subst (λ k. k < length links) (sym h.closed.0) (each_at (λ k. k < length links) m (n ∷ m ∷ ms) h.inside (or_right (eqb m n) _ (among_itself m ms))),
  subst (λ k. k < length links) (sym (path_last (next_of links) (before_of links) n (m ∷ ms) n h.closed))
      (each_at (λ k. k < length links) (last_of n (m ∷ ms)) (n ∷ m ∷ ms) h.inside (last_among n (m ∷ ms))),
)

-- a member brought to the front
brought : (links : List Link) (n : ℕ) (ns front rest : List ℕ) → IsCircle links ns → ns ≡ front ++ n ∷ rest → IsCircle links (n ∷ (rest ++ front))
brought links n ns front rest h e = circle_swapped links front (n ∷ rest) (subst (λ ks. IsCircle links ks) e h)

pub record Neighbours (links : List Link) (n : ℕ) : Type 0 where
  pub itself : n < length links
  pub next : next_of links n < length links
  pub before : before_of links n < length links

pub neighbours : (links : List Link) (n : ℕ) (ns : List ℕ) → IsCircle links ns → is_among n ns ≡ true → Neighbours links n
neighbours links n ns h there =
    let p = place_of n ns (numbers_apart ns h.differ) there in
    let b = near links n (p.rest ++ p.front) (brought links n ns p.front p.rest h p.is) in
    record { itself = each_at (λ k. k < length links) n ns h.inside there; next = b.0; before = b.1 }

-- links whose circle is the old walk make that walk
pub circle_rewalks : (links new : List Link) (count front : ℕ) → IsCircle new (walk (next_of links) count front)
    → walk (next_of new) count front ≡ walk (next_of links) count front
circle_rewalks links new zero front h = refl
circle_rewalks links new (suc k) front h =
    circle_walks new (front ∷ walk (next_of links) k (next_of links front)) (suc k) front h (ap suc (length-walk (next_of links) k (next_of links front))) (λ m ms e. cc)

-- `push`
pub circle_pushed : (links new : List Link) (count front n : ℕ) → IsCircle links (walk (next_of links) count front) → 0 < count
    → is_among n (walk (next_of links) count front) ≡ false
    → ((ns : List ℕ) → IsCircle links (front ∷ ns) → is_among n (front ∷ ns) ≡ false → IsCircle new (front ∷ ns ++ n ∷ []))
    → (walk (next_of new) (count + 1) front ≡ walk (next_of links) count front ++ n ∷ []) × IsCircle new (walk (next_of new) (count + 1) front)
circle_pushed links new zero front n h some absent grown = absurd (omega arith)
circle_pushed links new (suc k) front n h some absent grown =
    let ns : List ℕ = walk (next_of links) k (next_of links front) in
    let more = grown ns h absent in
    let e : walk (next_of new) (suc k + 1) front ≡ front ∷ ns ++ n ∷ [] =
    circle_walks new (front ∷ ns ++ n ∷ []) (suc k + 1) front more
    (length_push (front ∷ ns) n ∙ ap (λ m. suc m + 1) (length-walk (next_of links) k (next_of links front)))
    (λ m ms q. cc) in
    (e, subst (λ ks. IsCircle new ks) (sym e) more)

-- `remove`, where the member stands between these
removed_front : (links : List Link) (n first moved : ℕ) (front rest : List ℕ) (count first_old : ℕ)
    → IsCircle links (front ++ n ∷ rest) → walk (next_of links) count first_old ≡ front ++ n ∷ rest
    → (first_old ≡ n → moved ≡ next_of links n) → (first_old ≢ n → moved ≡ first_old)
    → (m : ℕ) (ms : List ℕ) → front ++ rest ≡ m ∷ ms → moved ≡ m
removed_front links n first moved front rest zero old h w same other m ms e = elim front as (λ f. [] ≡ f ++ n ∷ rest → moved ≡ m) [ [] ↦ λ q. cc | x ∷ xs ↦ λ q. cc ] w
removed_front links n first moved [] [] (suc k) old h w same other m ms e = cc
removed_front links n first moved [] (r ∷ rs) (suc k) old h w same other m ms e =
    let front_is : old ≡ n = cc in
    let after : next_of links n ≡ r = h.closed.0 in
    let head : r ≡ m = cc in
    same front_is ∙ after ∙ head
removed_front links n first moved (x ∷ xs) rest (suc k) old h w same other m ms e =
    let front_is : old ≡ x = cc in
    let head : x ≡ m = cc in
    let apart : eqb x n ≡ false =
    differ_by_member x n (xs ++ n ∷ rest) (is_among-append n xs (n ∷ rest) ∙ or_right (is_among n xs) _ (among_itself n rest))
    (numbers_apart (x ∷ xs ++ n ∷ rest) h.differ).0 in
    other (λ q. false≢true (sym apart ∙ eq-eqb x n (sym front_is ∙ q))) ∙ front_is ∙ head

pub circle_removed : (links new : List Link) (count front moved n : ℕ) → IsCircle links (walk (next_of links) count front)
    → is_among n (walk (next_of links) count front) ≡ true → ((ns : List ℕ) → IsCircle links (n ∷ ns) → IsCircle new ns)
    → (front ≡ n → moved ≡ next_of links n) → (front ≢ n → moved ≡ front)
    → (walk (next_of new) (count - 1) moved ≡ without n (walk (next_of links) count front)) × IsCircle new (walk (next_of new) (count - 1) moved)
circle_removed links new count front moved n h there taken same other =
    let order = walk (next_of links) count front in
    let p = place_of n order (numbers_apart order h.differ) there in
    let left : IsCircle new (p.front ++ p.rest) = circle_swapped new p.rest p.front (taken (p.rest ++ p.front) (brought links n order p.front p.rest h p.is)) in
    let long : length (p.front ++ p.rest) ≡ count - 1 =
    omega (arith, length-append p.front p.rest, length-append p.front (n ∷ p.rest), ap length p.is, length-walk (next_of links) count front) in
    let e : walk (next_of new) (count - 1) moved ≡ p.front ++ p.rest =
    circle_walks new (p.front ++ p.rest) (count - 1) moved left long
    (removed_front links n front moved p.front p.rest count front (subst (λ ks. IsCircle links ks) p.is h) p.is same other) in
    (e ∙ sym p.others, subst (λ ks. IsCircle new ks) (sym e) left)

blank_at : (more : List Link) (k : ℕ) → All (λ l. l ≡ no_link) more → slice_index_or more k no_link ≡ no_link
blank_at [] k h = refl
blank_at (l ∷ more) zero h = All-head (λ l. l ≡ no_link) l more h
blank_at (l ∷ more) (suc k) h = blank_at more k (All-tail (λ l. l ≡ no_link) l more h)

closed_same : (links new : List Link) (ns : List ℕ) → ((m : ℕ) → is_among m ns ≡ true → slice_index_or new m no_link ≡ slice_index_or links m no_link)
    → IsClosed (next_of links) (before_of links) ns → IsClosed (next_of new) (before_of new) ns
closed_same links new [] same h = tt
closed_same links new (n ∷ ns) same h =
    path_same (next_of links) (before_of links) (next_of new) (before_of new) n ns n (λ m there. ap (λ l. l.next) (same m there)) (λ m there. ap (λ l. l.before) (same m there)) h

-- `reserve`
pub circle_roomier : (links : List Link) (more : List Link) (ns : List ℕ) → length (links ++ more) ≤ 2 ^ 16
    → All (λ l. l ≡ no_link) more → IsCircle links ns → IsCircle (links ++ more) ns
circle_roomier links more ns room blank h =
    let same : (m : ℕ) → is_among m ns ≡ true → slice_index_or (links ++ more) m no_link ≡ slice_index_or links m no_link =
    λ m there. get_or_append_left links more no_link m (each_at (λ k. k < length links) m ns h.inside there) in
    record {
      room = room;
      differ = h.differ;
      inside = All-weaker (λ m. m < length links) (λ m. m < length (links ++ more)) (λ m below. omega (arith, length-append links more)) ns h.inside;
      closed = closed_same links (links ++ more) ns same h.closed;
      members = λ m below. elim (cases_lt m (length links)) [
        | inl lt ↦ ap (λ l. l.here) (get_or_append_left links more no_link m lt) ∙ h.members m lt
        | inr ge ↦ ap (λ l. l.here) (get_or-append_right links more (length links) m no_link refl ge ∙ blank_at more (m - length links) blank)
            ∙ sym (false_from_ne_true (is_among m ns) (λ there. absurd (omega (arith, each_at (λ k. k < length links) m ns h.inside there))))
      ];
    }

-- links made longer, where that succeeds
pub circle_resized : (ok : Bool) (links new : List Link) (n len : ℕ) (ns : List ℕ) → length links < n → n ≤ 2 ^ 16
    → len ≡ length links → new ≡ (if ok then take n links ++ replicate (n - len) no_link else links) → IsCircle links ns → IsCircle new ns
circle_resized false links new n len ns shorter room long e h = subst (λ ls. IsCircle ls ns) (sym e) h
circle_resized true links new n len ns shorter room long e h =
    let joined : new ≡ links ++ replicate (n - len) no_link = e ∙ ap (λ ls. ls ++ replicate (n - len) no_link) (take_all n links (omega arith)) in
    subst (λ ls. IsCircle ls ns) (sym joined)
    (circle_roomier links (replicate (n - len) no_link) ns
    (omega (arith, length-append links (replicate (n - len) no_link), length-replicate (n - len) no_link, long, room))
    (All-replicate (λ l. l ≡ no_link) (n - len) no_link refl) h)
