-- A circle of links once a place that is no member is gone, and those above it have moved down by one.
use Rattle.std.proofs.Common.{◌≡◌, ◌≢◌, ℕ, zero, suc, ◌+◌, ◌-◌, ◌<◌, true, false, eqb, List, [], ◌∷◌, map, length, refl, sym, ap, ◌∙◌, subst, inl, inr, arith}
use Rattle.std.specs.Prelude.{slice_index_or}
use Rattle.std.specs.List.{All, remove}
use Rattle.std.proofs.lemmas.Bool.{or_parts, cases_lt}
use Rattle.std.proofs.lemmas.List.{length-map}
use Rattle.std.proofs.lemmas.List.Edits.{get_or-remove_below, get_or-remove_above, length-remove}
use Rattle.q_drr.specs.declared.ring.Link.{Link}
use Rattle.q_drr.specs.Links.{no_link, is_among, moved_down, walk, IsPath, IsClosed, IsCircle, HaveMovedDown, next_of, before_of, here_of}
use Rattle.q_drr.proofs.DifferLemmas.{AllDiffer, numbers_apart, numbers_differ_from}
use Rattle.q_drr.proofs.NameLemmas.{among_itself, each_at, or_right, or_middle}
use Rattle.q_drr.proofs.PlaceLemmas.{down_above, down_below, other_place, all_down, among_down}
use Rattle.q_drr.proofs.RingLemmas.{circle_walks, length-walk}

abbrev pub link_moved : ℕ → Link → Link
link_moved gap l = record { next = moved_down gap l.next; before = moved_down gap l.before; here = l.here }

module _ (gap : ℕ) where
  path_down : (nx bf nx' bf' : ℕ → ℕ) (a : ℕ) (ns : List ℕ) (b : ℕ)
      → ((m : ℕ) → is_among m (a ∷ ns) ≡ true → nx' (moved_down gap m) ≡ moved_down gap (nx m))
      → ((m : ℕ) → is_among m (b ∷ ns) ≡ true → bf' (moved_down gap m) ≡ moved_down gap (bf m))
      → IsPath nx bf a ns b → IsPath nx' bf' (moved_down gap a) (map (moved_down gap) ns) (moved_down gap b)
  path_down nx bf nx' bf' a [] b nexts befores p = (nexts a (among_itself a []) ∙ ap (moved_down gap) p.0, befores b (among_itself b []) ∙ ap (moved_down gap) p.1)
  path_down nx bf nx' bf' a (n ∷ ns) b nexts befores p = (
    nexts a (among_itself a (n ∷ ns)) ∙ ap (moved_down gap) p.0,
    befores n (or_right (eqb n b) _ (among_itself n ns)) ∙ ap (moved_down gap) p.1,
    path_down nx bf nx' bf' n ns b (λ m h. nexts m (or_right (eqb m a) _ h)) (λ m h. befores m (or_middle (eqb m b) (eqb m n) (is_among m ns) h)) p.2,
  )

  closed_down : (nx bf nx' bf' : ℕ → ℕ) (ns : List ℕ)
      → ((m : ℕ) → is_among m ns ≡ true → nx' (moved_down gap m) ≡ moved_down gap (nx m))
      → ((m : ℕ) → is_among m ns ≡ true → bf' (moved_down gap m) ≡ moved_down gap (bf m))
      → IsClosed nx bf ns → IsClosed nx' bf' (map (moved_down gap) ns)
  closed_down nx bf nx' bf' [] nexts befores h = tt
  closed_down nx bf nx' bf' (n ∷ ns) nexts befores h = path_down nx bf nx' bf' n ns n nexts befores h

  differ_down : (ns : List ℕ) → is_among gap ns ≡ false → AllDiffer ns → AllDiffer (map (moved_down gap) ns)
  differ_down [] absent d = tt
  differ_down (n ∷ ns) absent d =
      let rest = (or_parts (eqb gap n) (is_among gap ns) absent).1 in
      (among_down gap n ns (other_place gap n ns absent) rest ∙ d.0, differ_down ns rest d.1)

  -- what the links have for a place that is not the gap
  module _ (old new : List Link) (inside : gap < length old) (moved : HaveMovedDown gap (remove old gap) new) where
    shorter : length (remove old gap) ≡ length old - 1
    shorter = omega (arith, length-remove old gap inside)

    within : (m : ℕ) → m < length old → m ≢ gap → moved_down gap m < length (remove old gap)
    within m lt apart = elim (cases_lt m gap) [
      | inl less ↦ omega (arith, shorter, down_below gap m (omega arith))
      | inr more ↦ omega (arith, shorter, down_above gap m (omega arith))
    ]

    link_down : (m : ℕ) → m ≢ gap → slice_index_or (remove old gap) (moved_down gap m) no_link ≡ slice_index_or old m no_link
    link_down m apart = elim (cases_lt m gap) [
      | inl lt ↦ ap (λ k. slice_index_or (remove old gap) k no_link) (down_below gap m (omega arith)) ∙ get_or-remove_below old gap no_link m lt inside
      | inr ge ↦
          let back : m - 1 + 1 ≡ m = omega arith in
          ap (λ k. slice_index_or (remove old gap) k no_link) (down_above gap m (omega arith))
          ∙ get_or-remove_above old gap no_link (m - 1) (omega arith) inside ∙ ap (λ k. slice_index_or old k no_link) back
    ]

    next_down : (m : ℕ) → m < length old → m ≢ gap → next_of new (moved_down gap m) ≡ moved_down gap (next_of old m)
    next_down m lt apart = moved.next (moved_down gap m) (within m lt apart) ∙ ap (λ (l : Link). moved_down gap l.next) (link_down m apart)

    before_down : (m : ℕ) → m < length old → m ≢ gap → before_of new (moved_down gap m) ≡ moved_down gap (before_of old m)
    before_down m lt apart = moved.before (moved_down gap m) (within m lt apart) ∙ ap (λ (l : Link). moved_down gap l.before) (link_down m apart)

    here_down : (m : ℕ) → m < length old → m ≢ gap → here_of new (moved_down gap m) ≡ here_of old m
    here_down m lt apart = moved.here (moved_down gap m) (within m lt apart) ∙ ap (λ (l : Link). l.here) (link_down m apart)

    -- each place of the new links comes from one of the old
    member_down : (ns : List ℕ) → is_among gap ns ≡ false → ((m : ℕ) → m < length old → here_of old m ≡ is_among m ns)
        → (n : ℕ) → n < length new → here_of new n ≡ is_among n (map (moved_down gap) ns)
    member_down ns absent members n lt = elim (cases_lt n gap) [
      | inl less ↦ from n (down_below gap n (omega arith)) (omega arith) (omega arith)
      | inr more ↦ from (n + 1) (down_above gap (n + 1) (omega arith) ∙ omega arith) (omega (arith, moved.len, shorter)) (omega arith)
    ]
      where
        from : (m : ℕ) → moved_down gap m ≡ n → m < length old → m ≢ gap → here_of new n ≡ is_among n (map (moved_down gap) ns)
        from m e low apart =
            subst (λ k. here_of new k ≡ is_among k (map (moved_down gap) ns)) e (here_down m low apart ∙ members m low ∙ sym (among_down gap m ns apart absent))

    circle_down : (ns : List ℕ) → is_among gap ns ≡ false → IsCircle old ns → IsCircle new (map (moved_down gap) ns)
    circle_down ns absent h =
        let apart : (m : ℕ) → is_among m ns ≡ true → m ≢ gap = λ m there e. false≢true-by there e absent in
        let low : (m : ℕ) → is_among m ns ≡ true → m < length old = λ m there. each_at (λ k. k < length old) m ns h.inside there in
        record {
          room = omega (arith, h.room, moved.len, shorter);
          differ = numbers_differ_from (map (moved_down gap) ns) (differ_down ns absent (numbers_apart ns h.differ));
          inside = subst (λ len. All (λ p. p < len) (map (moved_down gap) ns)) (sym (moved.len ∙ shorter)) (all_down gap (length old) ns inside absent h.inside);
          closed = closed_down (next_of old) (before_of old) (next_of new) (before_of new) ns
              (λ m there. next_down m (low m there) (apart m there)) (λ m there. before_down m (low m there) (apart m there)) h.closed;
          members = member_down ns absent h.members;
        }
      where
        false≢true-by : {m : ℕ} → is_among m ns ≡ true → m ≡ gap → is_among gap ns ≡ false → ⊥
        false≢true-by there e absent = cc

    -- `close_gap`
    pub gap_closed : (count front : ℕ) → is_among gap (walk (next_of old) count front) ≡ false → IsCircle old (walk (next_of old) count front)
        → (walk (next_of new) count (moved_down gap front) ≡ map (moved_down gap) (walk (next_of old) count front))
        × IsCircle new (walk (next_of new) count (moved_down gap front))
    gap_closed zero front absent h = (refl, circle_down [] absent h)
    gap_closed (suc count) front absent h =
        let ns : List ℕ = walk (next_of old) (suc count) front in
        let circle : IsCircle new (map (moved_down gap) ns) = circle_down ns absent h in
        let e : walk (next_of new) (suc count) (moved_down gap front) ≡ map (moved_down gap) ns =
        circle_walks new (map (moved_down gap) ns) (suc count) (moved_down gap front) circle (length-map ns (moved_down gap) ∙ length-walk (next_of old) (suc count) front) (λ m ms q. cc) in
        (e, subst (λ ks. IsCircle new ks) (sym e) circle)
