-- The children of a drr, of which those of some classes are peeked, and from one of which a packet may be taken.
use Rattle.std.proofs.Common.{◌≡◌, ℕ, zero, suc, ◌+◌, ◌≤◌, List, [], ◌∷◌, map, length, set, refl, sym, ap, subst, Some, ◌∙◌, arith}
use Rattle.std.specs.Prelude.{Bool, true, false, not, ◌==◌, slice_get, if◌then◌else◌}
use Rattle.std.specs.List.{zip}
use Rattle.std.proofs.lemmas.Bool.{ne_eqb}
use Rattle.std.proofs.lemmas.Option.{same_Some}
use Rattle.q_packet.specs.Descriptor.{Descriptor}
use Rattle.q_drr.specs.Schedule.{Class}
use Rattle.q_model.specs.Beneath.{beneath}
use Rattle.q_model.specs.Conserved.{held_beneath}
use Rattle.q_model.specs.Work.{Worked}
use Rattle.q_model.specs.Ask.{Asked, befores}
use Rattle.q_invariants.specs.Kept.{AreLawful}
use Rattle.q_invariants.specs.Weights.{lost, marked, weigh}
use Rattle.q_invariants.proofs.ask.Answer.{one, IsAnswer, AreAnswers}
use Rattle.q_invariants.proofs.class.ClassSums.{picked}
use Rattle.q_invariants.proofs.class.Exact.{AreExact}
use Rattle.q_invariants.proofs.sums.Sums.{in_children, held_in_children}
use Rattle.q_invariants.proofs.sums.Told.{IsRootTold}
use Rattle.q_invariants.proofs.sums.Weights.{weigh-count}
use Rattle.q_invariants.proofs.tree.Forests.{AreTold}

abbrev pub peeked_by : (Class → Bool) → List Class → List Asked → List Worked
peeked_by test classes below = map (λ pair. if test pair.0 then pair.1.peeked else pair.1.before) (zip classes below)

-- a peek leaves a child empty exactly where it was
same_zero : (m n : ℕ) → (m ≡ 0 → n ≡ 0) → (n ≡ 0 → m ≡ 0) → (m == 0) ≡ (n == 0)
same_zero zero zero a b = refl
same_zero zero (suc n) a b = absurd (omega (arith, a refl))
same_zero (suc m) zero a b = absurd (omega (arith, b refl))
same_zero (suc m) (suc n) a b = ne_eqb (suc m) 0 (λ e. absurd (omega (arith, e))) ∙ sym (ne_eqb (suc n) 0 (λ e. absurd (omega (arith, e))))

pub empty-peeked : (mtu now : ℕ) (a : Asked) → IsAnswer mtu now a → (length (beneath a.peeked) == 0) ≡ (length (beneath a.before) == 0)
empty-peeked mtu now a h = same_zero (length (beneath a.peeked)) (length (beneath a.before))
    (λ e. omega (arith, weigh-count (beneath a.before), h.stays (omega (arith, e, weigh-count (beneath a.peeked)))))
    (λ e. omega (arith, e, h.peeks one, weigh-count (beneath a.before), weigh-count (beneath a.peeked)))

-- one child, peeked or not
pub record IsLooked (mtu now : ℕ) (may : Bool) (a : Asked) (n : Worked) : Type 0 where
  pub lawful : (AreLawful mtu now (n ∷ []))
  pub told : AreTold (a.before ∷ []) (n ∷ [])
  pub weighs : (w : Descriptor → ℕ) → weigh w (beneath a.before) ≡ (if may then lost w a.rises else 0) + weigh w (beneath n)
  pub holds : (w : Descriptor → ℕ) → (if may then marked w a.rises else 0) + weigh w (held_beneath a.before) ≤ (if may then lost w a.rises else 0) + weigh w (held_beneath n)
  pub stays : weigh one (beneath n) ≡ 0 → weigh one (beneath a.before) ≡ 0
  pub same : (length (beneath n) == 0) ≡ (length (beneath a.before) == 0)

is-looked : (mtu now : ℕ) (may : Bool) (a : Asked) → IsAnswer mtu now a → IsLooked mtu now may a (if may then a.peeked else a.before)
is-looked mtu now true a h = record {
  lawful = (h.lawful_peeked, tt);
  told = (h.told_peeked, tt);
  weighs = h.peeks;
  holds = h.marks;
  stays = h.stays;
  same = empty-peeked mtu now a h;
}
is-looked mtu now false a h = record {
  lawful = (h.lawful_before, tt);
  told = (h.told_before, tt);
  weighs = λ w. omega arith;
  holds = λ w. omega arith;
  stays = λ none. none;
  same = refl;
}

-- all children
pub record AreLooked (mtu now : ℕ) (test : Class → Bool) (classes : List Class) (below : List Asked) : Type 0 where
  pub lawful : AreLawful mtu now (peeked_by test classes below)
  pub told : AreTold (befores below) (peeked_by test classes below)
  pub weighs : (w : Descriptor → ℕ) → in_children w (befores below) ≡ picked (λ a. lost w a.rises) test classes below + in_children w (peeked_by test classes below)
  pub holds : (w : Descriptor → ℕ) → picked (λ a. marked w a.rises) test classes below + held_in_children w (befores below)
      ≤ picked (λ a. lost w a.rises) test classes below + held_in_children w (peeked_by test classes below)
  pub stays : in_children one (peeked_by test classes below) ≡ 0 → in_children one (befores below) ≡ 0

pub are-looked : (mtu now : ℕ) (test : Class → Bool) (classes : List Class) (below : List Asked) → length classes ≡ length below → AreAnswers mtu now below → AreLooked mtu now test classes below
are-looked mtu now test [] [] same all =
    record { lawful = tt; told = tt; weighs = λ w. omega arith; holds = λ w. omega arith; stays = λ none. none }
are-looked mtu now test [] (a ∷ below) same all = absurd (omega (arith, same))
are-looked mtu now test (c ∷ classes) [] same all = absurd (omega (arith, same))
are-looked mtu now test (c ∷ classes) (a ∷ below) same all =
    let first = is-looked mtu now (test c) a all.0 in
    let rest = are-looked mtu now test classes below (omega (arith, same)) all.1 in
    record {
      lawful = (first.lawful.0, rest.lawful);
      told = (first.told.0, rest.told);
      weighs = λ w. omega (arith, first.weighs w, rest.weighs w);
      holds = λ w. omega (arith, first.holds w, rest.holds w);
      stays = λ none. omega (arith, first.stays (omega (arith, none)), rest.stays (omega (arith, none)));
    }

pub exact-looked : (mtu now : ℕ) (test : Class → Bool) (active : ℕ → Bool) (classes : List Class) (below : List Asked) → AreAnswers mtu now below
    → AreExact active classes (map beneath (befores below))
    → AreExact active classes (map beneath (peeked_by test classes below))
exact-looked mtu now test active [] [] all h = tt
exact-looked mtu now test active [] (a ∷ below) all h = absurd h
exact-looked mtu now test active (c ∷ classes) [] all h = absurd h
exact-looked mtu now test active (c ∷ classes) (a ∷ below) all h =
    (h.0 ∙ sym (ap not (is-looked mtu now (test c) a all.0).same), exact-looked mtu now test active classes below all.1 h.1)

-- the child of a class that was peeked gives its packet
pub record IsTakenAt (mtu now : ℕ) (test : Class → Bool) (classes : List Class) (below : List Asked) (i : ℕ) (a : Asked) : Type 0 where
  pub lawful : AreLawful mtu now (set (peeked_by test classes below) i a.taken)
  pub told : AreTold (befores below) (set (peeked_by test classes below) i a.taken)
  pub weighs : (w : Descriptor → ℕ)
      → in_children w (set (peeked_by test classes below) i a.taken) + weigh w (beneath a.peeked) ≡ in_children w (peeked_by test classes below)
      + weigh w (beneath a.taken)
  pub holds : (w : Descriptor → ℕ) → held_in_children w (set (peeked_by test classes below) i a.taken) + weigh w (held_beneath a.peeked)
      ≡ held_in_children w (peeked_by test classes below) + weigh w (held_beneath a.taken)

pub taken-at : (mtu now : ℕ) (test : Class → Bool) (classes : List Class) (below : List Asked) (i : ℕ) (a : Asked) (c : Class) → length classes ≡ length below → AreAnswers mtu now below
    → slice_get classes i ≡ Some c → slice_get below i ≡ Some a → test c ≡ true → IsTakenAt mtu now test classes below i a
taken-at mtu now test [] below i a c same all ec ea passes = cc
taken-at mtu now test (d ∷ classes) [] i a c same all ec ea passes = cc
taken-at mtu now test (d ∷ classes) (b ∷ below) zero a c same all ec ea passes =
    let is_child : b ≡ a = same_Some b a ea in
    let looked : (if test d then b.peeked else b.before) ≡ a.peeked =
    ap (λ (x : Class). if test x then b.peeked else b.before) (same_Some d c ec) ∙ ap (λ t. if t then b.peeked else b.before) passes ∙ ap (λ (x : Asked). x.peeked) is_child in
    let answer : IsAnswer mtu now a = subst (IsAnswer mtu now) is_child all.0 in
    let rest = are-looked mtu now test classes below (omega (arith, same)) all.1 in
    record {
      lawful = (answer.lawful_taken, rest.lawful);
      told = (subst (λ (x : Asked). IsRootTold x.before a.taken) (sym is_child) answer.told_taken, rest.told);
      weighs = λ w. omega (arith, ap (λ (n : Worked). weigh w (beneath n)) looked);
      holds = λ w. omega (arith, ap (λ (n : Worked). weigh w (held_beneath n)) looked);
    }
taken-at mtu now test (d ∷ classes) (b ∷ below) (suc i) a c same all ec ea passes =
    let first = is-looked mtu now (test d) b all.0 in
    let rest = taken-at mtu now test classes below i a c (omega (arith, same)) all.1 ec ea passes in
    record {
      lawful = (first.lawful.0, rest.lawful);
      told = (first.told.0, rest.told);
      weighs = λ w. omega (arith, rest.weighs w);
      holds = λ w. omega (arith, rest.holds w);
    }
