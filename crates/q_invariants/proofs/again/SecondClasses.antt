-- The children of a drr asked once more, of which those of some classes were peeked before.
use Rattle.std.proofs.Common.{◌≡◌, ℕ, zero, suc, List, [], ◌∷◌, map, length, refl, sym, ap, ap₂, ◌∙◌, Option, Some, option_map, option_and_then, arith}
use Rattle.std.specs.Prelude.{Bool, true, false, slice_get, if◌then◌else◌}
use Rattle.std.specs.Option.{option_map_or}
use Rattle.std.proofs.lemmas.Option.{none-some, same_Some}
use Rattle.q_packet.specs.Descriptor.{Descriptor}
use Rattle.q_drr.specs.Schedule.{Class}
use Rattle.q_model.specs.Tally.{Note}
use Rattle.q_model.specs.Work.{Worked}
use Rattle.q_model.specs.Ask.{Asked, befores, length_of}
use Rattle.q_invariants.proofs.again.SecondPeek.{again, AreStable}
use Rattle.q_invariants.proofs.ask.AskClasses.{peeked_by}

-- what the child at this place tells
abbrev pub rises_of : Option Asked → List Note
rises_of o = option_map_or (λ (a : Asked). a.rises) o []

module _ (now : ℕ) (test : Class → Bool) where
  -- those that pass the test were peeked
  abbrev pub once_more : List Class → List Asked → List Asked
  once_more classes below = map (again now) (peeked_by test classes below)

  -- each shows what it showed
  pub heads-again : (classes : List Class) (below : List Asked) (i : ℕ) → length classes ≡ length below
      → AreStable now below
      → option_and_then length_of (slice_get (once_more classes below) i) ≡ option_and_then length_of (slice_get below i)
  heads-again [] [] i same h = refl
  heads-again [] (a ∷ below) i same h = absurd (omega (arith, same))
  heads-again (c ∷ classes) [] i same h = absurd (omega (arith, same))
  heads-again (c ∷ classes) (a ∷ below) zero same h = by (test c)
    where
      by : (t : Bool) → length_of (again now (if t then a.peeked else a.before)) ≡ length_of a
      by true = ap (option_map (λ (p : Descriptor). p.len)) h.0.second.shown
      by false = ap length_of h.0.same
  heads-again (c ∷ classes) (a ∷ below) (suc i) same h = heads-again classes below i (omega (arith, same)) h.1

  -- one that was peeked has nothing to tell
  pub rises-again : (classes : List Class) (below : List Asked) (i : ℕ) (c : Class) → AreStable now below
      → slice_get classes i ≡ Some c → test c ≡ true
      → rises_of (slice_get (once_more classes below) i) ≡ []
  rises-again [] below i c h e passes = absurd (none-some c e)
  rises-again (d ∷ classes) [] i c h e passes = refl
  rises-again (d ∷ classes) (a ∷ below) zero c h e passes =
      ap (λ (t : Bool). (again now (if t then a.peeked else a.before)).rises) (ap test (same_Some d c e) ∙ passes) ∙ h.0.second.rises
  rises-again (d ∷ classes) (a ∷ below) (suc i) c h e passes = rises-again classes below i c h.1 e passes

  -- none changes, where only those are asked that were
  pub looked-again : (more : Class → Bool) → ((c : Class) → more c ≡ true → test c ≡ true)
      → (classes : List Class) (below : List Asked) → length classes ≡ length below → AreStable now below
      → peeked_by more classes (once_more classes below) ≡ befores (once_more classes below)
  looked-again more only [] [] same h = refl
  looked-again more only [] (a ∷ below) same h = absurd (omega (arith, same))
  looked-again more only (c ∷ classes) [] same h = absurd (omega (arith, same))
  looked-again more only (c ∷ classes) (a ∷ below) same h =
      ap₂ (λ (w : Worked) (ws : List Worked). w ∷ ws) (by (more c) refl) (looked-again more only classes below (omega (arith, same)) h.1)
    where
      b : Asked
      b = again now (if test c then a.peeked else a.before)

      by : (t : Bool) → more c ≡ t → (if t then b.peeked else b.before) ≡ b.before
      by true e = ap (λ (t : Bool). (again now (if t then a.peeked else a.before)).peeked) (only c e) ∙ h.0.second.peeked
          ∙ sym (ap (λ (t : Bool). (again now (if t then a.peeked else a.before)).before) (only c e))
      by false e = refl
