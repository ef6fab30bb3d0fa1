-- What an arrival changes of a node itself: what it holds stays, and its notes are of the arrival and of losses.
use Rattle.std.proofs.Common.{◌≡◌, ℕ, ◌⊎◌, inl, inr, List, [], ◌∷◌, refl, sym, subst, Option, Some, None, arith}
use Rattle.std.specs.Prelude.{Bool, sum_by, slice_get}
use Rattle.std.specs.Option.{option_map_or}
use Rattle.std.proofs.lemmas.List.Sums.{sum_by-cons}
use Rattle.q_packet.specs.Descriptor.{Descriptor}
use Rattle.q_packet.specs.declared.cause.Cause.{Cause}
use Rattle.q_model.specs.Tally.{Note, Arrived}
use Rattle.q_model.specs.Node.{Shape, children}
use Rattle.q_model.specs.Beneath.{is_empty}
use Rattle.q_model.specs.Work.{Worked, settled_in}
use Rattle.q_model.specs.Put.{queued_in, put_here, put_beneath, put_along}
use Rattle.q_invariants.proofs.put.PutStages.{IsPutOf}
use Rattle.q_invariants.proofs.sums.NoteSums.{AreRisen, LooksPast, sum-risen}
use Rattle.q_invariants.proofs.sums.Risen.{rise-here, rise-along}

pub record IsPutStage (now : ℕ) (p : Descriptor) (s : Shape) (w : Worked) : Type 0 where
  pub held : w.own.held ≡ s.own.held
  pub notes : (f : Note → ℕ) → LooksPast f → ((q : Descriptor) → f (Arrived q) ≡ 0) → sum_by f w.memory ≡ 0
  pub discipline : (w.own.discipline ≡ s.own.discipline) ⊎ (w.own.discipline ≡ queued_in p now s.own.discipline) ⊎
      ((i : ℕ) × (emptied : Bool) × (w.own.discipline ≡ settled_in i emptied s.own.discipline))

arrived-sum : (p : Descriptor) (rises : List Note) → AreRisen rises → (f : Note → ℕ) → LooksPast f → ((q : Descriptor) → f (Arrived q) ≡ 0) → sum_by f (Arrived p ∷ rises) ≡ 0
arrived-sum p rises h f past none = omega (arith, sum_by-cons f (Arrived p) rises, none p, sum-risen f past rises h)

here-stage : (now : ℕ) (p : Descriptor) (o : Option Cause) (s : Shape) → IsPutStage now p s (put_here now p o s).node
here-stage now p None s = record { held = refl; notes = arrived-sum p (put_here now p None s).rises (rise-here now p None s); discipline = inr (inl refl) }
here-stage now p (Some cause) s = record { held = refl; notes = arrived-sum p (put_here now p (Some cause) s).rises (rise-here now p (Some cause) s); discipline = inl refl }

along-stage : (now : ℕ) (p : Descriptor) (o : Option Cause) (path : List ℕ) (s : Shape) → IsPutStage now p s (put_along now p o path s).node
along-stage now p o [] s = here-stage now p o s
along-stage now p o (i ∷ path) s = by (slice_get (children s) i)
  where
    by : (x : Option Shape) → IsPutStage now p s (option_map_or (λ (child : Shape). put_beneath p i s (put_along now p o path child)) x (put_here now p o s)).node
    by None = here-stage now p o s
    by (Some c) = record {
      held = refl;
      notes = arrived-sum p (put_along now p o path c).rises (rise-along now p o path c);
      discipline = inr (inr (i, is_empty (put_along now p o path c).node, refl));
    }

pub put-stage : (now : ℕ) (p : Descriptor) (refusal : Option Cause) (s : Shape) (w : Worked) → IsPutOf now p refusal s w → IsPutStage now p s w
put-stage now p refusal s w (inl e) = subst (IsPutStage now p s) (sym e) (record { held = refl; notes = λ f past none. refl; discipline = inl refl })
put-stage now p refusal s w (inr way) = subst (IsPutStage now p s) (sym way.1) (along-stage now p refusal way.0 s)
