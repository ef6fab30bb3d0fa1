-- A poll asks nodes from the root down: each node afterwards is as it was, was peeked, or its packet was taken from it.
use Rattle.std.proofs.Common.{◌≡◌, ℕ, zero, suc, ◌⊎◌, inl, inr, List, [], ◌∷◌, ◌++◌, map, take, drop, length, set, refl, sym, ap, subst, Option, Some, None, arith}
use Rattle.std.specs.Prelude.{Bool, true, false, slice_get, if◌then◌else◌, is_some}
use Rattle.std.specs.List.{zip, position_or_len}
use Rattle.std.specs.Option.{option_map_or}
use Rattle.std.proofs.lemmas.Option.{none-some, same_Some}
use Rattle.q_packet.specs.Descriptor.{Descriptor}
use Rattle.q_bucket.specs.Level.{TokenBucket, allows}
use Rattle.q_drr.specs.Schedule.{Class, Schedule, is_active}
use Rattle.q_drr.specs.Take.{choice_of}
use Rattle.q_model.specs.Node.{Discipline, Fifo, Prio, Tbf, Drr, FqCodel, Own, Forest, none, more, Shape, side_by_side, each}
use Rattle.q_model.specs.Beneath.{packets_of, beneath_own}
use Rattle.q_model.specs.Grants.{asked_entries}
use Rattle.q_model.specs.Lawful.{IsLawfulDiscipline}
use Rattle.q_model.specs.Work.{Worked}
use Rattle.q_model.specs.Ask.{Asked, befores, Showing, showing, holding, Dequeue, dequeued, waits, spends, ask_tbf, is_among, head_of, service_of, place_met, gives_nothing, class_gives, class_serves, ask_drr, ask_discipline, ask_own, ask}
use Rattle.q_invariants.specs.Kept.{AllLawful, IsLawfulRoot}
use Rattle.q_invariants.proofs.class.Exact.{exact-length}
use Rattle.q_invariants.proofs.tree.Related.{AllRelated, IsRelated}

abbrev pub IsStageOf : Asked → Worked → Type 0
IsStageOf a w = (w ≡ a.before) ⊎ (w ≡ a.peeked) ⊎ (w ≡ a.taken)

abbrev pub AreStagesOf : List Asked → List Worked → Type 0
AreStagesOf [] [] = Unit {0}
AreStagesOf [] (w ∷ ws) = ⊥
AreStagesOf (a ∷ below) [] = ⊥
AreStagesOf (a ∷ below) (w ∷ ws) = IsStageOf a w × AreStagesOf below ws

-- a node of which this became, with its children
pub record IsStaged (own : Own) (below : List Asked) (w : Worked) : Type 0 where
  pub children : List Worked
  pub is : side_by_side children ≡ w.below
  pub stages : AreStagesOf below children
  pub handle : w.own.handle ≡ own.handle

pub record AreStaged (own : Own) (below : List Asked) (a : Asked) : Type 0 where
  pub before : IsStaged own below a.before
  pub peeked : IsStaged own below a.peeked
  pub taken : IsStaged own below a.taken

pub unasked : (below : List Asked) → AreStagesOf below (befores below)
unasked [] = tt
unasked (a ∷ below) = (inl refl, unasked below)

shown-staged : (below : List Asked) (s : Showing) → s.own_taken.handle ≡ s.own.handle → AreStagesOf below s.peeked → AreStagesOf below s.taken → AreStaged s.own below (showing below s)
shown-staged below s handle peeked taken = record {
  before = record { children = befores below; is = refl; stages = unasked below; handle = refl };
  peeked = record { children = s.peeked; is = refl; stages = peeked; handle = refl };
  taken = record { children = s.taken; is = refl; stages = taken; handle = handle };
}

dequeued-staged : (own : Own) (below : List Asked) (d : Dequeue) → d.after.handle ≡ own.handle → AreStagesOf below d.children → AreStaged own below (dequeued own below d)
dequeued-staged own below d handle stages = record {
  before = record { children = befores below; is = refl; stages = unasked below; handle = refl };
  peeked = record { children = d.children; is = refl; stages = stages; handle = handle };
  taken = record { children = d.children; is = refl; stages = stages; handle = handle };
}

-- ---- a prio

abbrev passed : ℕ → List Asked → List Worked
passed k below = map (λ (a : Asked). a.peeked) (take k below)

prio-peeked : (k : ℕ) (below : List Asked) → AreStagesOf below (passed k below ++ map (λ (a : Asked). a.peeked) (drop k (take (suc k) below)) ++ befores (drop (suc k) below))
prio-peeked zero [] = tt
prio-peeked (suc k) [] = tt
prio-peeked zero (a ∷ below) = (inr (inl refl), unasked below)
prio-peeked (suc k) (a ∷ below) = (inr (inl refl), prio-peeked k below)

prio-taken : (k : ℕ) (below : List Asked) → AreStagesOf below (passed k below ++ map (λ (a : Asked). a.taken) (drop k (take (suc k) below)) ++ befores (drop (suc k) below))
prio-taken zero [] = tt
prio-taken (suc k) [] = tt
prio-taken zero (a ∷ below) = (inr (inr refl), unasked below)
prio-taken (suc k) (a ∷ below) = (inr (inl refl), prio-taken k below)

-- ---- a tbf

module _ (now : ℕ) (own : Own) (b : TokenBucket) (limit : ℕ) (a : Asked) where
  child-staged : (o : Option Descriptor)
      → AreStaged own (a ∷ []) (option_map_or
      (λ (p : Descriptor). if allows b now p.len then spends own (a ∷ []) b limit now a p else waits own (a ∷ []) a) o (waits own (a ∷ []) a))
  child-staged None = dequeued-staged own (a ∷ []) (record { after = own; children = a.peeked ∷ []; rises = a.rises; mine = []; packet = None; since = 0 }) refl (inr (inl refl), tt)
  child-staged (Some p) = by (allows b now p.len)
    where
      by : (may : Bool) → AreStaged own (a ∷ []) (if may then spends own (a ∷ []) b limit now a p else waits own (a ∷ []) a)
      by true = record {
        before = record { children = befores (a ∷ []); is = refl; stages = unasked (a ∷ []); handle = refl };
        peeked = record { children = a.taken ∷ []; is = refl; stages = (inr (inr refl), tt); handle = refl };
        taken = record { children = a.taken ∷ []; is = refl; stages = (inr (inr refl), tt); handle = refl };
      }
      by false = dequeued-staged own (a ∷ []) (record { after = own; children = a.peeked ∷ []; rises = a.rises; mine = []; packet = None; since = 0 }) refl (inr (inl refl), tt)

tbf-staged : (now : ℕ) (own : Own) (below : List Asked) (b : TokenBucket) (limit : ℕ) → length below ≡ 1 → AreStaged own below (ask_tbf now own below b limit)
tbf-staged now own [] b limit e = absurd (omega (arith, e))
tbf-staged now own (a ∷ []) b limit e = child-staged now own b limit a a.shown
tbf-staged now own (a ∷ c ∷ below) b limit e = absurd (omega (arith, e))

-- ---- a drr

pub looked-staged : (test : Class → Bool) (classes : List Class) (below : List Asked) → length classes ≡ length below
    → AreStagesOf below (map (λ pair. if test pair.0 then pair.1.peeked else pair.1.before) (zip classes below))
looked-staged test [] [] same = tt
looked-staged test [] (a ∷ below) same = absurd (omega (arith, same))
looked-staged test (c ∷ classes) [] same = absurd (omega (arith, same))
looked-staged test (c ∷ classes) (a ∷ below) same = (by (test c), looked-staged test classes below (omega (arith, same)))
  where
    by : (t : Bool) → IsStageOf a (if t then a.peeked else a.before)
    by true = inr (inl refl)
    by false = inl refl

pub set-staged : (below : List Asked) (ws : List Worked) (i : ℕ) (a : Asked) → AreStagesOf below ws → slice_get below i ≡ Some a → AreStagesOf below (set ws i a.taken)
set-staged [] [] i a h e = absurd (none-some a e)
set-staged [] (w ∷ ws) i a h e = absurd h
set-staged (b ∷ below) [] i a h e = absurd h
set-staged (b ∷ below) (w ∷ ws) zero a h e = (inr (inr (ap (λ (x : Asked). x.taken) (sym (same_Some b a e)))), h.1)
set-staged (b ∷ below) (w ∷ ws) (suc i) a h e = (h.0, set-staged below ws i a h.1 e)

module _ (own : Own) (below : List Asked) (s : Schedule) (same : length s.classes ≡ length below) where
  nothing-staged : AreStaged own below (gives_nothing own below (service_of s below))
  nothing-staged =
      dequeued-staged own below (record {
        after = record own { discipline = Drr (service_of s below).schedule };
        children = (service_of s below).below;
        rises = (service_of s below).rises;
        mine = (service_of s below).grants;
        packet = None;
        since = 0;
      }) refl (looked-staged (is_among (asked_entries (choice_of (head_of s below) s) s.active)) s.classes below same)

  serves-staged : (i : ℕ) (a : Asked) (o : Option Descriptor) → slice_get below i ≡ Some a
      → AreStaged own below (option_map_or (class_gives own below (service_of s below) i a) o (gives_nothing own below (service_of s below)))
  serves-staged i a None e = nothing-staged
  serves-staged i a (Some p) e =
      let stages = set-staged below (service_of s below).below i a
      (looked-staged (is_among (asked_entries (choice_of (head_of s below) s) s.active)) s.classes below same) e in
      record {
        before = record { children = befores below; is = refl; stages = unasked below; handle = refl };
        peeked = record { children = set (service_of s below).below i a.taken; is = refl; stages = stages; handle = refl };
        taken = record { children = set (service_of s below).below i a.taken; is = refl; stages = stages; handle = refl };
      }

  drr-staged : AreStaged own below (ask_drr own below s)
  drr-staged = by (place_met s below)
    where
      child : (i : ℕ) (o : Option Asked) → slice_get below i ≡ o → AreStaged own below (option_map_or (class_serves own below (service_of s below) i) o (gives_nothing own below (service_of s below)))
      child i None e = nothing-staged
      child i (Some a) e = serves-staged i a a.shown e

      by : (o : Option ℕ)
          → AreStaged own below (option_map_or (λ i. option_map_or (class_serves own below (service_of s below) i) (slice_get below i)
          (gives_nothing own below (service_of s below))) o (gives_nothing own below (service_of s below)))
      by None = nothing-staged
      by (Some i) = child i (slice_get below i) refl

-- ---- every node

-- a discipline has as many children as it names
abbrev pub HasSoMany : Discipline → ℕ → Type 0
HasSoMany (Tbf b limit) k = k ≡ 1
HasSoMany (Drr s) k = length s.classes ≡ k
HasSoMany (Fifo limit queue) k = Unit {0}
HasSoMany (Prio priomap) k = Unit {0}
HasSoMany (FqCodel s) k = Unit {0}

pub so-many : (mtu clock : ℕ) (below : List (List Descriptor)) (d : Discipline) → IsLawfulDiscipline mtu clock below d → HasSoMany d (length below)
so-many mtu clock below (Tbf b limit) h = h.one
so-many mtu clock below (Drr s) h = exact-length (λ n. is_active n s.active) s.classes below h.exact
so-many mtu clock below (Fifo limit queue) h = tt
so-many mtu clock below (Prio priomap) h = tt
so-many mtu clock below (FqCodel s) h = tt

own-staged : (now : ℕ) (own : Own) (below : List Asked) → HasSoMany own.discipline (length below) → AreStaged own below (ask_own now own below)
own-staged now own below many = by own.held own.discipline many
  where
    discipline : (d : Discipline) → HasSoMany d (length below) → AreStaged own below (ask_discipline now own below d)
    discipline (Fifo limit queue) h =
        shown-staged below (record {
          own = own;
          own_taken = record own { discipline = Fifo limit (drop 1 queue) };
          peeked = befores below;
          taken = befores below;
          notes = [];
          packet = slice_get (packets_of queue) 0;
        }) refl (unasked below) (unasked below)
    discipline (Prio priomap) h =
        let k : ℕ = position_or_len (λ (a : Asked). is_some a.shown) below in
        record {
          before = record { children = befores below; is = refl; stages = unasked below; handle = refl };
          peeked =
              record {
                children = passed k below ++ map (λ (a : Asked). a.peeked) (drop k (take (suc k) below))
                    ++ befores (drop (suc k) below);
                is = refl;
                stages = prio-peeked k below;
                handle = refl;
              };
          taken =
              record {
                children = passed k below ++ map (λ (a : Asked). a.taken) (drop k (take (suc k) below))
                    ++ befores (drop (suc k) below);
                is = refl;
                stages = prio-taken k below;
                handle = refl;
              };
        }
    discipline (Tbf b limit) h = tbf-staged now own below b limit h
    discipline (Drr s) h = drr-staged own below s h
    discipline (FqCodel s) h = record {
      before = record { children = befores below; is = refl; stages = unasked below; handle = refl };
      peeked = record { children = befores below; is = refl; stages = unasked below; handle = refl };
      taken = record { children = befores below; is = refl; stages = unasked below; handle = refl };
    }

    by : (o : Option Descriptor) (d : Discipline) → HasSoMany d (length below) → AreStaged own below (option_map_or (holding own below) o (ask_discipline now own below d))
    by None d h = discipline d h
    by (Some p) d h = record {
      before = record { children = befores below; is = refl; stages = unasked below; handle = refl };
      peeked = record { children = befores below; is = refl; stages = unasked below; handle = refl };
      taken = record { children = befores below; is = refl; stages = unasked below; handle = refl };
    }

stage-staged : (own : Own) (below : List Asked) (a : Asked) (w : Worked) → AreStaged own below a → IsStageOf a w → IsStaged own below w
stage-staged own below a w h (inl e) = subst (IsStaged own below) (sym e) h.before
stage-staged own below a w h (inr (inl e)) = subst (IsStaged own below) (sym e) h.peeked
stage-staged own below a w h (inr (inr e)) = subst (IsStaged own below) (sym e) h.taken

pub each-length : {M A B : Type 0} (f : Own → List A → A) (g : Own → List B → B) (x : Forest M) → length (each f x) ≡ length (each g x)
each-length f g none = refl
each-length f g (more own m below others) = ap suc (each-length f g others)

-- the node that was asked so
abbrev pub IsAskOf : ℕ → Shape → Worked → Type 0
IsAskOf now s w = IsStageOf (ask now s) w

asked-staged : (mtu now : ℕ) (s : Shape) (w : Worked) → IsLawfulRoot mtu now s → IsAskOf now s w → IsStaged s.own (each (ask_own now) s.below) w
asked-staged mtu now s w h stage =
    let many = so-many mtu now (each beneath_own s.below) s.own.discipline h.0.discipline in
    stage-staged s.own (each (ask_own now) s.below) (ask now s) w
    (own-staged now s.own (each (ask_own now) s.below) (subst (HasSoMany s.own.discipline) (each-length beneath_own (ask_own now) s.below) many)) stage

stages-related : (mtu now : ℕ) (x : Forest (Unit {0})) (ws : List Worked) → AllLawful mtu now x → AreStagesOf (each (ask_own now) x) ws → AllRelated (IsAskOf now) x (side_by_side ws)
stages-related mtu now none [] l h = tt
stages-related mtu now none (w ∷ ws) l h = absurd h
stages-related mtu now (more own m below others) [] l h = absurd h
stages-related mtu now (more own m below others) (w ∷ ws) l h =
    let staged = asked-staged mtu now (record { own = own; memory = m; below = below }) w (l.0, l.1) h.0 in (
      h.0,
      staged.handle,
      subst (AllRelated (IsAskOf now) below) staged.is (stages-related mtu now below staged.children l.1 staged.stages),
      stages-related mtu now others ws l.2 h.1,
    )

pub asked-related : (mtu now : ℕ) (s : Shape) (w : Worked) → IsLawfulRoot mtu now s → IsAskOf now s w → IsRelated (IsAskOf now) s w
asked-related mtu now s w l h =
    let staged = asked-staged mtu now s w l h in
    (h, staged.handle, subst (AllRelated (IsAskOf now) s.below) staged.is (stages-related mtu now s.below staged.children l.1 staged.stages))
