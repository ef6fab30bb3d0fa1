-- What a route says of the node that it begins at: it ends there, or goes on from the child that it names.
use Rattle.std.proofs.Common.{◌≡◌, ℕ, ◌≤◌, List, [], ◌∷◌, refl, sym, ap, Option, Some, None, option_map, ◌∙◌}
use Rattle.std.specs.Prelude.{Bool, true, false, nat_lt, slice_get, if◌then◌else◌}
use Rattle.std.specs.Option.{option_map_or}
use Rattle.std.proofs.lemmas.Bool.{ltb-false, true≢false}
use Rattle.std.proofs.lemmas.Option.{slice_get-map, same_Some, none-some}
use Rattle.q_packet.specs.Descriptor.{Descriptor}
use Rattle.q_packet.specs.declared.cause.Cause.{Cause}
use Rattle.q_packet.specs.declared.cause.Cause.TheVariants.{TooLong, NoClass, OverLimit}
use Rattle.q_codel.specs.FifoState.{takes}
use Rattle.q_model.specs.Filters.{named_class}
use Rattle.q_model.specs.Node.{Discipline, Fifo, Prio, Tbf, Drr, FqCodel, Own, Node, children, each}
use Rattle.q_model.specs.Route.{Route, ends, refused, through, band_of, class_at, way, route}
use Rattle.q_invariants.proofs.tree.Forests.{each-nodes}

-- a discipline whose own list a packet can be put into
abbrev pub CanQueue : Discipline → Type 0
CanQueue (Fifo limit queue) = Unit {0}
CanQueue (FqCodel s) = Unit {0}
CanQueue (Prio priomap) = ⊥
CanQueue (Tbf b limit) = ⊥
CanQueue (Drr s) = ⊥

-- a discipline beneath which a packet can go on: not one too long for a tbf
abbrev pub CanPass : Descriptor → Discipline → Type 0
CanPass p (Fifo limit queue) = ⊥
CanPass p (FqCodel s) = ⊥
CanPass p (Prio priomap) = Unit {0}
CanPass p (Tbf b limit) = p.len ≤ b.burst
CanPass p (Drr s) = Unit {0}

is_empty_way : List ℕ → Bool
is_empty_way [] = true
is_empty_way (i ∷ path) = false

pub nil-cons : (i : ℕ) (path : List ℕ) → ◌≡◌ {A = List ℕ} [] (i ∷ path) → ⊥
unfolding is_empty_way
nil-cons i path e = true≢false (ap is_empty_way e)

-- through a child the way ends nowhere, and goes on from that child
through-ends : (below : List Route) (i : ℕ) → through below i ≡ ends → ⊥
through-ends below i e = by (slice_get below i) e
  where
    by : (o : Option Route) → option_map_or (λ (r : Route). record r { path = i ∷ r.path }) o (refused NoClass) ≡ ends → ⊥
    by None e = none-some NoClass (sym (ap (λ (r : Route). r.refusal) e))
    by (Some r) e = nil-cons i r.path (sym (ap (λ (r : Route). r.path) e))

through-goes : (below : List Route) (k i : ℕ) (path : List ℕ) (refusal : Option Cause)
    → through below k ≡ record { path = i ∷ path; refusal = refusal } → slice_get below i ≡ Some (record { path = path; refusal = refusal })
through-goes below k i path refusal e = by (slice_get below k) refl e
  where
    by : (o : Option Route) → slice_get below k ≡ o
        → option_map_or (λ (r : Route). record r { path = k ∷ r.path }) o (refused NoClass) ≡ record { path = i ∷ path; refusal = refusal }
        → slice_get below i ≡ Some (record { path = path; refusal = refusal })
    by None h e = absurd (nil-cons i path (ap (λ (r : Route). r.path) e))
    by (Some r) h e =
        let steps : k ∷ r.path ≡ i ∷ path = ap (λ (r : Route). r.path) e in
        let same : k ≡ i = cc in
        let rest : r.path ≡ path = cc in
        let end : r.refusal ≡ refusal = ap (λ (r : Route). r.refusal) e in
        ap (slice_get below) (sym same) ∙ h ∙ ap Some (ap (λ (x : List ℕ). record { path = x; refusal = r.refusal }) rest ∙ ap (λ (x : Option Cause). record { path = path; refusal = x }) end)

refused-goes : {A : Type 0} (cause : Cause) (i : ℕ) (path : List ℕ) (refusal : Option Cause) → refused cause ≡ record { path = i ∷ path; refusal = refusal } → A
refused-goes cause i path refusal e = absurd (nil-cons i path (ap (λ (r : Route). r.path) e))

refused-ends : (cause : Cause) → refused cause ≡ ends → ⊥
refused-ends cause e = none-some cause (sym (ap (λ (r : Route). r.refusal) e))

module _ (p : Descriptor) (own : Own) (below : List Route) where
  pub way-ends : (d : Discipline) → way p own below d ≡ ends → CanQueue d
  way-ends (Fifo limit queue) e = tt
  way-ends (FqCodel s) e = tt
  way-ends (Prio priomap) e = through-ends below (band_of own priomap p) e
  way-ends (Tbf b limit) e = by (nat_lt b.burst p.len) e
    where
      by : (long : Bool) → (if long then refused TooLong else through below 0) ≡ ends → ⊥
      by true e = refused-ends TooLong e
      by false e = through-ends below 0 e
  way-ends (Drr s) e = by (named_class own.filters p) e
    where
      found : (o : Option ℕ) → option_map_or (through below) o (refused NoClass) ≡ ends → ⊥
      found None e = refused-ends NoClass e
      found (Some i) e = through-ends below i e

      by : (o : Option ℕ) → (elim o [ None ↦ refused NoClass | Some minor ↦ option_map_or (through below) (class_at minor s) (refused NoClass) ]) ≡ ends → ⊥
      by None e = refused-ends NoClass e
      by (Some minor) e = found (class_at minor s) e

  pub way-goes : (d : Discipline) (i : ℕ) (path : List ℕ) (refusal : Option Cause) → way p own below d ≡ record { path = i ∷ path; refusal = refusal }
      → CanPass p d × (slice_get below i ≡ Some (record { path = path; refusal = refusal }))
  way-goes (Fifo limit queue) i path refusal e = by (takes limit queue p.len) e
    where
      by : (b : Bool) → (if b then ends else refused OverLimit) ≡ record { path = i ∷ path; refusal = refusal } → ⊥ × (slice_get below i ≡ Some (record { path = path; refusal = refusal }))
      by true e = absurd (nil-cons i path (ap (λ (r : Route). r.path) e))
      by false e = absurd (nil-cons i path (ap (λ (r : Route). r.path) e))
  way-goes (FqCodel s) i path refusal e = absurd (nil-cons i path (ap (λ (r : Route). r.path) e))
  way-goes (Prio priomap) i path refusal e = (tt, through-goes below (band_of own priomap p) i path refusal e)
  way-goes (Tbf b limit) i path refusal e = by (nat_lt b.burst p.len) refl e
    where
      by : (long : Bool) → nat_lt b.burst p.len ≡ long → (if long then refused TooLong else through below 0) ≡ record { path = i ∷ path; refusal = refusal }
          → (p.len ≤ b.burst) × (slice_get below i ≡ Some (record { path = path; refusal = refusal }))
      by true h e = refused-goes TooLong i path refusal e
      by false h e = (ltb-false b.burst p.len h, through-goes below 0 i path refusal e)
  way-goes (Drr s) i path refusal e = (tt, by (named_class own.filters p) e)
    where
      found : (o : Option ℕ) → option_map_or (through below) o (refused NoClass) ≡ record { path = i ∷ path; refusal = refusal } → slice_get below i ≡ Some (record { path = path; refusal = refusal })
      found None e = refused-goes NoClass i path refusal e
      found (Some k) e = through-goes below k i path refusal e

      by : (o : Option ℕ)
          → ◌≡◌ {A = Route} (elim o [ None ↦ refused NoClass | Some minor ↦ option_map_or (through below) (class_at minor s) (refused NoClass) ])
          (record { path = i ∷ path; refusal = refusal })
          → slice_get below i ≡ Some (record { path = path; refusal = refusal })
      by None e = refused-goes NoClass i path refusal e
      by (Some minor) e = found (class_at minor s) e

-- the child that a route goes on from, and its own route
pub record IsOn {M : Type 0} (p : Descriptor) (s : Node M) (i : ℕ) (path : List ℕ) (refusal : Option Cause) : Type 0 where
  pub child : Node M
  pub there : slice_get (children s) i ≡ Some child
  pub way : route p child ≡ record { path = path; refusal = refusal }
  pub passes : CanPass p s.own.discipline

pub route-goes : {M : Type 0} (p : Descriptor) (s : Node M) (i : ℕ) (path : List ℕ) (refusal : Option Cause) → route p s ≡ record { path = i ∷ path; refusal = refusal } → IsOn p s i path refusal
route-goes {M} p s i path refusal e =
    let below : List Route = each (λ own below. way p own below own.discipline) s.below in
    let goes = way-goes p s.own below s.own.discipline i path refusal e in
    by (slice_get (children s) i) refl goes.0
    (sym (slice_get-map (route p) (children s) i) ∙ ap (λ (xs : List Route). slice_get xs i) (sym (each-nodes (λ own below. way p own below own.discipline) s.below)) ∙ goes.1)
  where
    by : (o : Option (Node M)) → slice_get (children s) i ≡ o → CanPass p s.own.discipline → option_map (route p) o ≡ Some (record { path = path; refusal = refusal }) → IsOn p s i path refusal
    by None h can e = cc
    by (Some c) h can e = record { child = c; there = h; way = same_Some (route p c) (record { path = path; refusal = refusal }) e; passes = can }
