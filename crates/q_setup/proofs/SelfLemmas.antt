-- Each tree is like itself.
use Rattle.std.proofs.Common.{◌≡◌, ◌∙◌, ℕ, List, [], ◌∷◌, Option, Some, None, refl, sym, ap, ap₂}
use Rattle.std.specs.Prelude.{Bool, true, false, ◌&&◌, ◌||◌, ◌==◌, if◌then◌else◌}
use Rattle.std.specs.List.{AllByRecursion, list_any}
use Rattle.std.specs.Option.{option_eq}
use Rattle.std.proofs.lemmas.Bool.{eq-eqb}
use mathlib.Core.Logic.{inl, inr}
use Rattle.q_model.specs.declared.class_view.ClassView.{ClassView}
use Rattle.q_model.specs.declared.place.Place.{Place}
use Rattle.q_model.specs.declared.place.Place.TheVariants as place
use Rattle.q_setup.specs.Alike.{AreAlike, Entry, IsAmong, IsLike, has_classes, quantum_of, same_share}
use Rattle.q_setup.specs.Naming.{is_chosen, same_handle, same_major, same_place}

same : (n : ℕ) → (n == n) ≡ true
same n = eq-eqb n n refl

-- a choice between two truths
chosen : (chooses is : Bool) → is ≡ true → (k : Bool) → k ≡ true → (if chooses then is else k) ≡ true
chosen true is h k e = h
chosen false is h k e = e

self_major : (keep : Bool) (n : ℕ) → same_major keep n n ≡ true
self_major false n = same n
self_major true n = by (is_chosen n) where
  by : (b : Bool) → (if b then b else n == n) ≡ true
  by true = refl
  by false = same n

self_handle : (keep : Bool) (h : Option ℕ) → same_handle keep h h ≡ true
self_handle keep None = refl
self_handle keep (Some n) = self_major keep n

self_place : (keep : Bool) (p : Place) → same_place keep p p ≡ true
self_place keep place.Top = refl
self_place keep place.Root = refl
self_place keep (place.Class class) = ap₂ (λ a b. a && b) (self_major keep class.major) (same class.minor)

self_option : (q : Option ℕ) → option_eq (λ a b. a == b) q q ≡ true
self_option None = refl
self_option (Some n) = same n

self_share : (c : ClassView) → same_share c c ≡ true
self_share c = ap₂ (λ a b. a && b) (same c.class.minor) (self_option (quantum_of c.kind))

any_behind : (d : ClassView) (p : ClassView → Bool) (ds : List ClassView) → list_any p ds ≡ true → list_any p (d ∷ ds) ≡ true
any_behind d p ds h = by (p d) (list_any p ds) h where
  by : (a b : Bool) → b ≡ true → (a || b) ≡ true
  by true b e = refl
  by false b e = e

all_behind : (d : ClassView) (cs ds : List ClassView) → has_classes cs ds ≡ true → has_classes cs (d ∷ ds) ≡ true
all_behind d [] ds h = refl
all_behind d (c ∷ cs) ds h = let parts = both (list_any (same_share c) ds) (has_classes cs ds) h in
    ap₂ (λ a b. a && b) (any_behind d (same_share c) ds parts.0) (all_behind d cs ds parts.1) where
      both : (a b : Bool) → (a && b) ≡ true → (a ≡ true) × (b ≡ true)
      both true b e = (refl, e)
      both false b e = (e, by b e) where
        by : (b : Bool) → false ≡ true → b ≡ true
        by true e = refl
        by false e = e

self_classes : (cs : List ClassView) → has_classes cs cs ≡ true
self_classes [] = refl
self_classes (c ∷ cs) =
    ap₂ (λ a b. a && b) (ap (λ b. b || list_any (same_share c) cs) (self_share c)) (all_behind c cs cs (self_classes cs))

self_like : (keep : Bool) (e : Entry) → IsLike keep e e
self_like keep e = record {
  handle = self_handle keep e.handle;
  place = self_place keep e.place;
  qdisc = refl;
  filters = refl;
  classes = self_classes e.classes;
  no_others = self_classes e.classes;
}

there_behind : (keep : Bool) (e : Entry) (wanted nodes : List Entry) → AllByRecursion (λ x. IsAmong (IsLike keep x) nodes) wanted → AllByRecursion (λ x. IsAmong (IsLike keep x) (e ∷ nodes)) wanted
there_behind keep e [] nodes h = tt
there_behind keep e (w ∷ wanted) nodes h = (inr h.0, there_behind keep e wanted nodes h.1)

besides_behind : (keep : Bool) (e : Entry) (wanted nodes : List Entry) → AllByRecursion (λ y. IsAmong (λ x. IsLike keep x y) wanted) nodes
    → AllByRecursion (λ y. IsAmong (λ x. IsLike keep x y) (e ∷ wanted)) nodes
besides_behind keep e wanted [] h = tt
besides_behind keep e wanted (n ∷ nodes) h = (inr h.0, besides_behind keep e wanted nodes h.1)

self_there : (keep : Bool) (es : List Entry) → AllByRecursion (λ x. IsAmong (IsLike keep x) es) es
self_there keep [] = tt
self_there keep (e ∷ es) = (inl (self_like keep e), there_behind keep e es es (self_there keep es))

self_besides : (keep : Bool) (es : List Entry) → AllByRecursion (λ y. IsAmong (λ x. IsLike keep x y) es) es
self_besides keep [] = tt
self_besides keep (e ∷ es) = (inl (self_like keep e), besides_behind keep e es es (self_besides keep es))

-- and like each that is the same
pub self_alike : (keep : Bool) (wanted nodes : List Entry) → wanted ≡ nodes → AreAlike keep wanted nodes
self_alike keep wanted nodes is = Rattle.std.proofs.Common.subst (AreAlike keep wanted) is (record { there = self_there keep wanted; besides = self_besides keep wanted })
