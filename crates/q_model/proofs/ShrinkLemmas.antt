-- A step on a tree whose nodes remember something else is the step, and then the change of what they remember.
use Rattle.std.proofs.Common.{◌≡◌, ℕ, ◌∙◌, List, [], ◌∷◌, ◌++◌, map, set, refl, sym, ap, ap₂, Option, Some, None}
use Rattle.std.specs.Prelude.{slice_get, option_map}
use Rattle.std.specs.List.{fold, flat_map}
use Rattle.std.specs.Option.{option_map_or, option_to_list}
use Rattle.std.proofs.lemmas.Option.{slice_get-map}
use Rattle.std.proofs.lemmas.List.{map-set, map-append}
use Rattle.std.proofs.lemmas.List.Sums.{fold-append}
use Rattle.q_model.specs.Tally.{Tally, Note, counted, no_counts, counts_in, history, totals, noted}
use Rattle.q_model.specs.Node.{Own, Forest, none, more, Node, Shape, nodes_in, side_by_side, children, each, each_memory, with_memory, shape, blank}
use Rattle.q_model.specs.Beneath.{beneath_own, is_empty}
use Rattle.q_model.specs.Work.{Worked, each_booked, booked, settled}
use Rattle.q_model.specs.Edit.{Child, Kept, Retuned, New, with_own, child_of, remade, above}
use Rattle.q_model.specs.Shrink.{StandsFor}

-- the two ways to remember: totals stand for histories
pub totals_for_history : StandsFor history totals counts_in
totals_for_history = record { nothing = refl; one_more = λ m n. fold-append counted no_counts m (n ∷ []) }

pub noted-stands : {M N : Type 0} (t : Tally M) (u : Tally N) (f : M → N) → StandsFor t u f → (m : M) (notes : List Note) → f (noted t m notes) ≡ noted u (f m) notes
noted-stands t u f h m [] = refl
noted-stands t u f h m (n ∷ notes) = noted-stands t u f h (t.more m n) notes ∙ ap (λ x. noted u x notes) (h.one_more m n)

-- one change of memory after another
pub each_memory-twice : {M N K : Type 0} (g : N → K) (f : M → N) (x : Forest M) → each_memory g (each_memory f x) ≡ each_memory (λ m. g (f m)) x
each_memory-twice g f none = refl
each_memory-twice g f (more own m below others) =
    ap₂ (λ b o. more own (g (f m)) b o) (each_memory-twice g f below) (each_memory-twice g f others)

pub shape-with_memory : {M N : Type 0} (f : M → N) (n : Node M) → shape (with_memory f n) ≡ shape n
shape-with_memory f n = ap (λ b. record { own = n.own; memory = tt; below = b }) (each_memory-twice (λ m. tt) f n.below)

pub blank-stands : {M N : Type 0} (t : Tally M) (u : Tally N) (f : M → N) → StandsFor t u f → (s : Shape) → with_memory f (blank t s) ≡ blank u s
blank-stands t u f h s =
    ap (λ b. record { own = s.own; memory = f t.none; below = b }) (each_memory-twice f (λ m. t.none) s.below)
    ∙ ap (λ e. record { own = s.own; memory = e; below = each_memory (λ m. e) s.below }) h.nothing

-- what is found below a node does not rest on its memory
pub each-each_memory : {M N A : Type 0} (g : Own → List A → A) (f : M → N) (x : Forest M) → each g (each_memory f x) ≡ each g x
each-each_memory g f none = refl
each-each_memory g f (more own m below others) =
    ap₂ (λ b o. g own b ∷ o) (each-each_memory g f below) (each-each_memory g f others)

pub is_empty-with_memory : {M N : Type 0} (f : M → N) (n : Node M) → is_empty (with_memory f n) ≡ is_empty n
is_empty-with_memory f n = ap (λ b. Rattle.std.specs.Prelude.◌==◌ (Rattle.std.specs.Prelude.length (beneath_own n.own b)) 0) (each-each_memory beneath_own f n.below)

-- booking
pub each_booked-stands : {M N : Type 0} (t : Tally M) (u : Tally N) (f : M → N) → StandsFor t u f → (x : Forest M) (w : Forest (List Note))
    → each_memory f (each_booked t x w) ≡ each_booked u (each_memory f x) w
each_booked-stands t u f h none w = refl
each_booked-stands t u f h (more own m below others) none = refl
each_booked-stands t u f h (more own m below others) (more own_after notes below_after others_after) =
    ap (λ a. more own_after a (each_memory f (each_booked t below below_after)) (each_memory f (each_booked t others others_after))) (noted-stands t u f h m notes)
    ∙ ap₂ (λ b o. more own_after (noted u (f m) notes) b o) (each_booked-stands t u f h below below_after) (each_booked-stands t u f h others others_after)

pub booked-stands : {M N : Type 0} (t : Tally M) (u : Tally N) (f : M → N) → StandsFor t u f → (n : Node M) (w : Worked) → with_memory f (booked t n w) ≡ booked u (with_memory f n) w
booked-stands t u f h n w =
    ap₂ (λ a b. record { own = w.own; memory = a; below = b }) (noted-stands t u f h n.memory w.memory) (each_booked-stands t u f h n.below w.below)

-- children as a list
pub nodes_in-each_memory : {M N : Type 0} (f : M → N) (x : Forest M) → nodes_in (each_memory f x) ≡ map (with_memory f) (nodes_in x)
nodes_in-each_memory f none = refl
nodes_in-each_memory f (more own m below others) = ap (λ o. record { own = own; memory = f m; below = each_memory f below } ∷ o) (nodes_in-each_memory f others)

pub side_by_side-map : {M N : Type 0} (f : M → N) (ns : List (Node M)) → each_memory f (side_by_side ns) ≡ side_by_side (map (with_memory f) ns)
side_by_side-map f [] = refl
side_by_side-map f (n ∷ ns) = ap (λ o. more n.own (f n.memory) (each_memory f n.below) o) (side_by_side-map f ns)

pub child-with_memory : {M N : Type 0} (f : M → N) (n : Node M) (i : ℕ) → slice_get (children (with_memory f n)) i ≡ option_map (with_memory f) (slice_get (children n) i)
child-with_memory f n i = ap (λ xs. slice_get xs i) (nodes_in-each_memory f n.below) ∙ slice_get-map (with_memory f) (children n) i

-- edits
pub with_children : {M N : Type 0} (t : Tally M) (u : Tally N) (f : M → N) → StandsFor t u f → (old : List (Node M)) (c : Child)
    → map (with_memory f) (child_of t old c) ≡ child_of u (map (with_memory f) old) c
with_children t u f h old (Kept i) = kept (slice_get old i) ∙ sym (ap option_to_list (slice_get-map (with_memory f) old i))
  where
    kept : (x : Option (Node _)) → map (with_memory f) (option_to_list x) ≡ option_to_list (option_map (with_memory f) x)
    kept None = refl
    kept (Some y) = refl
with_children t u f h old (Retuned i own) = retuned (slice_get old i) ∙ sym (ap (λ x. map (with_own own) (option_to_list x)) (slice_get-map (with_memory f) old i))
  where
    retuned : (x : Option (Node _)) → map (with_memory f) (map (with_own own) (option_to_list x)) ≡ map (with_own own) (option_to_list (option_map (with_memory f) x))
    retuned None = refl
    retuned (Some y) = refl
with_children t u f h old (New s) = ap (λ x. x ∷ []) (blank-stands t u f h s)

pub all_children : {M N : Type 0} (t : Tally M) (u : Tally N) (f : M → N) → StandsFor t u f → (old : List (Node M)) (below : List Child)
    → map (with_memory f) (flat_map (child_of t old) below) ≡ flat_map (child_of u (map (with_memory f) old)) below
all_children t u f h old [] = refl
all_children t u f h old (c ∷ below) =
    map-append (with_memory f) (child_of t old c) (flat_map (child_of t old) below)
    ∙ ap₂ (λ a b. a ++ b) (with_children t u f h old c) (all_children t u f h old below)

pub remade-stands : {M N : Type 0} (t : Tally M) (u : Tally N) (f : M → N) → StandsFor t u f
    → (own : Own) (below : List Child) (notes : List Note) (n : Node M)
    → with_memory f (remade t own below notes n) ≡ remade u own below notes (with_memory f n)
remade-stands t u f h own below notes n =
    ap₂ (λ a b. record { own = own; memory = a; below = b }) (noted-stands t u f h n.memory notes)
    (side_by_side-map f (flat_map (child_of t (children n)) below)
    ∙ ap side_by_side (all_children t u f h (children n) below ∙ sym (ap (λ xs. flat_map (child_of u xs) below) (nodes_in-each_memory f n.below))))

pub above-stands : {M N : Type 0} (t : Tally M) (u : Tally N) (f : M → N) → StandsFor t u f
    → (notes : List Note) (i : ℕ) (child : Node M) (n : Node M)
    → with_memory f (above t notes i child n) ≡ above u notes i (with_memory f child) (with_memory f n)
above-stands t u f h notes i child n =
    ap₂ (λ a b. record { own = settled i (is_empty child) n.own; memory = a; below = b }) (noted-stands t u f h n.memory notes)
    (side_by_side-map f (set (children n) i child) ∙ ap side_by_side (map-set (with_memory f) (children n) i child ∙ sym (ap (λ xs. set xs i (with_memory f child)) (nodes_in-each_memory f n.below))))
    ∙ sym (ap (λ e. record {
      own = settled i e n.own;
      memory = noted u (f n.memory) notes;
      below = side_by_side
          (set (children (with_memory f n)) i (with_memory f child));
    }) (is_empty-with_memory f child))
