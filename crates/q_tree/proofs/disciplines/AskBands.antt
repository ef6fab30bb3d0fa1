-- The bands of a prio that are asked in order, up to the first that shows a packet.
use Rattle.std.proofs.Common.{◌≡◌, ℕ, zero, suc, ◌+◌, ◌≤◌, ◌<◌, ◌∙◌, List, [], ◌∷◌, ◌++◌, append_assoc, map, take, drop, set, length, add-one, refl, sym, ap, ap₂, subst, Option, Some, None, option_and_then, option_map, flat_map, arith}
use Rattle.std.specs.Prelude.{Bool, true, false, not, cond, is_some, slice_get, slice_index_or}
use Rattle.std.specs.List.{position_or_len}
use Rattle.std.proofs.lemmas.List.{append-nil, take_all, drop_all, length-map}
use Rattle.std.proofs.lemmas.Option.{same_Some, slice_get-map, get_or_from_slice_get}
use Rattle.q_packet.specs.Descriptor.{Descriptor}
use Rattle.q_codel.specs.Losses.{SinkState}
use Rattle.q_model.specs.Ask.{Asked, befores, ask, ask_prio}
use Rattle.q_model.specs.Node.{Node, Own, shape, side_by_side}
use Rattle.q_model.specs.Tally.{Note, counts_in}
use Rattle.q_model.specs.Work.{Worked, each_booked}
use Rattle.q_tree.specs.arrival.PutSteps.{packets_beneath}
use Rattle.q_tree.specs.departure.AskSteps.{CanAskEach, CanAskOnce, AreAsked, IsAskedOnce, IsToldOf, answers}
use Rattle.q_tree.specs.departure.Shown.{Shown}
use Rattle.q_tree.specs.Kept.{Kept, kept}
use Rattle.q_tree.proofs.departure.Asking.{IsAsking, asking-starts, asking-goes, still-there, side-all}
use Rattle.q_tree.proofs.departure.AskOnce.{IsCounted, can-ask, can-ask-once, counted-then, told-then}
use Rattle.q_tree.proofs.departure.PopLemmas.{none-there}

abbrev pub shows : Asked → Bool
shows a = is_some a.shown

abbrev pub first_showing : List Asked → ℕ
first_showing below = position_or_len shows below

-- the bands before this place were asked: what they and the others are, and what was told of them
abbrev pub peeked_to : ℕ → List Asked → List Worked
peeked_to i below = map (λ (a : Asked). a.peeked) (take i below) ++ befores (drop i below)

abbrev pub told_to : ℕ → List Asked → List Note
told_to i below = flat_map (λ (a : Asked). a.rises) (take i below)

at-place : (below : List Asked) (i : ℕ) (a : Asked) → slice_get below i ≡ Some a → slice_get (peeked_to i below) i ≡ Some a.before
at-place [] i a e = cc
at-place (b ∷ below) zero a e = ap (λ (x : Asked). Some x.before) (same_Some b a e)
at-place (b ∷ below) (suc i) a e = at-place below i a e

peeked-next : (below : List Asked) (i : ℕ) (a : Asked) → slice_get below i ≡ Some a → set (peeked_to i below) i a.peeked ≡ peeked_to (suc i) below
peeked-next [] i a e = cc
peeked-next (b ∷ below) zero a e = ap (λ (x : Asked). x.peeked ∷ befores below) (sym (same_Some b a e))
peeked-next (b ∷ below) (suc i) a e = ap (λ xs. b.peeked ∷ xs) (peeked-next below i a e)

told-next : (below : List Asked) (i : ℕ) (a : Asked) → slice_get below i ≡ Some a → told_to i below ++ a.rises ≡ told_to (suc i) below
told-next [] i a e = cc
told-next (b ∷ below) zero a e = ap (λ (x : Asked). x.rises) (sym (same_Some b a e)) ∙ sym (append-nil b.rises)
told-next (b ∷ below) (suc i) a e = append_assoc b.rises (told_to i below) a.rises ∙ ap (λ xs. b.rises ++ xs) (told-next below i a e)

-- what a band shows and counts
abbrev next_of : ℕ → Node Kept → Shown
next_of now band = let a = ask now (shape band) in record { packet = a.shown; dropped = (counts_in a.rises).dropped; marked = (counts_in a.rises).marked }

abbrev pub NoneBefore : ℕ → List Asked → Type 0
NoneBefore i below = first_showing below ≡ i + first_showing (drop i below)

pub first-here : (below : List Asked) (i : ℕ) (a : Asked) → slice_get below i ≡ Some a → is_some a.shown ≡ true → first_showing (drop i below) ≡ 0
first-here [] i a e s = cc
first-here (b ∷ below) zero a e s = ap (λ (t : Bool). cond (not t) (1 + first_showing below) 0) (ap (λ (x : Asked). is_some x.shown) (same_Some b a e) ∙ s)
first-here (b ∷ below) (suc i) a e s = first-here below i a e s

first-later : (below : List Asked) (i : ℕ) (a : Asked) → slice_get below i ≡ Some a → is_some a.shown ≡ false → first_showing (drop i below) ≡ 1 + first_showing (drop (suc i) below)
first-later [] i a e s = cc
first-later (b ∷ below) zero a e s = ap (λ (t : Bool). cond (not t) (1 + first_showing below) 0) (ap (λ (x : Asked). is_some x.shown) (same_Some b a e) ∙ s)
first-later (b ∷ below) (suc i) a e s = first-later below i a e s

-- what a prio comes to where its first band that shows a packet stands here, or no band does
split-take : (k : ℕ) (below : List Asked)
    → map (λ (a : Asked). a.peeked) (take k below) ++ map (λ (a : Asked). a.peeked) (drop k (take (suc k) below))
    ≡ map (λ (a : Asked). a.peeked) (take (suc k) below)
split-take zero [] = refl
split-take (suc k) [] = refl
split-take zero (b ∷ below) = refl
split-take (suc k) (b ∷ below) = ap (λ xs. b.peeked ∷ xs) (split-take k below)

module _ (own : Own) (below : List Asked) (k : ℕ) (is : first_showing below ≡ k) where
  prio-below : (ask_prio own below).peeked.below ≡ side_by_side (peeked_to (suc k) below)
  prio-below =
      ap (λ n. side_by_side (map (λ (a : Asked). a.peeked) (take n below) ++ map (λ (a : Asked). a.peeked) (drop n (take (suc n) below)) ++ befores (drop (suc n) below))) is
      ∙ ap (λ ws. side_by_side (ws ++ befores (drop (suc k) below))) (split-take k below)

  pub prio-rises : (ask_prio own below).rises ≡ told_to (suc k) below
  prio-rises = ap (λ n. told_to (suc n) below) is

  pub prio-shown : (ask_prio own below).shown ≡ option_and_then (λ (a : Asked). a.shown) (slice_get below k)
  prio-shown = ap (λ n. option_and_then (λ (a : Asked). a.shown) (slice_get below n)) is

-- the bands in the midst of it
pub record AreBandsAsked (now : ℕ) (ns ms : List (Node Kept)) (i : ℕ) (s : Shown) : Type 0 where
  pub asking : IsAsking ns ms (peeked_to i (answers now ns)) (told_to i (answers now ns))
  pub nobody : NoneBefore i (answers now ns)
  pub counted : IsCounted (told_to i (answers now ns)) s
  pub nothing : s.packet ≡ None

pub bands-start : (now : ℕ) (ns : List (Node Kept)) (s : Shown) → IsCounted [] s → s.packet ≡ None → AreBandsAsked now ns ns 0 s
bands-start now ns s counted nothing = record { asking = asking-starts now ns; nobody = omega arith; counted = counted; nothing = nothing }

pub get-there : (ns : List (Node Kept)) (i : ℕ) (d : Node Kept) → i < length ns → slice_get ns i ≡ Some (slice_index_or ns i d)
get-there [] i d inside = absurd (omega (arith, inside))
get-there (n ∷ ns) zero d inside = refl
get-there (n ∷ ns) (suc i) d inside = get-there ns i d (omega (arith, inside))

-- the band that is asked next is as it was
pub band-at : (now : ℕ) (ns ms : List (Node Kept)) (i : ℕ) (s : Shown) → AreBandsAsked now ns ms i s → (d : Node Kept) → i < length ns → slice_get ns i ≡ Some (slice_index_or ms i d)
band-at now ns ms i s h d inside =
    let c : Node Kept = slice_index_or ns i d in
    let at : slice_get ns i ≡ Some c = get-there ns i d inside in
    let asked : slice_get (answers now ns) i ≡ Some (ask now (shape c)) = slice_get-map (λ (n : Node Kept). ask now (shape n)) ns i ∙ ap (option_map (λ (n : Node Kept). ask now (shape n))) at in
    let still : slice_get ms i ≡ Some c = still-there now ns ms (peeked_to i (answers now ns)) (told_to i (answers now ns)) h.asking i c at (at-place (answers now ns) i (ask now (shape c)) asked) in
    at ∙ ap Some (sym (get_or_from_slice_get ms i c d still))

module _ (now : ℕ) (ns ms : List (Node Kept)) (i : ℕ) (s : Shown) (each : CanAskEach now ns) (h : AreBandsAsked now ns ms i s) (c : Node Kept) (at : slice_get ns i ≡ Some c) where
  pub answer-at : slice_get (answers now ns) i ≡ Some (ask now (shape c))
  answer-at = slice_get-map (λ (n : Node Kept). ask now (shape n)) ns i ∙ ap (option_map (λ (n : Node Kept). ask now (shape n))) at

  pub band-before : slice_get (peeked_to i (answers now ns)) i ≡ Some (ask now (shape c)).before
  band-before = at-place (answers now ns) i (ask now (shape c)) answer-at

  pub band-once : (sink sink2 : SinkState) → IsToldOf (told_to i (answers now ns)) sink sink2 → length (packets_beneath ns) ≤ sink.room → CanAskOnce now c s sink2.room
  band-once sink sink2 told room = can-ask-once now ns ms (peeked_to i (answers now ns)) (told_to i (answers now ns)) each h.asking i c at band-before s h.counted sink sink2 told room

  module _ {told_before told : SinkState} (d : Node Kept) (result : Shown) (asked : IsAskedOnce now c d s result told_before told) where
    band-asked : IsAsking ns (set ms i d) (peeked_to (suc i) (answers now ns)) (told_to (suc i) (answers now ns))
    band-asked =
        subst (λ (notes : List Note). IsAsking ns (set ms i d) (peeked_to (suc i) (answers now ns)) notes) (told-next (answers now ns) i (ask now (shape c)) answer-at)
        (subst (λ (ws : List Worked). IsAsking ns (set ms i d) ws (told_to i (answers now ns) ++ (ask now (shape c)).rises)) (peeked-next (answers now ns) i (ask now (shape c)) answer-at)
        (asking-goes now ns ms (peeked_to i (answers now ns)) (told_to i (answers now ns)) h.asking i c at band-before
        (can-ask now ns ms (peeked_to i (answers now ns)) (told_to i (answers now ns)) each h.asking i c at band-before) d asked.peeked asked.arrived))

    band-counted : IsCounted (told_to (suc i) (answers now ns)) result
    band-counted = subst (λ (notes : List Note). IsCounted notes result) (told-next (answers now ns) i (ask now (shape c)) answer-at)
        (counted-then (told_to i (answers now ns)) (ask now (shape c)).rises s (next_of now c) result h.counted refl refl asked.dropped asked.marked)

    -- one that shows nothing is passed
    band-passed : is_some result.packet ≡ false → AreBandsAsked now ns (set ms i d) (suc i) result
    band-passed none = record {
      asking = band-asked;
      nobody = omega (arith, h.nobody, first-later (answers now ns) i (ask now (shape c)) answer-at (sym (ap is_some asked.packet) ∙ none));
      counted = band-counted;
      nothing = from result.packet none;
    }
      where
        from : (o : Option Descriptor) → is_some o ≡ false → o ≡ None
        from None e = refl
        from (Some p) e = cc

    -- and the first that shows a packet ends it
    pub band-place : is_some result.packet ≡ true → first_showing (answers now ns) ≡ i
    band-place some = omega (arith, h.nobody, first-here (answers now ns) i (ask now (shape c)) answer-at (sym (ap is_some asked.packet) ∙ some))

    module _ (sink : SinkState) (so_far : IsToldOf (told_to i (answers now ns)) sink told_before) where
      told-so-far : IsToldOf (told_to (suc i) (answers now ns)) sink told
      told-so-far =
          subst (λ notes. IsToldOf notes sink told) (told-next (answers now ns) i (ask now (shape c)) answer-at)
          (told-then (told_to i (answers now ns)) (ask now (shape c)).rises sink told_before told so_far asked.told)

      pub bands-go-on : is_some result.packet ≡ false → AreBandsAsked now ns (set ms i d) (i + 1) result × IsToldOf (told_to (i + 1) (answers now ns)) sink told
      bands-go-on none = (
        subst (λ n. AreBandsAsked now ns (set ms i d) n result) (sym (add-one i)) (band-passed none),
        subst (λ n. IsToldOf (told_to n (answers now ns)) sink told) (sym (add-one i)) told-so-far,
      )

      pub band-shown : is_some result.packet ≡ true → (own : Own) → AreAsked (ask_prio own (answers now ns)) ns (set ms i d) result sink told
      band-shown some own =
          let k = band-place some in
          let all = prio-rises own (answers now ns) i k in
          record {
            long = band-asked.long;
            nodes = ap side_by_side band-asked.children ∙ side-all ns (peeked_to (suc i) (answers now ns)) ∙ ap (each_booked kept (side_by_side ns)) (sym (prio-below own (answers now ns) i k));
            within = band-asked.within;
            shown = record {
              packet = asked.packet ∙ sym (ap (option_and_then (λ (a : Asked). a.shown)) answer-at) ∙ sym (prio-shown own (answers now ns) i k);
              dropped = band-counted.dropped ∙ ap (λ notes. (counts_in notes).dropped) (sym all);
              marked = band-counted.marked ∙ ap (λ notes. (counts_in notes).marked) (sym all);
            };
            told = subst (λ notes. IsToldOf notes sink told) (sym all) told-so-far;
          }

-- where no band shows a packet, all were asked
module _ (now : ℕ) (ns ms : List (Node Kept)) (i : ℕ) (s : Shown) (h : AreBandsAsked now ns ms i s) (past : length ns ≤ i) (inside : i ≤ length ns) where
  count : length (answers now ns) ≡ length ns
  count = length-map ns (λ (n : Node Kept). ask now (shape n))

  nobody-shows : first_showing (answers now ns) ≡ length (answers now ns)
  nobody-shows = omega (arith, h.nobody, ap first_showing (drop_all i (answers now ns) (omega (arith, past, count))), count, past, inside)

  all-peeked : (below : List Asked) (n : ℕ) → length below ≤ n → peeked_to n below ≡ map (λ (a : Asked). a.peeked) below ++ []
  all-peeked below n e = ap₂ (λ xs ys. map (λ (a : Asked). a.peeked) xs ++ befores ys) (take_all n below e) (drop_all n below e)

  all-told : (below : List Asked) (n : ℕ) → length below ≤ n → told_to n below ≡ flat_map (λ (a : Asked). a.rises) below
  all-told below n e = ap (flat_map (λ (a : Asked). a.rises)) (take_all n below e)

  bands-rises : (own : Own) → told_to i (answers now ns) ≡ (ask_prio own (answers now ns)).rises
  bands-rises own =
      all-told (answers now ns) i (omega (arith, past, count)) ∙ sym (all-told (answers now ns) (suc (length (answers now ns))) (omega arith))
      ∙ sym (prio-rises own (answers now ns) (length (answers now ns)) nobody-shows)

  pub bands-end : {sink sink2 : SinkState} → IsToldOf (told_to i (answers now ns)) sink sink2 → (own : Own) → AreAsked (ask_prio own (answers now ns)) ns ms s sink sink2
  bands-end {sink} {sink2} told own =
      let same : peeked_to i (answers now ns) ≡ peeked_to (suc (length (answers now ns))) (answers now ns) =
      all-peeked (answers now ns) i (omega (arith, past, count)) ∙ sym (all-peeked (answers now ns) (suc (length (answers now ns))) (omega arith)) in
      record {
        long = h.asking.long;
        nodes = ap side_by_side h.asking.children ∙ side-all ns (peeked_to i (answers now ns)) ∙ ap (λ ws. each_booked kept (side_by_side ns) (side_by_side ws)) same
            ∙ ap (each_booked kept (side_by_side ns)) (sym (prio-below own (answers now ns) (length (answers now ns)) nobody-shows));
        within = h.asking.within;
        shown = record {
          packet = h.nothing ∙ sym (ap (option_and_then (λ (a : Asked). a.shown)) (none-there (answers now ns))) ∙ sym (prio-shown own (answers now ns) (length (answers now ns)) nobody-shows);
          dropped = h.counted.dropped ∙ ap (λ notes. (counts_in notes).dropped) (bands-rises own);
          marked = h.counted.marked ∙ ap (λ notes. (counts_in notes).marked) (bands-rises own);
        };
        told = subst (λ notes. IsToldOf notes sink sink2) (bands-rises own) told;
      }
