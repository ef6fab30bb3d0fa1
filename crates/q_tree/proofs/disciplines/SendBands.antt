-- The bands of a prio up to the first that shows a packet, which has it at hand then, and sends it.
use Rattle.std.proofs.Common.{◌≡◌, ℕ, zero, suc, ◌<◌, ◌∙◌, List, [], ◌∷◌, ◌++◌, length, map, take, drop, set, sym, ap, Option, Some, None, arith}
use Rattle.std.specs.Prelude.{true, is_some, slice_get, if◌then◌else◌}
use Rattle.std.proofs.lemmas.List.{length-set, set-set}
use Rattle.std.proofs.lemmas.Option.{same_Some, slice_get_within}
use Rattle.q_packet.specs.Descriptor.{Descriptor}
use Rattle.q_codel.specs.Losses.{SinkState}
use Rattle.q_model.specs.Ask.{Asked, befores, ask, ask_prio}
use Rattle.q_model.specs.Node.{Node, Own, shape, side_by_side}
use Rattle.q_model.specs.Pop.{pop}
use Rattle.q_model.specs.Work.{Worked, booked, each_booked}
use Rattle.q_tree.specs.departure.AskSteps.{CanAsk, CanAskEach, AreAsked, IsAskedOnce, IsToldOf, answers}
use Rattle.q_tree.specs.departure.SendSteps.{AreSent, left_of}
use Rattle.q_tree.specs.departure.Shown.{Shown}
use Rattle.q_tree.specs.Kept.{Kept, kept}
use Rattle.q_tree.proofs.departure.Asking.{booked_all, all-set, set-at, side-all, still-there}
use Rattle.q_tree.proofs.departure.AskOnce.{can-ask}
use Rattle.q_tree.proofs.departure.Peeks.{hand-asked, popped-asked}
use Rattle.q_tree.proofs.departure.PopLemmas.{set-within}
use Rattle.q_tree.proofs.disciplines.AskBands.{AreBandsAsked, first_showing, peeked_to, told_to, answer-at, band-before, band-place, band-shown}

-- where nothing is shown, nothing is taken
pub asked-sent : {sink sink2 : SinkState} (a : Asked) (ns ms : List (Node Kept)) (s : Shown) → a.shown ≡ None → AreAsked a ns ms s sink sink2 → AreSent a ns ms s sink sink2
asked-sent a ns ms s none h = record {
  long = h.long;
  nodes = h.nodes ∙ ap (λ (o : Option Descriptor). each_booked kept (side_by_side ns) (if is_some o then a.taken else a.peeked).below) (sym none);
  within = h.within;
  shown = h.shown;
  told = h.told;
}

-- the bands before this place were asked, and the one there gave its packet
abbrev taken_at : ℕ → List Asked → List Worked
taken_at k below = map (λ (a : Asked). a.peeked) (take k below) ++ map (λ (a : Asked). a.taken) (drop k (take (suc k) below)) ++ befores (drop (suc k) below)

taken-next : (below : List Asked) (i : ℕ) (a : Asked) → slice_get below i ≡ Some a → set (peeked_to i below) i a.taken ≡ taken_at i below
taken-next [] i a e = cc
taken-next (b ∷ below) zero a e = ap (λ (x : Asked). x.taken ∷ befores below) (sym (same_Some b a e))
taken-next (b ∷ below) (suc i) a e = ap (λ xs. b.peeked ∷ xs) (taken-next below i a e)

taken-below : (own : Own) (below : List Asked) (k : ℕ) (p : Descriptor) → first_showing below ≡ k → (ask_prio own below).shown ≡ Some p
    → side_by_side (taken_at k below) ≡ (left_of (ask_prio own below)).below
taken-below own below k p is some =
    let a : Asked = ask_prio own below in
    sym (ap (λ n. side_by_side (taken_at n below)) is) ∙ sym (ap (λ (o : Option Descriptor). (if is_some o then a.taken else a.peeked).below) some)

module _ (now : ℕ) (ns ms : List (Node Kept)) (i : ℕ) (s : Shown) (each : CanAskEach now ns) (h : AreBandsAsked now ns ms i s) (c : Node Kept) (at : slice_get ns i ≡ Some c)
    {told_before told : SinkState} (m : Node Kept) (result : Shown) (asked : IsAskedOnce now c m s result told_before told) (p : Descriptor) (some : result.packet ≡ Some p) where
  shows : is_some result.packet ≡ true
  shows = ap is_some some

  place : first_showing (answers now ns) ≡ i
  place = band-place now ns ms i s each h c at m result asked shows

  can : CanAsk now c
  can = can-ask now ns ms (peeked_to i (answers now ns)) (told_to i (answers now ns)) each h.asking i c at (band-before now ns ms i s each h c at)

  still : slice_get ms i ≡ Some c
  still = still-there now ns ms (peeked_to i (answers now ns)) (told_to i (answers now ns)) h.asking i c at (band-before now ns ms i s each h c at)

  here : (n : Node Kept) → slice_get (set ms i m) i ≡ Some n → n ≡ m
  here n there = same_Some n m (sym there ∙ set-at ms i c m still)

  -- once it has handed out its packet, which it has at hand
  module _ (d : Node Kept) (gone : d ≡ booked kept m (pop m).after) (same : d.memory.counts.arrived ≡ m.memory.counts.arrived) where
    taken : d ≡ booked kept c (ask now (shape c)).taken
    taken = gone ∙ (popped-asked now c m p can asked.peeked (sym asked.packet ∙ some)).left

    given-bands : set (set ms i m) i d ≡ booked_all ns (taken_at i (answers now ns))
    given-bands =
        let a : Asked = ask now (shape c) in
        set-set ms i m d ∙ ap (set ms i) taken ∙ ap (λ xs. set xs i (booked kept c a.taken)) h.asking.children ∙ all-set ns (peeked_to i (answers now ns)) i c a.taken at
        ∙ ap (booked_all ns) (taken-next (answers now ns) i a (answer-at now ns ms i s each h c at))

    band-sent : (sink : SinkState) → IsToldOf (told_to i (answers now ns)) sink told_before → (own : Own)
        → AreSent (ask_prio own (answers now ns)) ns (set (set ms i m) i d) result sink told
    band-sent sink so_far own =
        let all = band-shown now ns ms i s each h c at m result asked sink so_far shows own in
        record {
          long = length-set (set ms i m) i d ∙ all.long;
          nodes = ap side_by_side given-bands ∙ side-all ns (taken_at i (answers now ns))
              ∙ ap (each_booked kept (side_by_side ns)) (taken-below own (answers now ns) i p place (sym all.shown.packet ∙ some));
          within = λ t fine. set-within (set ms i m) i m d (set-at ms i c m still) same t (all.within t fine);
          shown = all.shown;
          told = all.told;
        }

  pub band-inside : i < length (set ms i m)
  band-inside = omega (arith, slice_get_within ms i c still, length-set ms i m)

  pub band-hands : (n : Node Kept) → slice_get (set ms i m) i ≡ Some n → (pop n).shown ≡ result.packet
  band-hands n there = ap (λ (x : Node Kept). (pop x).shown) (here n there) ∙ hand-asked now c m can asked.peeked ∙ sym asked.packet

  pub band-gives : (n d : Node Kept) → slice_get (set ms i m) i ≡ Some n → d ≡ booked kept n (pop n).after → d.memory.counts.arrived ≡ n.memory.counts.arrived
      → (sink : SinkState) → IsToldOf (told_to i (answers now ns)) sink told_before → (own : Own)
      → AreSent (ask_prio own (answers now ns)) ns (set (set ms i m) i d) result sink told
  band-gives n d there gone same =
      let is = here n there in
      band-sent d (gone ∙ ap (λ (x : Node Kept). booked kept x (pop x).after) is) (same ∙ ap (λ (x : Node Kept). x.memory.counts.arrived) is)
