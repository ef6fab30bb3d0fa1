-- A peek and a take leave every queue the places that it had: the same nodes stand in the same places, and each has its own.
use Rattle.std.proofs.Common.{◌≡◌, ℕ, zero, suc, ◌≤◌, ◌^◌, List, [], ◌∷◌, refl, ap, subst}
use Rattle.std.specs.Prelude.{Bool, true, false, is_some, if◌then◌else◌}
use Rattle.q_model.specs.Ask.{Asked, ask}
use Rattle.q_model.specs.Node.{Forest, none, more, Node, nodes_in, shape}
use Rattle.q_model.specs.Tally.{Note}
use Rattle.q_model.specs.TreeState.{TreeState, peek_packet, take_packet}
use Rattle.q_model.specs.Work.{Worked, each_booked, booked}
use Rattle.q_invariants.specs.Kept.{IsLawfulRoot}
use Rattle.q_invariants.proofs.ask.Answer.{IsAnswer}
use Rattle.q_invariants.proofs.ask.Asks.{ask-answers, before-root}
use Rattle.q_invariants.proofs.sums.Told.{AllTold, IsRootTold, root-memory}
use Rattle.q_invariants.proofs.tree.Forests.{lawful-with_memory}
use Rattle.q_tree.specs.arrival.Places.{places_at, places_under}
use Rattle.q_tree.specs.Kept.{Kept, kept}
use Rattle.q_tree.proofs.departure.Forms.{noted-kept}

told-places : (x : Forest Kept) (y : Forest (List Note)) → AllTold x y → (way : List ℕ) (i : ℕ) → places_under way i (nodes_in (each_booked kept x y)) ≡ places_under way i (nodes_in x)
told-places none none h way i = refl
told-places none (more own notes below others) h way i = absurd h
told-places (more own m below others) none h way i = absurd h
told-places (more own m below others) (more own_after notes below_after others_after) h [] zero = ap (λ (k : Kept). k.places) (noted-kept m notes)
told-places (more own m below others) (more own_after notes below_after others_after) h (j ∷ way) zero = told-places below below_after h.2 way j
told-places (more own m below others) (more own_after notes below_after others_after) h way (suc i) = told-places others others_after h.3 way i

booked-places : (n : Node Kept) (w : Worked) → IsRootTold n w → (way : List ℕ) → places_at way (booked kept n w) ≡ places_at way n
booked-places n w h [] = ap (λ (k : Kept). k.places) (noted-kept n.memory w.memory)
booked-places n w h (j ∷ way) = told-places n.below w.below h.2 way j

module _ (mtu now : ℕ) (least : 1 ≤ mtu) (low : now ≤ 2 ^ 62) (s : TreeState Kept) (lawful : IsLawfulRoot mtu now s.root) where
  abbrev asked_root : Asked
  asked_root = ask now (shape s.root)

  answer : IsAnswer mtu now asked_root
  answer = ask-answers mtu now least low (shape s.root) (lawful-with_memory mtu now (λ m. tt) s.root lawful)

  told : (w : Worked) → IsRootTold asked_root.before w → IsRootTold s.root w
  told w t = root-memory (λ m. tt) s.root w (root-memory (λ u. []) (shape s.root) w (subst (λ (n : Worked). IsRootTold n w) (before-root now (shape s.root)) t))

  pub peek-places : (way : List ℕ) → places_at way (peek_packet kept now s).root ≡ places_at way s.root
  peek-places way = booked-places s.root asked_root.peeked (told asked_root.peeked answer.told_peeked) way

  pub take-places : (way : List ℕ) → places_at way (take_packet kept now s).root ≡ places_at way s.root
  take-places way = by (is_some asked_root.shown) where
    by : (given : Bool) → places_at way (booked kept s.root (if given then asked_root.taken else asked_root.peeked)) ≡ places_at way s.root
    by false = peek-places way
    by true = booked-places s.root asked_root.taken (told asked_root.taken answer.told_taken) way
