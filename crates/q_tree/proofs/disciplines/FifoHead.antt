-- A fifo that has a packet, and holds none, gives its head: asking it changes nothing, and CoDel neither drops nor marks there.
use Rattle.std.proofs.Common.{◌≡◌, ℕ, List, [], ◌∷◌, refl, sym, subst, Some, None, arith}
use Rattle.q_packet.specs.Descriptor.{Descriptor}
use Rattle.q_packet.specs.declared.stamped.Stamped.{Stamped}
use Rattle.q_codel.specs.declared.limit.Limit.{Limit}
use Rattle.q_model.specs.Ask.{ask, take_from}
use Rattle.q_model.specs.Node as spec
use Rattle.q_model.specs.Node.{Discipline, Node, none, shape}
use Rattle.q_model.specs.Pop.{pop}
use Rattle.q_model.specs.Tally.{no_totals}
use Rattle.q_model.specs.Work.{booked}
use Rattle.q_tree.specs.departure.AskSteps.{IsShown}
use Rattle.q_tree.specs.departure.PopSteps.{HasHead, HasHeadIn}
use Rattle.q_tree.specs.departure.Shown.{Shown}
use Rattle.q_tree.specs.Kept.{Kept, kept}

-- this packet is shown, and nothing was dropped or marked
abbrev pub alone : Descriptor → Shown
alone p = record { packet = Some p; dropped = no_totals; marked = no_totals }

pub record IsHeadSent (now : ℕ) (n : Node Kept) (p : Descriptor) : Type 0 where
  pub shown : IsShown (ask now (shape n)) (alone p)
  pub peeked : n ≡ booked kept n (ask now (shape n)).peeked
  pub gone : booked kept n (take_from now (shape n)).node ≡ booked kept n (pop n).after

module _ (now : ℕ) (n : Node Kept) (p : Descriptor) (h : HasHead n) (given : Some p ≡ (pop n).shown) where
  abbrev fifo : Limit → List Stamped → Node Kept
  fifo limit packets = record n { own = record n.own { discipline = spec.Fifo limit packets; held = None }; below = none }

  same : (limit : Limit) (packets : List Stamped) → n.own.discipline ≡ spec.Fifo limit packets → n ≡ fifo limit packets
  same limit packets e = λ i. record n { own = record n.own { discipline = e i; held = h.free i }; below = h.alone i }

  head-of : (limit : Limit) (s : Stamped) (rest : List Stamped) → Some p ≡ (pop (fifo limit (s ∷ rest))).shown → IsHeadSent now (fifo limit (s ∷ rest)) p
  head-of limit s rest is = record { shown = record { packet = is; dropped = refl; marked = refl }; peeked = refl; gone = refl }

  pub head-sent : IsHeadSent now n p
  head-sent = by n.own.discipline refl h.head
    where
      by : (d : Discipline) → n.own.discipline ≡ d → HasHeadIn d → IsHeadSent now n p
      by (spec.Fifo limit []) e has = absurd (omega (arith, has))
      by (spec.Fifo limit (s ∷ rest)) e has = subst (λ (m : Node Kept). Some p ≡ (pop m).shown → IsHeadSent now m p) (sym (same limit (s ∷ rest) e)) (head-of limit s rest) given
      by (spec.Prio priomap) e has = absurd has
      by (spec.Tbf bucket limit) e has = absurd has
      by (spec.Drr s) e has = absurd has
      by (spec.FqCodel s) e has = absurd has
