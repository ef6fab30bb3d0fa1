-- A fifo with nothing queued, which holds nothing: asking it for its packet comes to nothing, and leaves it as it is.
use Rattle.std.proofs.Common.{◌≡◌, ℕ, ◌∙◌, List, [], ◌∷◌, ◌++◌, length, refl, sym, ap, subst, Option, Some, None, option_to_list, flat_map, arith}
use Rattle.std.specs.Prelude.{true}
use Rattle.std.proofs.lemmas.Bool.{eqb-true}
use Rattle.std.proofs.lemmas.List.{length-append, length-map}
use Rattle.q_packet.specs.Descriptor.{Descriptor}
use Rattle.q_packet.specs.declared.stamped.Stamped.{Stamped}
use Rattle.q_codel.specs.FifoState.{FifoState}
use Rattle.q_codel.specs.declared.limit.Limit.{Limit}
use Rattle.q_codel.specs.Losses.{SinkState}
use Rattle.q_model.specs.Ask.{ask}
use Rattle.q_model.specs.Beneath.{beneath, beneath_own, is_empty, packets_in, packets_of}
use Rattle.q_model.specs.Node as spec
use Rattle.q_model.specs.Node.{Discipline, Node, each, none, shape, side_by_side}
use Rattle.q_model.specs.Tally.{Note, counts_in}
use Rattle.q_model.specs.Work.{booked}
use Rattle.q_tree.specs.arrival.Arrivals.{plus}
use Rattle.q_tree.specs.departure.AskSteps.{IsAskedOnce, IsToldOf}
use Rattle.q_tree.specs.departure.Holding.{packet_held}
use Rattle.q_tree.specs.departure.Shown.{Shown}
use Rattle.q_tree.specs.disciplines.EmptyFifo.{IsEmptyFifo, IsEmptyIn}
use Rattle.q_tree.specs.Kept.{Kept, kept}
use Rattle.q_tree.specs.Seen.{children_seen, discipline_seen, seen}
use Rattle.q_tree.specs.declared.node.Discipline.TheVariants as code
use Rattle.q_tree.specs.declared.node.Node.TheInside.{Inside}
use Rattle.q_codel.proofs.SinkLemmas.{told_nothing}
use Rattle.q_tree.proofs.counters.Quiet.{plus-nothing}

record IsIdle (now : ℕ) (n : Node Kept) : Type 0 where
  pub shown : (ask now (shape n)).shown ≡ None
  pub rises : (ask now (shape n)).rises ≡ []
  pub peeked : n ≡ booked kept n (ask now (shape n)).peeked

module _ (now : ℕ) (n : Node Kept) (h : IsEmptyFifo n) where
  abbrev fifo : Limit → List Stamped → Node Kept
  fifo limit packets = record n { own = record n.own { discipline = spec.Fifo limit packets; held = None }; below = none }

  same : (limit : Limit) (packets : List Stamped) → n.own.discipline ≡ spec.Fifo limit packets → n ≡ fifo limit packets
  same limit packets e = λ i. record n { own = record n.own { discipline = e i; held = h.free i }; below = h.alone i }

  idle-of : (limit : Limit) → IsIdle now (fifo limit [])
  idle-of limit = record { shown = refl; rises = refl; peeked = refl }

  idle : IsIdle now n
  idle = by n.own.discipline refl h.empty
    where
      by : (d : Discipline) → n.own.discipline ≡ d → IsEmptyIn d → IsIdle now n
      by (spec.Fifo limit []) e empty = subst (IsIdle now) (sym (same limit [] e)) (idle-of limit)
      by (spec.Fifo limit (s ∷ rest)) e empty = absurd (omega (arith, empty))
      by (spec.Prio priomap) e empty = absurd empty
      by (spec.Tbf bucket limit) e empty = absurd empty
      by (spec.Drr s) e empty = absurd empty
      by (spec.FqCodel s) e empty = absurd empty

  -- so one that is passed over is as if it had been asked
  pub idle-asked : (s : Shown) → s.packet ≡ None → (sink : SinkState) → IsAskedOnce now n n s s sink sink
  idle-asked s nothing sink = record {
    peeked = idle.peeked;
    arrived = refl;
    packet = nothing ∙ sym idle.shown;
    dropped = sym (plus-nothing s.dropped) ∙ ap (λ (notes : List Note). plus s.dropped (counts_in notes).dropped) (sym idle.rises);
    marked = sym (plus-nothing s.marked) ∙ ap (λ (notes : List Note). plus s.marked (counts_in notes).marked) (sym idle.rises);
    told = subst (λ (notes : List Note). IsToldOf notes sink sink) (sym idle.rises) (told_nothing sink);
  }

-- a fifo of the code that counts nothing as queued
all-none : (o : Option Descriptor) (packets rest : List Descriptor) → length (option_to_list o ++ packets ++ rest) ≡ 0 → (o ≡ None) × (length packets ≡ 0)
all-none (Some p) packets rest e = absurd (omega (arith, e))
all-none None packets rest e = (refl, omega (arith, length-append packets rest, e))

pub empty-fifo : (a : Inside) (n : Node Kept) → seen a ≡ n → (f : FifoState) → a.discipline ≡ code.Fifo f → is_empty n ≡ true → IsEmptyFifo n
empty-fifo a n same f is nothing =
    let count : length (beneath (seen a)) ≡ 0 = ap (λ (m : Node Kept). length (beneath m)) same ∙ eqb-true (length (beneath n)) 0 nothing in
    let own : length (option_to_list (packet_held a.held) ++ packets_of f.packets ++ []) ≡ 0 =
    ap (λ d. length (option_to_list (packet_held a.held) ++ packets_in (discipline_seen d) ++ flat_map (λ packets. packets) (each beneath_own (side_by_side (children_seen d))))) (sym is) ∙ count in
    let both = all-none (packet_held a.held) (packets_of f.packets) [] own in
    subst IsEmptyFifo same (record {
      free = both.0;
      empty = subst (λ d. IsEmptyIn (discipline_seen d)) (sym is) (omega (arith, both.1, length-map f.packets (λ (s : Stamped). s.packet)));
      alone = ap (λ d. side_by_side (children_seen d)) is;
    })
