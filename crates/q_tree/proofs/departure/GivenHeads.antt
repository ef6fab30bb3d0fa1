-- A packet that is given with nothing lost or marked.
use Rattle.std.proofs.Common.{◌≡◌, ℕ, ◌∙◌, List, [], set, refl, sym, ap, subst, Some, None}
use Rattle.std.specs.Prelude.{slice_get}
use Rattle.q_packet.specs.Descriptor.{Descriptor}
use Rattle.q_packet.specs.declared.stamped.Stamped.{Stamped}
use Rattle.q_codel.specs.declared.limit.Limit.{Limit}
use Rattle.q_codel.proofs.SinkLemmas.{told_nothing}
use Rattle.q_model.specs.Ask.{ask, ask_prio}
use Rattle.q_model.specs.Node as spec
use Rattle.q_model.specs.Node.{Discipline, Node, Own, none, shape}
use Rattle.q_model.specs.Pop.{pop}
use Rattle.q_model.specs.Tally.{Note, no_totals}
use Rattle.q_model.specs.Work.{booked}
use Rattle.q_tree.specs.arrival.Arrivals.{plus}
use Rattle.q_tree.specs.arrival.KeepSteps.{no_sink}
use Rattle.q_tree.specs.departure.AskSteps.{CanAskEach, IsAskedOnce, IsToldOf, answers}
use Rattle.q_tree.specs.departure.GiveSteps.{alone, nothing_shown}
use Rattle.q_tree.specs.departure.PopSteps.{HasHead, HasHeadIn}
use Rattle.q_tree.specs.departure.SendSteps.{AreSent}
use Rattle.q_tree.specs.Kept.{Kept, kept}
use Rattle.q_tree.proofs.departure.Asking.{set-same, still-there}
use Rattle.q_tree.proofs.disciplines.AskBands.{AreBandsAsked, band-before, peeked_to, told_to}
use Rattle.q_tree.proofs.disciplines.FifoHead.{head-sent}
use Rattle.q_tree.proofs.disciplines.SendBands.{band-gives}

module _ (now : ℕ) (n : Node Kept) (h : HasHead n) where
  abbrev fifo : Limit → List Stamped → Node Kept
  fifo limit packets = record n { own = record n.own { discipline = spec.Fifo limit packets; held = None }; below = none }

  same : (limit : Limit) (packets : List Stamped) → n.own.discipline ≡ spec.Fifo limit packets → n ≡ fifo limit packets
  same limit packets e = λ i. record n { own = record n.own { discipline = e i; held = h.free i }; below = h.alone i }

  -- a fifo has nothing to tell
  pub head-quiet : (ask now (shape n)).rises ≡ []
  head-quiet = by n.own.discipline refl h.head
    where
      by : (d : Discipline) → n.own.discipline ≡ d → HasHeadIn d → (ask now (shape n)).rises ≡ []
      by (spec.Fifo limit packets) e has = ap (λ (m : Node Kept). (ask now (shape m)).rises) (same limit packets e)
      by (spec.Prio priomap) e has = absurd has
      by (spec.Tbf bucket limit) e has = absurd has
      by (spec.Drr s) e has = absurd has
      by (spec.FqCodel s) e has = absurd has

  -- so its head is what it shows, asked or not
  pub head-asked : (p : Descriptor) → Some p ≡ (pop n).shown → IsAskedOnce now n n nothing_shown (alone p) no_sink no_sink
  head-asked p is =
      let sent = head-sent now n p h is in
      record {
        peeked = sent.peeked;
        arrived = refl;
        packet = sent.shown.packet;
        dropped = ap (plus no_totals) sent.shown.dropped;
        marked = ap (plus no_totals) sent.shown.marked;
        told = subst (λ (notes : List Note). IsToldOf notes no_sink no_sink) (sym head-quiet) (told_nothing no_sink);
      }

-- the band in this place is a fifo that gives its head, and those before it had nothing
module _ (now : ℕ) (ns ms : List (Node Kept)) (i : ℕ) (each : CanAskEach now ns) (h : AreBandsAsked now ns ms i nothing_shown) (c : Node Kept)
    (at : slice_get ns i ≡ Some c) (head : HasHead c) (p : Descriptor) (is : Some p ≡ (pop c).shown) (d : Node Kept) (gone : d ≡ booked kept c (pop c).after)
    (arrived : d.memory.counts.arrived ≡ c.memory.counts.arrived) where
  still : slice_get ms i ≡ Some c
  still = still-there now ns ms (peeked_to i (answers now ns)) (told_to i (answers now ns)) h.asking i c at (band-before now ns ms i nothing_shown each h c at)

  back : set ms i c ≡ ms
  back = set-same ms i c still

  pub head-band : IsToldOf (told_to i (answers now ns)) no_sink no_sink → (own : Own) → AreSent (ask_prio own (answers now ns)) ns (set ms i d) (alone p) no_sink no_sink
  head-band so_far own =
      subst (λ (xs : List (Node Kept)). AreSent (ask_prio own (answers now ns)) ns (set xs i d) (alone p) no_sink no_sink) back
      (band-gives now ns ms i nothing_shown each h c at c (alone p) (head-asked now c head p is) p refl c d (ap (λ xs. slice_get xs i) back ∙ still) gone arrived no_sink so_far own)
