-- A tree that is lawful at a clock is lawful at every later one.
use Rattle.std.proofs.Common.{ℕ, ◌≤◌, List, arith}
use Rattle.std.proofs.lemmas.List.Elements.{All-weaker}
use Rattle.q_packet.specs.Descriptor.{Descriptor}
use Rattle.q_packet.specs.declared.stamped.Stamped.{Stamped}
use Rattle.q_fqcodel.specs.FqState.{FqSettings, Flow}
use Rattle.q_model.specs.Node.{Discipline, Fifo, Prio, Tbf, Drr, FqCodel, Own, Forest, none, more, Node, each}
use Rattle.q_model.specs.Beneath.{beneath_own}
use Rattle.q_model.specs.Lawful.{IsStampedBy, IsLawfulFlow, IsLawfulDiscipline, IsLawfulOwn}
use Rattle.q_invariants.specs.Kept.{AllLawful, IsLawfulRoot}

module _ (clock now : ℕ) (le : clock ≤ now) where
  pub stamped-later : (queue : List Stamped) → IsStampedBy clock queue → IsStampedBy now queue
  stamped-later queue h = record {
    past = All-weaker (λ (s : Stamped). s.at ≤ clock) (λ (s : Stamped). s.at ≤ now) (λ s e. omega arith) queue h.past;
    in_order = h.in_order;
  }

  pub flow-later : (settings : FqSettings) (f : Flow) → IsLawfulFlow clock settings f → IsLawfulFlow now settings f
  flow-later settings f h = record { settings = h.settings; state = h.state; agrees = h.agrees; stamps = stamped-later f.queue h.stamps }

  pub discipline-later : (mtu : ℕ) (below : List (List Descriptor)) (d : Discipline) → IsLawfulDiscipline mtu clock below d → IsLawfulDiscipline mtu now below d
  discipline-later mtu below (Fifo limit queue) h = record { stamps = stamped-later queue h.stamps; none = h.none }
  discipline-later mtu below (Prio priomap) h = h
  discipline-later mtu below (Tbf b limit) h = record { level = h.level; last = omega (arith, h.last); one = h.one; short = h.short }
  discipline-later mtu below (Drr s) h = h
  discipline-later mtu below (FqCodel s) h = record {
    settings = h.settings;
    longest = h.longest;
    lists = h.lists;
    flows = All-weaker (IsLawfulFlow clock s.settings) (IsLawfulFlow now s.settings) (flow-later s.settings) s.flows h.flows;
    none = h.none;
  }

  pub own-later : (mtu : ℕ) (own : Own) (below : List (List Descriptor)) → IsLawfulOwn mtu clock own below → IsLawfulOwn mtu now own below
  own-later mtu own below h = record {
    discipline = discipline-later mtu below own.discipline h.discipline;
    lengths = h.lengths;
    held = h.held;
    filters = h.filters;
    in_order = h.in_order;
    named = h.named;
  }

  pub lawful-later : {M : Type 0} (mtu : ℕ) (x : Forest M) → AllLawful mtu clock x → AllLawful mtu now x
  lawful-later mtu none h = tt
  lawful-later mtu (more own m below others) h =
      (own-later mtu own (each beneath_own below) h.0, lawful-later mtu below h.1, lawful-later mtu others h.2)

  pub root-later : {M : Type 0} (mtu : ℕ) (n : Node M) → IsLawfulRoot mtu clock n → IsLawfulRoot mtu now n
  root-later mtu n h = (own-later mtu n.own (each beneath_own n.below) h.0, lawful-later mtu n.below h.1)
