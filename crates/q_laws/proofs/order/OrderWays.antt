-- The packets of one flow in a tree: at each node they all wait beneath the child that such a packet is put into.
use Rattle.std.proofs.Common.{◌≡◌, ℕ, zero, suc, sym, ap, subst, ◌∙◌, List, [], ◌∷◌, ◌++◌, map, Option, Some, None, option_and_then, option_to_list}
use Rattle.std.specs.Prelude.{slice_get}
use Rattle.std.proofs.lemmas.Option.{none-some, same_Some}
use Rattle.q_packet.specs.Descriptor.{Descriptor}
use Rattle.q_fqcodel.specs.Put.{flow_of}
use Rattle.q_model.specs.Tally.{Tally, Note}
use Rattle.q_model.specs.Filters.{named_class}
use Rattle.q_model.specs.Route.{band_of, class_at}
use Rattle.q_model.specs.Node.{Discipline, Fifo, Prio, Tbf, Drr, FqCodel, Own, Forest, none, more, Node, nodes_in, side_by_side, each, each_memory, with_memory}
use Rattle.q_model.specs.Beneath.{packets_in, beneath_own, beneath}
use Rattle.q_model.specs.Work.{Worked, worked, quiet, each_booked, booked}
use Rattle.q_model.proofs.ShrinkLemmas.{each-each_memory}
use Rattle.q_invariants.proofs.sums.Told.{AllTold, IsRootTold, each-booked}
use Rattle.q_invariants.proofs.tree.Forests.{each-side}
use Rattle.q_laws.specs.order.Order.{flow_among}
use Rattle.q_laws.proofs.order.OrderFlows.{flow_queues, all-flat}
use Rattle.q_laws.proofs.order.OrderParts.{flat, none-front, none-rest, OnlyAt, none-only, AreLess, less-flat, less-none, less-only}

module _ (c : Descriptor) where
  -- the child that packets of the flow go to, if there is one
  abbrev pub HasWay : Option ℕ → List (List Descriptor) → Type 0
  HasWay None below = flow_among c (flat below) ≡ []
  HasWay (Some i) below = OnlyAt c i below

  pub none-way : (o : Option ℕ) (below : List (List Descriptor)) → flow_among c (flat below) ≡ [] → HasWay o below
  none-way None below e = e
  none-way (Some i) below e = none-only c i below e

  pub less-way : (o : Option ℕ) (after below : List (List Descriptor)) → AreLess c after below → HasWay o below → HasWay o after
  less-way None after below h w = less-none c (flat after) (flat below) (less-flat c after below h) w
  less-way (Some i) after below h w = less-only c i after below h w

  pub way-only : (o : Option ℕ) (below : List (List Descriptor)) → HasWay o below → (i : ℕ) × OnlyAt c i below
  way-only None below h = (0, none-only c 0 below h)
  way-only (Some i) below h = (i, h)

  -- all packets of the flow that wait at a node are where one more of it is put
  abbrev pub IsOnWay : Own → Discipline → List (List Descriptor) → Type 0
  IsOnWay own (Fifo limit queue) below = Unit {0}
  IsOnWay own (Prio priomap) below = OnlyAt c (band_of own priomap c) below
  IsOnWay own (Tbf b limit) below = OnlyAt c 0 below
  IsOnWay own (Drr s) below = HasWay (option_and_then (λ minor. class_at minor s) (named_class own.filters c)) below
  IsOnWay own (FqCodel s) below = OnlyAt c (flow_of s c) (flow_queues s.flows)

  abbrev pub AllOnWay : {M : Type 0} → Forest M → Type 0
  AllOnWay none = Unit {0}
  AllOnWay (more own m below others) = IsOnWay own own.discipline (each beneath_own below) × AllOnWay below × AllOnWay others

  abbrev pub IsRootOnWay : {M : Type 0} → Node M → Type 0
  IsRootOnWay n = IsOnWay n.own n.own.discipline (each beneath_own n.below) × AllOnWay n.below

  abbrev pub AreOnWay : {M : Type 0} → List (Node M) → Type 0
  AreOnWay [] = Unit {0}
  AreOnWay (n ∷ ns) = IsRootOnWay n × AreOnWay ns

  -- where none wait
  none-own : (own : Own) (d : Discipline) (below : List (List Descriptor)) → flow_among c (packets_in d) ≡ [] → flow_among c (flat below) ≡ [] → IsOnWay own d below
  none-own own (Fifo limit queue) below e f = tt
  none-own own (Prio priomap) below e f = none-only c (band_of own priomap c) below f
  none-own own (Tbf b limit) below e f = none-only c 0 below f
  none-own own (Drr s) below e f = none-way (option_and_then (λ minor. class_at minor s) (named_class own.filters c)) below f
  none-own own (FqCodel s) below e f = none-only c (flow_of s c) (flow_queues s.flows) (ap (flow_among c) (sym (all-flat s.flows)) ∙ e)

  none-waits : (own : Own) (below : List (List Descriptor)) → flow_among c (beneath_own own below) ≡ [] → IsOnWay own own.discipline below × (flow_among c (flat below) ≡ [])
  none-waits own below e =
      let last = none-rest c (option_to_list own.held ++ packets_in own.discipline) (flat below) e in
      let first = none-front c (option_to_list own.held ++ packets_in own.discipline) (flat below) e in
      (none-own own own.discipline below (none-rest c (option_to_list own.held) (packets_in own.discipline) first) last, last)

  none-below : {M : Type 0} (x : Forest M) → flow_among c (flat (each beneath_own x)) ≡ [] → AllOnWay x
  none-below none e = tt
  none-below (more own m below others) e =
      let here = none-waits own (each beneath_own below) (none-front c (beneath_own own (each beneath_own below)) (flat (each beneath_own others)) e) in
      (here.0, none-below below here.1, none-below others (none-rest c (beneath_own own (each beneath_own below)) (flat (each beneath_own others)) e))

  pub none-on-way : {M : Type 0} (n : Node M) → flow_among c (beneath n) ≡ [] → IsRootOnWay n
  none-on-way n e = let here = none-waits n.own (each beneath_own n.below) e in (here.0, none-below n.below here.1)

  -- what is noted does not matter
  way-memory : {A B : Type 0} (f : A → B) (x : Forest A) → AllOnWay x → AllOnWay (each_memory f x)
  way-memory f none h = tt
  way-memory f (more own m below others) h =
      (subst (IsOnWay own own.discipline) (sym (each-each_memory beneath_own f below)) h.0, way-memory f below h.1, way-memory f others h.2)

  pub way-with_memory : {A B : Type 0} (f : A → B) (n : Node A) → IsRootOnWay n → IsRootOnWay (with_memory f n)
  way-with_memory f n h = (subst (IsOnWay n.own n.own.discipline) (sym (each-each_memory beneath_own f n.below)) h.0, way-memory f n.below h.1)

  below-booked : {M : Type 0} (t : Tally M) (x : Forest M) (y : Forest (List Note)) → AllTold x y → AllOnWay y → AllOnWay (each_booked t x y)
  below-booked t none none told h = tt
  below-booked t none (more own notes below others) told h = absurd told
  below-booked t (more own m below others) none told h = absurd told
  below-booked t (more own m below others) (more own_after notes below_after others_after) told h = (
    subst (IsOnWay own_after own_after.discipline) (sym (each-booked t beneath_own below below_after told.2)) h.0,
    below-booked t below below_after told.2 h.1,
    below-booked t others others_after told.3 h.2,
  )

  pub way-booked : {M : Type 0} (t : Tally M) (n : Node M) (w : Worked) → IsRootTold n w → IsRootOnWay w → IsRootOnWay (booked t n w)
  way-booked t n w told h = (subst (IsOnWay w.own w.own.discipline) (sym (each-booked t beneath_own n.below w.below told.2)) h.0, below-booked t n.below w.below told.2 h.1)

  -- nodes as a list
  way-side : {M : Type 0} (ns : List (Node M)) → AreOnWay ns → AllOnWay (side_by_side ns)
  way-side [] h = tt
  way-side (n ∷ ns) h = (h.0.0, h.0.1, way-side ns h.1)

  pub way-worked : (own : Own) (notes : List Note) (ns : List Worked) → IsOnWay own own.discipline (map beneath ns) → AreOnWay ns → IsRootOnWay (worked own notes ns)
  way-worked own notes ns h all = (subst (IsOnWay own own.discipline) (sym (each-side beneath_own ns)) h, way-side ns all)

  pub way-quiets : (x : Forest (Unit {0})) → AllOnWay x → AreOnWay (map quiet (nodes_in x))
  way-quiets none h = tt
  way-quiets (more own m below others) h = (way-with_memory (λ u. []) (record { own = own; memory = m; below = below }) (h.0, h.1), way-quiets others h.2)

  pub child-way : {M : Type 0} (x : Forest M) (i : ℕ) (n : Node M) → AllOnWay x → slice_get (nodes_in x) i ≡ Some n → IsRootOnWay n
  child-way none i n h e = absurd (none-some n e)
  child-way (more own m below others) zero n h e = subst IsRootOnWay (same_Some (record { own = own; memory = m; below = below }) n e) (h.0, h.1)
  child-way (more own m below others) (suc i) n h e = child-way others i n h.2 e
