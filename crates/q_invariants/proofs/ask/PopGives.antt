-- Popping keeps every packet: what a node and those beneath it have is what it gives and what they have then.
use Rattle.std.proofs.Common.{◌≡◌, ℕ, zero, suc, ◌+◌, ◌≤◌, List, [], ◌∷◌, map, drop, refl, ap, subst, Option, Some, None, option_and_then, option_to_list, arith}
use Rattle.std.specs.Prelude.{slice_get}
use Rattle.q_packet.specs.Descriptor.{Descriptor}
use Rattle.q_packet.specs.declared.stamped.Stamped.{Stamped}
use Rattle.q_codel.specs.declared.limit.Limit.{Limit}
use Rattle.q_model.specs.declared.filter.Filter.{Filter}
use Rattle.q_model.specs.Tally.{Note, Sent}
use Rattle.q_model.specs.Node.{Discipline, Fifo, Prio, Tbf, Drr, FqCodel, Own, Forest, none, more, Node, each}
use Rattle.q_model.specs.Beneath.{beneath, packets_of}
use Rattle.q_model.specs.Conserved.{held_beneath}
use Rattle.q_model.specs.Pop.{Popping, as_they_are, first_ready, popped_at, giving, pop_discipline, pop_own, pop}
use Rattle.q_model.specs.Work.{Worked, worked}
use Rattle.q_invariants.specs.Weights.{weigh}
use Rattle.q_invariants.proofs.ask.Answer.{waiting, holds, beneath-worked, held-worked}
use Rattle.q_invariants.proofs.ask.AskLeaf.{weigh-head}
use Rattle.q_invariants.proofs.ask.Pops.{pop-before}
use Rattle.q_invariants.proofs.sums.Sums.{in_children, held_in_children, weigh-waiting, weigh-holds}
use Rattle.q_invariants.proofs.sums.Told.{IsRootTold, root-memory}
use Rattle.q_invariants.proofs.sums.Weights.{weigh-nil, arrived-nil, sent-nil, lost-nil, dropped-nil, marked-nil, arrived-given, sent-given, lost-given, dropped-given, marked-given}
use Rattle.q_invariants.proofs.tree.Forests.{AreTold, told-side}

pub record IsGiven (b : Popping) : Type 0 where
  pub told_before : IsRootTold b.before b.before
  pub told : IsRootTold b.before b.after
  pub gives : (w : Descriptor → ℕ) → weigh w (beneath b.before) ≡ weigh w (option_to_list b.shown) + weigh w (beneath b.after)
  pub holds : (w : Descriptor → ℕ) → weigh w (held_beneath b.before) ≤ weigh w (option_to_list b.shown) + weigh w (held_beneath b.after)

abbrev pub AreGiven : List Popping → Type 0
AreGiven [] = Unit {0}
AreGiven (b ∷ below) = IsGiven b × AreGiven below

-- children that stay, and children of which one gives
still-told : (below : List Popping) → AreGiven below → AreTold (as_they_are below) (as_they_are below)
still-told [] all = tt
still-told (b ∷ below) all = (all.0.told_before, still-told below all.1)

record AreGoing (below : List Popping) (children : List Worked) (packet : Option Descriptor) : Type 0 where
  told : AreTold (as_they_are below) children
  gives : (w : Descriptor → ℕ) → in_children w (as_they_are below) ≡ weigh w (option_to_list packet) + in_children w children
  holds : (w : Descriptor → ℕ) → held_in_children w (as_they_are below) ≤ weigh w (option_to_list packet) + held_in_children w children

staying : (below : List Popping) → AreGiven below → AreGoing below (as_they_are below) None
staying below all = record { told = still-told below all; gives = λ w. omega (arith, weigh-nil w); holds = λ w. omega (arith, weigh-nil w) }

abbrev packet_at : ℕ → List Popping → Option Descriptor
packet_at k bs = option_and_then (λ (b : Popping). b.shown) (slice_get bs k)

going : (k : ℕ) (below : List Popping) → AreGiven below → AreGoing below (popped_at k below) (packet_at k below)
going zero [] all = staying [] all
going (suc k) [] all = staying [] all
going zero (b ∷ below) all = record {
  told = (all.0.told, still-told below all.1);
  gives = λ w. omega (arith, all.0.gives w);
  holds = λ w. omega (arith, all.0.holds w);
}
going (suc k) (b ∷ below) all =
    let rest = going k below all.1 in
    record {
      told = (all.0.told_before, rest.told);
      gives = λ w. omega (arith, rest.gives w);
      holds = λ w. omega (arith, rest.holds w);
    }

-- a node whose own part and children give a packet between them
module _ (own after : Own) (below : List Popping) (children : List Worked) (packet : Option Descriptor) (same : after.handle ≡ own.handle)
    (all : AreGiven below) (told : AreTold (as_they_are below) children)
    (gives : (w : Descriptor → ℕ) → weigh w (waiting own (as_they_are below)) ≡ weigh w (option_to_list packet) + weigh w (waiting after children))
    (held : (w : Descriptor → ℕ) → weigh w (holds own (as_they_are below)) ≤ weigh w (option_to_list packet) + weigh w (holds after children)) where
  is-given : IsGiven (giving own below after children packet)
  is-given =
      let notes : List Note = map Sent (option_to_list packet) in
      let b0 = beneath-worked own [] (as_they_are below) in
      let b1 = beneath-worked after notes children in
      let h0 = held-worked own [] (as_they_are below) in
      let h1 = held-worked after notes children in
      let all_give : (w : Descriptor → ℕ) → weigh w (beneath (worked own [] (as_they_are below))) ≡ weigh w (option_to_list packet) + weigh w (beneath (worked after notes children)) =
      λ w. omega (arith, gives w, ap (weigh w) b0, ap (weigh w) b1) in
      let all_hold : (w : Descriptor → ℕ) → weigh w (held_beneath (worked own [] (as_they_are below))) ≤ weigh w (option_to_list packet) + weigh w (held_beneath (worked after notes children)) =
      λ w. omega (arith, held w, ap (weigh w) h0, ap (weigh w) h1) in
      record {
        told_before = (
          record {
            conserved = λ w. omega (arith, arrived-nil w, sent-nil w, lost-nil w);
            marks = λ w. omega (arith, marked-nil w, sent-nil w, dropped-nil w);
          },
          refl,
          told-side (as_they_are below) (as_they_are below) (still-told below all),
        );
        told = (
          record {
            conserved = λ w. omega (arith, all_give w, arrived-given w packet, sent-given w packet, lost-given w packet);
            marks = λ w. omega (arith, all_hold w, marked-given w packet, sent-given w packet, dropped-given w packet);
          },
          same,
          told-side (as_they_are below) children told,
        );
        gives = all_give;
        holds = all_hold;
      }

module _ (handle : Option ℕ) (filters : List Filter) (since : ℕ) (below : List Popping) (all : AreGiven below) where
  abbrev bare : Discipline → Own
  bare d = record { handle = handle; discipline = d; held = None; since = since; filters = filters }

  abbrev gone : Discipline → Own
  gone d = record (bare d) { since = 0 }

  fifo-gives : (limit : Limit) (queue : List Stamped) → IsGiven (pop_discipline (bare (Fifo limit queue)) below (Fifo limit queue))
  fifo-gives limit queue =
      let own : Own = bare (Fifo limit queue) in
      let after : Own = bare (Fifo limit (drop 1 queue)) in
      let s = staying below all in
      is-given own after below (as_they_are below) (slice_get (packets_of queue) 0) refl all s.told
      (λ w. omega (arith, weigh-waiting w own (as_they_are below), weigh-waiting w after (as_they_are below), weigh-head w queue, weigh-nil w))
      (λ w. omega (arith, weigh-holds w own (as_they_are below), weigh-holds w after (as_they_are below)))

  prio-gives : (priomap : List ℕ) → IsGiven (pop_discipline (bare (Prio priomap)) below (Prio priomap))
  prio-gives priomap =
      let own : Own = bare (Prio priomap) in
      let k : ℕ = first_ready below in
      let g = going k below all in
      is-given own own below (popped_at k below) (packet_at k below) refl all g.told
      (λ w. omega (arith, g.gives w, weigh-waiting w own (as_they_are below), weigh-waiting w own (popped_at k below)))
      (λ w. omega (arith, g.holds w, weigh-holds w own (as_they_are below), weigh-holds w own (popped_at k below)))

  nothing-given : (own : Own) → IsGiven (giving own below own (as_they_are below) None)
  nothing-given own = let s = staying below all in is-given own own below (as_they_are below) None refl all s.told (λ w. omega (arith, weigh-nil w)) (λ w. omega (arith, weigh-nil w))

  held-given : (d : Discipline) (p : Descriptor) → IsGiven (giving (record (bare d) { held = Some p }) below (gone d) (as_they_are below) (Some p))
  held-given d p =
      let own : Own = record (bare d) { held = Some p } in
      let s = staying below all in
      is-given own (gone d) below (as_they_are below) (Some p) refl all s.told
      (λ w. omega (arith, weigh-waiting w own (as_they_are below), weigh-waiting w (gone d) (as_they_are below), weigh-nil w))
      (λ w. omega (arith, weigh-holds w own (as_they_are below), weigh-holds w (gone d) (as_they_are below), weigh-nil w))

  node-gives : (held : Option Descriptor) (d : Discipline) → IsGiven (pop_own (record (bare d) { held = held }) below)
  node-gives (Some p) d = held-given d p
  node-gives None (Fifo limit queue) = fifo-gives limit queue
  node-gives None (Prio priomap) = prio-gives priomap
  node-gives None (Tbf b limit) = nothing-given (bare (Tbf b limit))
  node-gives None (Drr s) = nothing-given (bare (Drr s))
  node-gives None (FqCodel s) = nothing-given (bare (FqCodel s))

all-give : {M : Type 0} (x : Forest M) → AreGiven (each pop_own x)
all-give none = tt
all-give (more own m below others) = (node-gives own.handle own.filters own.since (each pop_own below) (all-give below) own.held own.discipline, all-give others)

pub pop-gives : {M : Type 0} (n : Node M) → IsGiven (pop n)
pop-gives n = node-gives n.own.handle n.own.filters n.own.since (each pop_own n.below) (all-give n.below) n.own.held n.own.discipline

-- of a node that remembers something
pub pop-told : {M : Type 0} (n : Node M) → IsRootTold n (pop n).after
pop-told n = root-memory (λ u. []) n (pop n).after (subst (λ (b : Worked). IsRootTold b (pop n).after) (pop-before n) (pop-gives n).told)
