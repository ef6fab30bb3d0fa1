use Rattle.std.proofs.Common.{refl, sym, ap, subst, arith}
use Rattle.q_model.specs.declared.totals.Totals.{Totals}
use Rattle.q_invariants.proofs.tree.Forests.{nodes-side}
use Rattle.q_tree.specs.departure.AskSteps.{CanAsk}
use Rattle.q_tree.specs.departure.GiveSteps.{CanGiveFrom}
use Rattle.q_tree.specs.Seen.{children_seen, discipline_seen}
use Rattle.q_tree.proofs.departure.GivingMany.{gives-none}
use Rattle.q_tree.proofs.departure.HeldLemmas.{none-kept}
use Rattle.q_tree.proofs.disciplines.ServingHeads.{quick-in}
use Rattle.q_tree.proofs.node.Node.give_some.Goals as goal

pub give_each-sent-requires : goal.give_each-sent-requires
give_each-sent-requires g c = record {
  ready = record {
    node = c.self.inside;
    is = record {
      asks = subst (CanAsk c.args.now) (sym c.self.view_is) c.requires.asks;
      kept = c.self.invariant;
      free = none-kept c.self.inside.held c.if-is_some.ensures;
      discipline = refl;
      packets = omega (arith, c.self.ranges, c.fit.ensures.packets, c.fit.ensures.bytes);
      bytes = omega (arith, c.self.ranges, c.fit.ensures.packets, c.fit.ensures.bytes);
    };
    quick = quick-in c.self.inside (none-kept c.self.inside.held c.if-is_some.ensures) c.args.self.now c.self.view_is c.requires.quick;
  };
}

pub invariant_of-self : goal.invariant_of-self
invariant_of-self g c =
    let h = c.give_each-sent.ensures.given in
    (gives-none c.args.now c.self.inside h.packets c.give_each-sent.new.discipline (omega (arith, ap (λ (t : Totals). t.packets) h.totals, c.if-sent-eq0.true))
    (h.steps c.self.inside (record {
      asks = subst (CanAsk c.args.now) (sym c.self.view_is) c.requires.asks;
      kept = c.self.invariant;
      free = none-kept c.self.inside.held c.if-is_some.ensures;
      discipline = refl;
      packets = omega (arith, c.self.ranges, c.fit.ensures.packets, c.fit.ensures.bytes);
      bytes = omega (arith, c.self.ranges, c.fit.ensures.packets, c.fit.ensures.bytes);
    }))).0

pub returns-then-sent-eq0-clause-below : goal.returns-then-sent-eq0-clause-below
returns-then-sent-eq0-clause-below g c less can =
    c.give_each-sent.ensures.below less
    (subst (λ ns. CanGiveFrom c.args.now ns (discipline_seen c.give_each-sent.new.discipline)) (nodes-side (children_seen c.give_each-sent.new.discipline)) can.can)

pub returns-clause-below : goal.returns-clause-below
returns-clause-below g c less can =
    c.give_each-sent.ensures.below less
    (subst (λ ns. CanGiveFrom c.args.now ns (discipline_seen c.give_each-sent.new.discipline)) (nodes-side (children_seen c.give_each-sent.new.discipline)) can.can)
