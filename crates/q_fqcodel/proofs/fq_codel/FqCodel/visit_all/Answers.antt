use Rattle.std.proofs.Common.{◌≡◌, ℕ, ◌<◌, length, refl, sym, ap, ap₂, ◌∙◌, arith, add-one, take}
use Rattle.std.specs.Prelude.{min, is_some}
use Rattle.q_fqcodel.specs.FqState.{FqView, is_idle}
use Rattle.q_fqcodel.specs.Quanta.{stay}
use Rattle.q_fqcodel.specs.Rounds.{fewest, fewest_old, front_needs_then, visited}
use Rattle.q_fqcodel.proofs.VisitLemmas.{fewest_all, fewest_begun, fewest_more, visited_all, visited_more, visited_none}
use Rattle.q_fqcodel.proofs.fq_codel.FqCodel.visit_all.Goals as goal
use Rattle.q_fqcodel.proofs.fq_codel.FqCodel.visit_all.Goals.{In-loop-visited, After-loop-visited}

less : (c : In-loop-visited) → c.loop-visited._visited < length c.args.self.now.state.old_flows
less c = omega (arith, c.loop-visited-test.true, c.loop-visited.invariant.end)

pub loop-visited-init : goal.loop-visited-init
loop-visited-init c = record {
  part = visited_none 1 c.args.self.now.state;
  end = c.lengths-visited-end.ensures.old ∙ ap (λ (v : FqView). length v.state.old_flows) c.self.view_is;
  fewest = let s = c.args.self.now.state in sym (fewest_begun s.settings.quantum (is_idle s.flows) s.old_flows);
  same = refl;
  turns = omega arith;
  packets = refl;
  places = refl;
}

pub loop-visited-preserved : goal.loop-visited-preserved
loop-visited-preserved c =
    let s = c.args.self.now.state in
    let p = c.loop-visited._visited in
    let within = less (goal.at.loop-visited-preserved c).In-loop-visited in
    let part = c.loop-visited.invariant.part in
    let none = ap is_some c.in_default.is in
    let on = c.visit_old.ensures.on none in
    record {
      part = c.visit_old.ensures.visited none ∙ ap (visited 1 1) part ∙ visited_more 1 p s within ∙ ap (λ (n : ℕ). visited 1 n s) (sym (add-one p));
      end = c.loop-visited.invariant.end;
      fewest = c.min-fewest.ensures ∙ ap₂ min c.loop-visited.invariant.fewest (c.front_needs_then-needed.ensures ∙ ap front_needs_then part) ∙ fewest_more p s within
          ∙ ap (λ (n : ℕ). fewest s.settings.quantum (is_idle s.flows) (stay s.settings.quantum 1 (take n s.old_flows))) (sym (add-one p));
      same = on.same ∙ c.loop-visited.invariant.same;
      turns = omega (arith, on.fewer, c.loop-visited.invariant.turns);
      packets = on.packets ∙ c.loop-visited.invariant.packets;
      places = c.visit_old.ensures.places ∙ c.loop-visited.invariant.places;
    }

pub returns-clause-fewest : goal.returns-clause-fewest
returns-clause-fewest c =
    let s = c.args.self.now.state in
    let all : c.loop-visited._visited ≡ length s.old_flows = omega (arith, c.loop-visited-test.false, c.loop-visited.invariant.end, c.loop-visited.auto._visited-end) in
    c.loop-visited.invariant.fewest ∙ fewest_all c.loop-visited._visited s all
    ∙ ap fewest_old (sym (c.loop-visited.invariant.part ∙ visited_all 1 c.loop-visited._visited s all))
