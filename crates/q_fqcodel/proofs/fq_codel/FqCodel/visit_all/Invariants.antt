use Rattle.std.proofs.Common.{◌≡◌, ◌≤◌, length, take}
use Rattle.q_fqcodel.specs.FqState.{is_idle, packets_of}
use Rattle.q_fqcodel.specs.Quanta.{stay}
use Rattle.q_fqcodel.specs.Rounds.{fewest, visited}
use Rattle.q_fqcodel.specs.Take.{selected}
use Rattle.q_fqcodel.specs.Turns.{turns}
use Rattle.q_fqcodel.proofs.fq_codel.FqCodel.visit_all.Given as goal

abbrev pub invariant-loop-visited : goal.invariant-loop-visited
invariant-loop-visited l = record {
  part : l.self.state ≡ visited 1 l._visited l.fn.self.state;
  end : l._visited-end ≡ length l.fn.self.state.old_flows;
  fewest : l.fewest ≡ (let s = l.fn.self.state in fewest s.settings.quantum (is_idle s.flows) (stay s.settings.quantum 1 (take l._visited s.old_flows)));
  same : selected l.self.state ≡ selected l.fn.self.state;
  turns : turns l.self.state ≤ turns l.fn.self.state;
  packets : packets_of l.self.state.flows ≡ packets_of l.fn.self.state.flows;
  places : l.self.places ≡ l.fn.self.places;
}
