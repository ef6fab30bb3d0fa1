use Rattle.std.proofs.Common.{◌-◌, length}
use Rattle.std.specs.Prelude.{drop}
use Rattle.std.specs.List.{flat_map}
use Rattle.q_session.specs.Shown.{counted}
use Rattle.q_session.proofs.Writing.{Writing}
use Rattle.q_session.proofs.showing.put_listed_at.Given as goal

abbrev pub invariant-loop-listed : goal.invariant-loop-listed
invariant-loop-listed g l =
    let all = g.L.Listed.of_node (counted l.node.1) in
    Writing g.W.Write.contents l.fn.target l.target l.fn.output l.output (flat_map g.L.Listed.line all) (flat_map g.L.Listed.line (drop l.j all))

abbrev pub decreases-loop-listed : goal.decreases-loop-listed
decreases-loop-listed g l = length (g.L.Listed.of_node (counted l.node.1)) - l.j
