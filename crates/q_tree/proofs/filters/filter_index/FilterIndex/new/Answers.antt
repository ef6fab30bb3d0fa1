use Rattle.std.proofs.Common.{arith}
use Rattle.q_tree.proofs.filters.IndexOfFilterLemmas.{bucket-small, home-known}
use Rattle.q_tree.proofs.filters.filter_index.FilterIndex.new.Goals as goal

pub new-requires-clause-known : goal.new-requires-clause-known
new-requires-clause-known c = λ j home is.
    omega (
      arith,
      home-known c.homes_of.new.shapes.items c.args.filters.now c.in_ok-homes.homes.items c.in_ok-homes.ensures.long bucket-small
          c.in_ok-homes.ensures.homes j home is,
      c.len-2.ensures,
      c.homes_of.new.shapes.ok.0,
    )
