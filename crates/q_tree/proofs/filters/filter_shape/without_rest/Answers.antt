use Rattle.std.proofs.Common.{sym}
use Rattle.q_tree.proofs.filters.ShapeLemmas.{none-left}
use Rattle.q_tree.proofs.filters.filter_shape.without_rest.Goals as goal

pub returns-then-rest-ge128 : goal.returns-then-rest-ge128
returns-then-rest-ge128 c = sym (none-left c.args.address c.args.rest c.ranges.address.fits c.if-rest-ge128.true)
