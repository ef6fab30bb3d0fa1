use Rattle.std.proofs.Common.{◌≤◌, length, arith}
use Rattle.q_tree.proofs.departure.BurstSends.{heads-after, heads-kept, heads-told, heads-totals}
use Rattle.q_tree.proofs.node.Node.send_heads.Given.{Over}
use Rattle.q_tree.proofs.node.Node.send_heads.Goals as goal
use Rattle.q_tree.proofs.node.Node.send_heads.Goals.{After-book_sends}

few : (g : Over) (c : After-book_sends g) → c.take_burst-count.result.0 ≤ length c.in-Fifo.fifo.packets
few g c = omega (arith, c.take_burst-count.ensures.count)

pub invariant_of-self-2 : goal.invariant_of-self-2
invariant_of-self-2 g c =
    heads-kept c.self.inside c.in-Fifo.fifo c.in-Fifo.is c.args.self.now c.self.view_is c.take_burst-count.result.0 (few g c)
    c.take_burst-count.result.1 c.take_burst-count.ensures.bytes c.book_sends.new.row
    c.book_sends.ensures c.take_burst-count.new.self c.take_burst-count.ensures.rest c.self.invariant

pub returns-clause-totals : goal.returns-clause-totals
returns-clause-totals g c =
    heads-totals c.self.inside c.in-Fifo.fifo c.in-Fifo.is c.args.self.now c.self.view_is c.take_burst-count.result.0 (few g c)
    c.take_burst-count.result.1 c.take_burst-count.ensures.bytes

pub returns-clause-told : goal.returns-clause-told
returns-clause-told g c =
    heads-told c.self.inside c.in-Fifo.fifo c.in-Fifo.is c.args.self.now c.self.view_is c.take_burst-count.result.0 (few g c) g.T.Told.told
    c.args.places.now c.take_burst-count.new.places c.take_burst-count.ensures.told

pub returns-clause-after : goal.returns-clause-after
returns-clause-after g c =
    heads-after c.self.inside c.in-Fifo.fifo c.in-Fifo.is c.args.self.now c.self.view_is c.take_burst-count.result.0 (few g c)
    c.take_burst-count.result.1 c.take_burst-count.ensures.bytes c.book_sends.new.row
    c.book_sends.ensures c.take_burst-count.new.self c.take_burst-count.ensures.rest
