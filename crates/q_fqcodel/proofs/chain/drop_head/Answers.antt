use Rattle.std.proofs.Common.{◌-◌, Option, IsSome, drop, refl, sym, ap, arith, subst}
use Rattle.q_packet.specs.Descriptor.{Descriptor}
use Rattle.q_fqcodel.specs.Nodes.{used}
use Rattle.q_fqcodel.specs.declared.node.Node.{Node}
use Rattle.q_fqcodel.proofs.ChainLemmas.{head_there, rest_queue, rest_bytes, rest_list, rest_keeps}
use Rattle.q_fqcodel.proofs.chain.drop_head.Goals as goal

pub at-node-requires : goal.at-node-requires
at-node-requires c =
    let x = head_there (used c.args.nodes.now) c.requires.linked.0 c.requires.linked.1 c.args.list c.requires.linked.2 c.requires.some in
    subst (λ (o : Option Node). IsSome o) (sym x.1) refl

pub vacate-requires-clause-there : goal.vacate-requires-clause-there
vacate-requires-clause-there c =
    let x = head_there (used c.args.nodes.now) c.requires.linked.0 c.requires.linked.1 c.args.list c.requires.linked.2 c.requires.some in
    subst (λ (o : Option Node). IsSome o) (sym x.1) refl

pub overflow_sub-result-2 : goal.overflow_sub-result-2
overflow_sub-result-2 c =
    omega (
      arith,
      ap (λ (p : Descriptor). p.len) c.packet.view_is,
      rest_bytes (used c.args.nodes.now) (used c.vacate.new.self) c.requires.linked.0 c.requires.linked.1 c.args.list c.at-node.result.now
          c.requires.linked.2 c.requires.some c.at-node.ensures c.vacate.ensures.same,
    )

pub returns-clause-queue : goal.returns-clause-queue
returns-clause-queue c =
    ap (drop 1)
    (sym (rest_queue (used c.args.nodes.now) (used c.vacate.new.self) c.requires.linked.0 c.requires.linked.1 c.args.list c.at-node.result.now
    c.requires.linked.2 c.requires.some c.at-node.ensures c.vacate.ensures.same))

pub returns-clause-linked : goal.returns-clause-linked
returns-clause-linked c w f linked =
    rest_list (used c.args.nodes.now) (used c.vacate.new.self) w f c.args.list c.at-node.result.now linked c.requires.some c.at-node.ensures c.vacate.ensures.same _
    (ap (λ (p : Descriptor). c.args.list.bytes - p.len) c.packet.view_is)

pub returns-clause-others : goal.returns-clause-others
returns-clause-others c w f linked =
    rest_keeps (used c.args.nodes.now) (used c.vacate.new.self) w f c.args.list c.at-node.result.now linked c.requires.some c.at-node.ensures c.vacate.ensures.same
