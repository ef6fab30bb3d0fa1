use Rattle.std.proofs.Common.{sym, subst}
use Rattle.q_model.specs.declared.kind.Kind.TheVariants as kind
use Rattle.q_model.specs.Make.{Device}
use Rattle.q_model.specs.Node.{shape}
use Rattle.q_tree.specs.commands.Changing.{IsChange, NeedsMore}
use Rattle.q_tree.specs.commands.Commands.{takes_none}
use Rattle.q_tree.proofs.commands.ChangeLemmas.{bfifo-is, drr-is, fq_codel-is, pfifo-is, plans_of, tbf-is}
use Rattle.q_tree.specs.commands.Planning.{device_of, root_of}
use Rattle.q_tree.proofs.commands.planner.Planner.change_to.Goals as goal

pub returns-in-Pfifo : goal.returns-in-Pfifo
returns-in-Pfifo c =
    let n = c.args.node.now in
    let root = shape (root_of c.args.self.now) in
    let d : Device = device_of c.args.self.now in
    subst (λ k. IsChange (NeedsMore k) (plans_of d c.args.self.now.moment root n k n.own.discipline) n c.packet_limit.result) (sym c.in-Pfifo.is)
    (subst (IsChange (λ plan. takes_none) (plans_of d c.args.self.now.moment root n (kind.Pfifo c.in-Pfifo.limit) n.own.discipline) n)
    (sym c.packet_limit.ensures) (pfifo-is d c.args.self.now.moment root n c.in-Pfifo.limit))

pub returns-in-Bfifo : goal.returns-in-Bfifo
returns-in-Bfifo c =
    let n = c.args.node.now in
    let root = shape (root_of c.args.self.now) in
    let d : Device = device_of c.args.self.now in
    subst (λ k. IsChange (NeedsMore k) (plans_of d c.args.self.now.moment root n k n.own.discipline) n c.byte_limit.result) (sym c.in-Bfifo.is)
    (subst (IsChange (λ plan. takes_none) (plans_of d c.args.self.now.moment root n (kind.Bfifo c.in-Bfifo.limit) n.own.discipline) n)
    (sym c.byte_limit.ensures) (bfifo-is d c.args.self.now.moment root n c.in-Bfifo.limit))

pub returns-in-Prio : goal.returns-in-Prio
returns-in-Prio c =
    let n = c.args.node.now in
    let root = shape (root_of c.args.self.now) in
    let d : Device = device_of c.args.self.now in
    subst (λ k. IsChange (NeedsMore k) (plans_of d c.args.self.now.moment root n k n.own.discipline) n c.bands.result) (sym c.in-Prio.is) c.bands.ensures

pub returns-in-Tbf : goal.returns-in-Tbf
returns-in-Tbf c =
    let n = c.args.node.now in
    let root = shape (root_of c.args.self.now) in
    let d : Device = device_of c.args.self.now in
    subst (λ k. IsChange (NeedsMore k) (plans_of d c.args.self.now.moment root n k n.own.discipline) n c.bucket.result) (sym c.in-Tbf.is)
    (subst (IsChange (λ plan. takes_none) (plans_of d c.args.self.now.moment root n (kind.Tbf c.in-Tbf.rate c.in-Tbf.burst c.in-Tbf.limit)
    n.own.discipline) n) (sym c.bucket.ensures)
    (tbf-is d c.args.self.now.moment root n d.mtu c.requires.lawful c.in-Tbf.rate c.in-Tbf.burst c.in-Tbf.limit))

pub returns-in-Drr : goal.returns-in-Drr
returns-in-Drr c =
    let n = c.args.node.now in
    let root = shape (root_of c.args.self.now) in
    let d : Device = device_of c.args.self.now in
    subst (λ k. IsChange (NeedsMore k) (plans_of d c.args.self.now.moment root n k n.own.discipline) n c.same_drr.result) (sym c.in-Drr.is)
    (subst (IsChange (λ plan. takes_none) (plans_of d c.args.self.now.moment root n kind.Drr n.own.discipline) n) (sym c.same_drr.ensures) (drr-is d c.args.self.now.moment root n))

pub returns-in-FqCodel : goal.returns-in-FqCodel
returns-in-FqCodel c =
    let n = c.args.node.now in
    let root = shape (root_of c.args.self.now) in
    let d : Device = device_of c.args.self.now in
    subst (λ k. IsChange (NeedsMore k) (plans_of d c.args.self.now.moment root n k n.own.discipline) n c.options.result) (sym c.in-FqCodel.is)
    (subst (IsChange (λ plan. takes_none) (plans_of d c.args.self.now.moment root n (kind.FqCodel c.in-FqCodel.options) n.own.discipline) n)
    (sym c.options.ensures) (fq_codel-is d c.args.self.now.moment root n c.in-FqCodel.options))
