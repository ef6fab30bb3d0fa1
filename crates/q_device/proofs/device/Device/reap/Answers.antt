use Rattle.std.proofs.Common.{◌+◌, ◌∙◌, ap, arith}
use Rattle.q_device.specs.device.DeviceSeen.{reaped}
use Rattle.q_device.proofs.device.Device.reap.Goals as goal
use Rattle.q_device.proofs.device.KeptLemmas.{handed-fits, handed-none, handed-one, reaped-kept, reaped-seen}

pub overflow_add-self : goal.overflow_add-self
overflow_add-self c = omega (arith, handed-fits c.self.inside c.self.invariant c.in_ok-lost.lost c.in_ok-lost.ensures.oldest)

pub invariant_of-self-2 : goal.invariant_of-self-2
invariant_of-self-2 c = reaped-kept c.self.inside c.self.invariant c.in_ok-lost.lost c.reap.new.self c.in_ok-lost.ensures.oldest c.in_ok-lost.ensures.rest

pub returns-in_err-lost-clause-rest : goal.returns-in_err-lost-clause-rest
returns-in_err-lost-clause-rest c =
    let a = c.self.inside in
    reaped-seen a c.reap.new.self a.handed_out c.in_err-lost.ensures.rest (handed-none a.handed_out a.losses.waiting c.in_err-lost.ensures.oldest) ∙ ap reaped c.self.view_is

pub returns-clause-rest : goal.returns-clause-rest
returns-clause-rest c =
    let a = c.self.inside in
    reaped-seen a c.reap.new.self (a.handed_out + 1) c.in_ok-lost.ensures.rest (handed-one a.handed_out c.in_ok-lost.lost a.losses.waiting c.in_ok-lost.ensures.oldest) ∙ ap reaped c.self.view_is
