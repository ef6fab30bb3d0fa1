use Rattle.std.proofs.Common.{arith}
use Rattle.q_setup.proofs.DoneLemmas.{done_next}
use Rattle.q_setup.proofs.doing.do_commands.Goals as goal

pub loop-command-preserved : goal.loop-command-preserved
loop-command-preserved c =
    let told = c.refusal_of.ensures in
    record {
      number = omega (arith, c.loop-command.invariant.number);
      so_far = done_next c.args.now c.args.commands.now c.loop-command.command-index c.command-item.result c.loop-command-test.true c.command-item.is
          c.args.device.now c.loop-command.device c.refusal_of.new.device c.loop-command.invariant.so_far (told.accepted c.in_default.is) (told.done c.in_default.is);
    }
