use Rattle.std.proofs.Common.{refl, arith}
use Rattle.q_ports.proofs.BatchLemmas.{written-none}
use Rattle.q_ports.proofs.batch.write_batch.Goals as goal

pub loop-at-init : goal.loop-at-init
loop-at-init c = record { long = refl; written = λ v i n. written-none v c.args.packets.now c.args.batch.now; packets = omega arith; bytes = omega arith }
