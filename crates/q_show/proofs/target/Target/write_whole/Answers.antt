use Rattle.std.proofs.Common.{◌∙◌, length}
use Rattle.q_show.proofs.Written.{left-write, taken-write, count-write}
use Rattle.q_show.proofs.target.Target.write_whole.Goals as goal

pub loop-rest-preserved-in-Ok : goal.loop-rest-preserved-in-Ok
loop-rest-preserved-in-Ok g c =
    let held = c.loop-rest.invariant in
    let n = c.in-Ok.n in
    let taken = c.loop-rest.self.writes.taken in
    rw c.in-Ok.ensures.taken
    record {
      same_writer = c.in-Ok.ensures.same_writer ∙ held.same_writer;
      written = taken-write _ _ _ taken n c.loop-rest.rest.now c.args.bytes.now held.left held.written c.in-Ok.ensures.bytes;
      left = left-write taken n c.loop-rest.rest.now c.args.bytes.now held.left;
      counted = count-write taken n (length c.args.bytes.now) c.loop-rest.rest.now c.in-Ok.ensures.bound held.counted;
      going = record { sound = held.going.sound; few = held.going.few };
    }
