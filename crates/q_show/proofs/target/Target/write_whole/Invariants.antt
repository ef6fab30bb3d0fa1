use Rattle.std.proofs.Common.{◌≡◌, length, ◌+◌, ◌-◌, take, drop}
use Rattle.std.specs.Io.KnownBytes.{Appends}
use Rattle.q_show.specs.Writes.{MayWrite}
use Rattle.q_show.proofs.target.Target.write_whole.Given as goal

-- the writer took a front of the bytes, and the rest is still to be written
abbrev pub invariant-loop-rest : goal.invariant-loop-rest
invariant-loop-rest g l =
    let contents = g.W.Write.contents in
    record {
      same_writer : l.self.writer.ghost_name ≡ l.fn.self.writer.ghost_name;
      written : Appends (contents l.fn.self.writer.now) (contents l.self.writer.now) (take l.self.writes.taken l.bytes);
      left : l.rest ≡ drop l.self.writes.taken l.bytes;
      counted : l.self.writes.taken + length l.rest ≡ length l.bytes;
      going : MayWrite l.self.writes;
    }

-- each turn writes a byte or more, or is one interrupted write fewer to come
abbrev pub decreases-loop-rest : goal.decreases-loop-rest
decreases-loop-rest g l = length l.rest + (16777217 - l.self.writes.interrupted)
