use Rattle.std.proofs.Common.{◌≡◌, ◌≤◌, ◌+◌, vec_len}
use Rattle.std.specs.Io.KnownBytes.{Consumes}
use Rattle.q_script.specs.Reads.{MayRead}
use Rattle.q_script.proofs.script.read_script.Given as goal

-- the script so far is what the reader gave
abbrev pub invariant-loop : goal.invariant-loop
invariant-loop g l =
    let remaining = g.R.Read.remaining in
    record {
      same_reader : l.source.reader.ghost_name ≡ l.fn.source.reader.ghost_name;
      consumed : Consumes (remaining l.fn.source.reader.now) (remaining l.source.reader.now) l.script.items;
      short : vec_len l.script ≤ 16777216;
      counted : l.source.reads.count ≡ l.counter;
      -- each read that was not interrupted brought a byte
      each : l.source.reads.count ≤ vec_len l.script + l.source.reads.interrupted;
      interrupted : l.source.reads.interrupted ≤ l.source.reads.count;
      going : MayRead l.source.reads;
    }
