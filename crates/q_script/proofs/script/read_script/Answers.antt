use Rattle.std.proofs.Common.{rules, ◌≡◌, ◌<◌, ◌∙◌, arith, length, length-append, take, drop, ap, Err}
use Rattle.std.proofs.KnownBytes.{Consumes-trans, Consumes-kept}
use Rattle.q_script.proofs.ReadLemmas.{read-end, read-long, read-grown, read-chunk}
use Rattle.q_script.proofs.script.read_script.Goals as goal
use Rattle.q_script.proofs.script.read_script.Goals.{in-Ok-2+in_ok-map_err-in-Ok-2, in-Err-Interrupted}

pub returns-in-Ok-eq0-clause-script : goal.returns-in-Ok-eq0-clause-script
returns-in-Ok-eq0-clause-script g c =
    read-end _ _ _ c.loop.script.items _ _ c.loop.invariant.consumed c.in-Ok-eq0.ensures.bytes c.in-Ok-eq0.field-0-test (search rules)

pub returns-in-Ok-clause-too_long : goal.returns-in-Ok-clause-too_long
returns-in-Ok-clause-too_long g c =
    let whole = Consumes-trans _ _ _ c.loop.script.items _ c.loop.invariant.consumed c.in-Ok.ensures.bytes.0 in
    λ told. read-long _ _ _ 16777216 whole (omega (
      arith,
      length-append c.loop.script.items (take c.in-Ok.n c.read.new.chunk),
      c.in-Ok.ensures.bound.1,
      c.if-n-len.true,
      c.len.ensures,
      c.loop.script.ok,
    ))

pub loop-preserved : goal.loop-preserved
loop-preserved g c =
    elim c.match-read.branch [
      | in-Ok-2+in_ok-map_err-in-Ok-2 w ↦
          let held = c.loop.invariant in
          let some : 0 < w.in-Ok.n = search rules in
          let chunk = take w.in-Ok.n w.deref.result.now in
          let whole = Consumes-trans _ _ _ c.loop.script.items _ held.consumed w.in-Ok.ensures.bytes.0 in
          let grown = read-grown _ c.loop.script.items w.extend_from_slice.new.self.items chunk w.extend_from_slice.ensures.items (search rules) in
          let filled : length c.read.new.chunk ≡ c.loop.chunk.len = search rules in
          rw (w.in-Ok.ensures.some some)
          record {
            same_reader = w.in-Ok.ensures.same_reader ∙ held.same_reader;
            consumed = rw (w.script-is, grown, w.deref.ensures.value, read-chunk c.loop.chunk.len c.read.new.chunk (drop (length c.read.new.chunk) c.loop.chunk.items) filled) whole;
            short = search rules;
            counted = search rules;
            each = search rules;
            interrupted = search rules;
            going = record { going = held.going.going; sound = held.going.sound };
          }
      | in-Err-Interrupted w ↦
          let held = c.loop.invariant in
          rw (w.in-Err-Interrupted.ensures.interrupted (ap Err w.in-Err-Interrupted.field-0-is), w.script-is)
          record {
            same_reader = w.in-Err-Interrupted.ensures.same_reader ∙ held.same_reader;
            consumed = Consumes-kept _ _ _ _ held.consumed w.in-Err-Interrupted.ensures.bytes;
            short = held.short;
            counted = omega (arith, held.counted);
            each = omega (arith, held.each);
            interrupted = omega (arith, held.interrupted);
            going = record { going = held.going.going; sound = held.going.sound };
          }
    ]
