use Rattle.std.proofs.Common.{◌≡◌}
use Rattle.q_ports.proofs.note.Note.add.Given as goal

abbrev pub invariant-loop-try : goal.invariant-loop-try
invariant-loop-try g l = l.self ≡ l.initial.self
