use Rattle.std.proofs.Common.{Result, Ok, Err, IfOk}
use Rattle.q_ports.proofs.drain.Drain.turn.Goals as goal

-- what follows from what is said of an `Ok`
if-ok : {A E : Type 0} (P Q : A → Type 0) → ((a : A) → P a → Q a) → (r : Result A E) → IfOk r P → IfOk r Q
if-ok P Q f (Ok a) h = f a h
if-ok P Q f (Err e) h = h

pub returns-clause-whole : goal.returns-clause-whole
returns-clause-whole g c = if-ok _ _ (λ t turned. turned.whole) c.turn_on.result c.turn_on.ensures.turned
