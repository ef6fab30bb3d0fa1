-- Facts for an error.
use Rattle.std.proofs.Common.{Result, Ok, Err, OnErr}

-- whatever the result
pub on_err : {A E P : Type 0} (r : Result A E) → P → OnErr r P
on_err (Ok a) p = tt
on_err (Err e) p = p

-- from another one
pub on_err_weaker : {A E P Q : Type 0} (r : Result A E) → (P → Q) → OnErr r P → OnErr r Q
on_err_weaker (Ok a) f p = tt
on_err_weaker (Err e) f p = f p
