use Rattle.std.proofs.Common.{arith, ◌∙◌, ◌<◌, ◌⊎◌, inl, inr, List, ℕ, Result, Ok, Err, subst}
use Rattle.std.specs.Io.KnownBytes.{Appends}
use Rattle.std.specs.Result.{OnErr, OnOk}
use Rattle.q_show.specs.Written.{AppendsFront}
use Rattle.q_options.proofs.telling_of_lines.tell_count.Goals as goal

either : {T E : Type 0} (r : Result T E) (P Q : Type 0) → OnOk r P → OnErr r Q → P ⊎ Q
either (Ok t) P Q p q = inl p
either (Err e) P Q p q = inr q

pub returns-then-lines-gt0 : goal.returns-then-lines-gt0
returns-then-lines-gt0 g c =
    let old = g.E.Write.contents c.args.errors.now in
    let new = g.E.Write.contents c.write_whole.new.writer in
    let some : 0 < c.args.lines = c.if-lines-gt0.true in
    let told = either c.write_whole.result _ _ c.write_whole.ensures.ok c.write_whole.ensures.err in
    record {
      none = λ zero. absurd (omega arith);
      some = λ _. subst (λ (text : List ℕ). Appends old new text ⊎ AppendsFront old new text) (c.as_bytes.ensures.bytes ∙ c.count_line.ensures) told;
    }
