use Rattle.std.proofs.Common.{rules, ◌∙◌, ◌++◌, List, ℕ, Ok, ap, subst}
use Rattle.q_session.proofs.Writing.{written-out}
use Rattle.q_show.specs.Written.{HasPut}
use Rattle.q_drive.specs.Texts.{driven_lines, shown_text}
use Rattle.q_drive.proofs.ending.write_driven.Goals as goal

pub returns-in_err-put_shown : goal.returns-in_err-put_shown
returns-in_err-put_shown g c =
    let lines = c.put_driven.ensures ∙ ap (λ (o : List ℕ). o ++ driven_lines c.args.show c.args.driven.now) c.requires.empty in
    let put =
    subst (λ (o : List ℕ). HasPut g.W.Write.contents c.args.target.now c.put_shown.new.target c.put_shown.new.output
    (o ++ shown_text c.args.show c.args.driven.now) c.from_residual.result) lines (search rules) in
    record { same_writer = put.same_writer; ok = search rules; err = put.err; going = search rules; failed = put.failed }

pub returns : goal.returns
returns g c =
    let lines = c.put_driven.ensures ∙ ap (λ (o : List ℕ). o ++ driven_lines c.args.show c.args.driven.now) c.requires.empty in
    let put =
    subst (λ (o : List ℕ). HasPut g.W.Write.contents c.args.target.now c.put_shown.new.target c.put_shown.new.output
    (o ++ shown_text c.args.show c.args.driven.now) (Ok tt)) lines (search rules) in
    written-out c.flush.result put (search rules)
