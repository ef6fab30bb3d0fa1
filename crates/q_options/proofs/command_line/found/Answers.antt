use Rattle.std.proofs.Common.{ap, subst, map, ◌≡◌, ◌∙◌, true, IfSome}
use Rattle.clap.specs.Words.{HasKind, app_of, fault_of, is_simple, is_simple_and_free, kind_of, subcommand_of}
use Rattle.q_options.specs.CommandLine.{IsAskedBy, IsRefused, IsUnreadable}
use Rattle.q_options.proofs.FoundOptions.{passed_on, program_is_free, program_is_simple, words_refused}
use Rattle.q_options.proofs.command_line.found.Goals as goal

pub returns-in_err-matches-clause-refused : goal.returns-in_err-matches-clause-refused
returns-in_err-matches-clause-refused g c =
    let words = map g.S.AsStr.text c.args.words.now in
    let free : is_simple_and_free (app_of c.args.qtree.now) ≡ true = ap is_simple_and_free c.requires ∙ program_is_free in
    let kinds = c.in_err-matches.ensures.kinds free in
    let fault = words_refused words c.in_err-matches.field-0.0 (subst (λ a. HasKind (fault_of a words) c.in_err-matches.field-0.0) c.requires kinds) in
    passed_on c.from_residual.result c.in_err-matches.field-0.0 (λ error. IsRefused words (kind_of error)) c.from_residual.ensures.1 fault

pub returns-clause-asked : goal.returns-clause-asked
returns-clause-asked g c =
    let words = map g.S.AsStr.text c.args.words.now in
    let simple : is_simple (app_of c.args.qtree.now) ≡ true = ap is_simple c.requires ∙ program_is_simple in
    let found = (c.in_ok-matches.ensures.ok.2 simple).1 ∙ ap (λ a. subcommand_of a words) c.requires in
    subst (λ found. IfSome c.in_ok-options_of.field-0 (IsAskedBy found)) found c.in_ok-options_of.ensures.asked

pub returns-clause-unreadable : goal.returns-clause-unreadable
returns-clause-unreadable g c = λ none.
    let words = map g.S.AsStr.text c.args.words.now in
    let simple : is_simple (app_of c.args.qtree.now) ≡ true = ap is_simple c.requires ∙ program_is_simple in
    let found = (c.in_ok-matches.ensures.ok.2 simple).1 ∙ ap (λ a. subcommand_of a words) c.requires in
    subst IsUnreadable found (c.in_ok-options_of.ensures.refused none)
