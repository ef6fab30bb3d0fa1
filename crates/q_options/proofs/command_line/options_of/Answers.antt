use Rattle.std.proofs.Common.{IfSome, IsNone, refl, sym, subst, codes}
use Rattle.clap.specs.Words.{first_value, found_of, one_text, rows_of, subcommand_rows_of}
use Rattle.q_options.specs.CommandLine.{HasBadDriveOption, HasBadOption, HasDriveOptionsOf, HasPlayOptionsOf, written_in}
use Rattle.q_options.proofs.FoundOptions.{command_found, drive_refused, play_refused, texts_are, written_are}
use Rattle.q_options.proofs.command_line.options_of.Goals as goal

pub returns-in-Some-2-clause-asked : goal.returns-in-Some-2-clause-asked
returns-in-Some-2-clause-asked c =
    let found = found_of c.in-Some.play.now in
    let options = c.in-Some-2.options in
    let is = command_found _ (codes "play") (rows_of found) (c.in-Some.ensures.found.0 refl) c.in-Some.ensures.rows in
    let given = subst (λ some. IfSome some (HasPlayOptionsOf (one_text found) (first_value found))) c.in-Some-2.is c.in_ok-options.ensures.given in
    let written = subst (λ texts. HasPlayOptionsOf (one_text found) texts options) (written_are found) given in
    (rows_of found, is, subst (λ texts. HasPlayOptionsOf texts (written_in (rows_of found)) options) (texts_are found) written)

pub returns-in-None-clause-refused : goal.returns-in-None-clause-refused
returns-in-None-clause-refused c = λ none.
    let found = found_of c.in-Some.play.now in
    let is = command_found _ (codes "play") (rows_of found) (c.in-Some.ensures.found.0 refl) c.in-Some.ensures.rows in
    let bad = c.in_ok-options.ensures.refused (subst IsNone (sym c.in-None.is) refl) in
    play_refused (subcommand_rows_of c.args.matches.now) (rows_of found) is (subst HasBadOption (texts_are found) bad)

pub returns-in-Some-drive_options_of-clause-asked : goal.returns-in-Some-drive_options_of-clause-asked
returns-in-Some-drive_options_of-clause-asked c =
    let found = found_of c.in-Some-subcommand_matches.drive.now in
    let is = command_found _ (codes "drive") (rows_of found) (c.in-Some-subcommand_matches.ensures.found.0 refl) c.in-Some-subcommand_matches.ensures.rows in
    (rows_of found, is, subst (λ texts. HasDriveOptionsOf texts c.in-Some-drive_options_of.options) (texts_are found) c.in-Some-drive_options_of.ensures.given)

pub returns-in-None-drive_options_of-clause-refused : goal.returns-in-None-drive_options_of-clause-refused
returns-in-None-drive_options_of-clause-refused c = λ none.
    let found = found_of c.in-Some-subcommand_matches.drive.now in
    let is = command_found _ (codes "drive") (rows_of found) (c.in-Some-subcommand_matches.ensures.found.0 refl) c.in-Some-subcommand_matches.ensures.rows in
    drive_refused (subcommand_rows_of c.args.matches.now) (rows_of found) is (subst HasBadDriveOption (texts_are found) (c.in-None-drive_options_of.ensures.refused refl))
