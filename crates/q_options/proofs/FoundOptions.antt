-- What clap found of the options, by its rows; and a fault of the options where they make no settings.
use Rattle.std.proofs.Common.{◌≡◌, ℕ, ◌≤◌, ◌⊎◌, inl, inr, Bool, true, false, List, Option, Some, None, Result, Ok, Err, option_map, Box, refl, sym, subst, arith, codes}
use Rattle.std.proofs.lemmas.Bool.{leb-true, leb-false}
use Rattle.std.proofs.Math.Dec.{leb}
use mathlib.Core.Path.{fun_ext}
use Rattle.clap.specs.Words.{HasKind, Row, Text, fault_of, first_value, is_simple, is_simple_and_free, kind_of, one_text, subcommand_of, subcommand_rows}
use Rattle.clap.specs.declared.error.Error.{Error}
use Rattle.clap.specs.declared.error.kind.ErrorKind.{ErrorKind}
use Rattle.clap.proofs.OnLiterals.{clap_on_literals}
use Rattle.clap.specs.Walk.{rows_of}
use Rattle.clap.specs.declared.parser.matches.Found.{Found}
use Rattle.clap.specs.declared.parser.matches.SubCommand.{SubCommand}
use Rattle.clap.specs.declared.parser.matches.ArgMatches.TheViews.{out-SubCommand}
use Rattle.std.specs.Box.{box_value}
use Rattle.std.specs.Result.{IfErr, IsErrAnd}
use Rattle.clap.proofs.WalkLemmas.{first_value-rows, one_text-rows}
use Rattle.q_options.specs.CommandLine.{HasBadDriveOption, HasBadOption, IsGiven, IsNotGood, IsRefused, IsUnreadable, Texts, number_of, program, texts_in, written_in}

-- either way of asking what was found
pub texts_are : (f : Found) → one_text f ≡ texts_in (rows_of f)
texts_are f = fun_ext (one_text-rows f)

-- and what was written
pub written_are : (f : Found) → first_value f ≡ written_in (rows_of f)
written_are f = fun_ext (first_value-rows f)

play_is_not_drive : codes "play" ≡ codes "drive" → ⊥
play_is_not_drive e = cc

-- a command that was found, whose options are at fault
pub play_refused : (found : Option (Text × List Row)) (rows : List Row) → found ≡ Some (codes "play", rows) → HasBadOption (texts_in rows) → IsUnreadable found
play_refused found rows e bad = subst IsUnreadable (sym e) (λ _. bad, λ same. absurd (play_is_not_drive same))

pub drive_refused : (found : Option (Text × List Row)) (rows : List Row) → found ≡ Some (codes "drive", rows) → HasBadDriveOption (texts_in rows) → IsUnreadable found
drive_refused found rows e bad = subst IsUnreadable (sym e) (λ same. absurd (play_is_not_drive (sym same)), λ _. bad)

-- a number that is given and out of its range
pub not_good : (text : Option Text) (value low high : ℕ) → IsGiven text value → (low ≤ value → value ≤ high → ⊥) → IsNotGood text low high
not_good None value low high g out = absurd (g.present refl)
not_good (Some t) value low high g out = λ n. let is : value ≡ number_of t = g.given t refl in let least = n.least in let most = n.most in out (omega arith) (omega arith)

good_or_not : (text : Option Text) (value low high : ℕ) → IsGiven text value → ((low ≤ value) × (value ≤ high)) ⊎ IsNotGood text low high
good_or_not text value low high g = by_tests (leb low value) (leb value high) refl refl
  where
    by_tests : (a b : Bool) → leb low value ≡ a → leb value high ≡ b → ((low ≤ value) × (value ≤ high)) ⊎ IsNotGood text low high
    by_tests true true p q = inl (leb-true low value p, leb-true value high q)
    by_tests true false p q = let out = leb-false value high q in inr (not_good text value low high g (λ a b. omega arith))
    by_tests false b p q = let out = leb-false low value p in inr (not_good text value low high g (λ a b. omega arith))

-- the options of a drive that are out of range
pub drive_out_of_range : (found : Texts) (senders count len ring : ℕ) → IsGiven (found (codes "senders")) senders → IsGiven (found (codes "count")) count
    → IsGiven (found (codes "len")) len → IsGiven (found (codes "ring")) ring
    → (((1 ≤ senders) × (senders ≤ 64)) → count ≤ 1000000 → ((1 ≤ len) × (len ≤ 65535)) → ((1 ≤ ring) × (ring ≤ 65536)) → ⊥) → HasBadDriveOption found
drive_out_of_range found senders count len ring s n l r out =
    by_all (good_or_not (found (codes "senders")) senders 1 64 s) (good_or_not (found (codes "count")) count 0 1000000 n)
    (good_or_not (found (codes "len")) len 1 65535 l) (good_or_not (found (codes "ring")) ring 1 65536 r)
  where
    by_all : ((1 ≤ senders) × (senders ≤ 64)) ⊎ IsNotGood (found (codes "senders")) 1 64 → ((0 ≤ count) × (count ≤ 1000000)) ⊎ IsNotGood (found (codes "count")) 0 1000000
        → ((1 ≤ len) × (len ≤ 65535)) ⊎ IsNotGood (found (codes "len")) 1 65535 → ((1 ≤ ring) × (ring ≤ 65536)) ⊎ IsNotGood (found (codes "ring")) 1 65536 → HasBadDriveOption found
    by_all (inr bad) b c d = search (inl, inr)
    by_all (inl a) (inr bad) c d = search (inl, inr)
    by_all (inl a) (inl b) (inr bad) d = search (inl, inr)
    by_all (inl a) (inl b) (inl c) (inr bad) = search (inl, inr)
    by_all (inl a) (inl b) (inl c) (inl d) = absurd (out a b.1 c d)

-- the command that was found, by its name and its rows
pub command_found : {Z : Type 0} (sub : Option (Box SubCommand Z)) (name : Text) (rows : List Row)
    → option_map (λ (b : Box SubCommand Z). (out-SubCommand (box_value b)).name.now) sub ≡ Some name
    → option_map (λ (p : Text × List Row). p.1) (subcommand_rows sub) ≡ Some rows → subcommand_rows sub ≡ Some (name, rows)
command_found None name rows e f = absurd (let k : None ≡ Some name = e in cc)
command_found (Some b) name rows e f = cc

-- the program is one of those whose parses clap's contract tells whole
pub program_is_free : is_simple_and_free program ≡ true
unfolding clap_on_literals
program_is_free = refl

pub program_is_simple : is_simple program ≡ true
unfolding clap_on_literals
program_is_simple = refl

-- a fault of the words that clap found
pub words_refused : (words : List Text) (e : Error) → HasKind (fault_of program words) e → IsRefused words (kind_of e)
words_refused words e (inl memory) = search (memory, inl)
words_refused words e (inr among) = search (among, inl, inr)

-- an error that is passed on as it is
pub passed_on : {T : Type 0} (r : Result T Error) (e : Error) (P : Error → Type 0) → IsErrAnd r (λ f. f ≡ e) → P e → IfErr r P
passed_on (Ok t) e P h p = tt
passed_on (Err f) e P h p = subst P (sym h) p
