-- Chains of clap's builders: what each step adds to a command that could be made.
use Rattle.std.proofs.Common.{◌≡◌, ◌∙◌, ◌||◌, Bool, true, false, IfOk, IsOkAnd, Result, Ok, Err, ap, ap₂, refl, subst}
use Rattle.std.specs.declared.alloc.AllocError.{AllocError}
use Rattle.clap.specs.Words.{AddsArg, AddsSubcommand, App, Rule, Text, app_of, rule_of, with_rule, with_subcommand}
use Rattle.clap.specs.declared.Command.TheViews.{out-Command as fields_of}
use Rattle.clap.specs.declared.builder.arg.Arg.{Arg}
use Rattle.clap.specs.declared.builder.command.Command.{Command}
use Rattle.clap.specs.declared.builder.value_parser.ValueParser.{ValueParser}
use Rattle.q_options.specs.CommandLine.{Gives, with_number}

or_false : (x : Bool) → (x || false) ≡ x
or_false true = refl
or_false false = refl

-- the second command is what a step makes of the first
abbrev pub Makes : (App → App) → Result Command AllocError → Result Command AllocError → Type 0
Makes step a b = IfOk b (λ new. IsOkAnd a (λ old. Gives step old new))

-- two steps, one after the other
pub then : (f g : App → App) (a b c : Result Command AllocError) → Makes f a b → Makes g b c → Makes (λ x. g (f x)) a c
then f g (Ok a) (Ok b) (Ok c) h k = record { app = k.app ∙ ap g h.app; local = k.local ∙ h.local }
then f g (Err e) (Ok b) (Ok c) h k = absurd h
then f g a (Err e) (Ok c) h k = absurd k
then f g a b (Err e) h k = tt

-- an argument that is not global
pub arg_makes : (arg : Arg) (rule : Rule) (a b : Result Command AllocError) → rule_of arg ≡ rule → arg.global ≡ false
    → IfOk b (λ new. IsOkAnd a (λ old. AddsArg old arg new)) → Makes (λ x. with_rule x rule) a b
arg_makes arg rule (Ok a) (Ok b) is local h =
    record { app = h.shape local ∙ ap (with_rule (app_of a)) is; local = h.globals ∙ (ap (λ (g : Bool). (fields_of a).has_globals || g) local ∙ or_false (fields_of a).has_globals) }
arg_makes arg rule (Err e) (Ok b) is local h = absurd h
arg_makes arg rule a (Err e) is local h = tt

-- an option with a number, by the parser that it has
pub number_makes : (name : Text) (p q : ValueParser) (needed : Bool) (a b : Result Command AllocError) → p ≡ q → Makes (with_number name p needed) a b → Makes (with_number name q needed) a b
number_makes name p q needed a b is h = subst (λ (r : ValueParser). Makes (with_number name r needed) a b) is h

-- what a chain comes to that begins with a command
pub made_app : (step : App → App) (a : Command) (first : App) (b : Result Command AllocError) → app_of a ≡ first → Makes step (Ok a) b → IfOk b (λ new. app_of new ≡ step first)
made_app step a first (Ok b) is h = h.app ∙ ap step is
made_app step a first (Err e) is h = tt

pub made_local : (step : App → App) (a : Command) (b : Result Command AllocError) → (fields_of a).has_globals ≡ false → Makes step (Ok a) b → IfOk b (λ new. (fields_of new).has_globals ≡ false)
made_local step a (Ok b) is h = h.local ∙ is
made_local step a (Err e) is h = tt

-- a command of its own
pub with_command : (x y : App) (a sub b : Result Command AllocError) → IfOk a (λ c. app_of c ≡ x) → IfOk sub (λ c. app_of c ≡ y) → IfOk sub (λ c. (fields_of c).has_globals ≡ false)
    → IfOk b (λ new. IsOkAnd a (λ old. IsOkAnd sub (λ s. AddsSubcommand old s new))) → IfOk b (λ new. app_of new ≡ with_subcommand x y.top)
with_command x y (Ok a) (Ok s) (Ok b) first second local h = h.shape local ∙ ap₂ with_subcommand first (ap (λ (z : App). z.top) second)
with_command x y (Err e) s (Ok b) first second local h = absurd h
with_command x y (Ok a) (Err e) (Ok b) first second local h = absurd h
with_command x y a s (Err e) first second local h = tt
