-- What the words of a command line ask for: the program's commands with their options, and what clap found of these.
-- How clap walks over the words is in its own definitions: `subcommand_of` is the command that they name, with its options, and
-- `fault_of` the kinds of fault that they have. The options, their ranges and defaults are this project's own.
use Rattle.std.specs.Prelude.{◌≡◌, ◌≤◌, ◌⊎◌, ℕ, pos, Bool, true, false, List, Option, None, Some, option_map, string_bytes, codes, ⊤, if◌then◌else◌}
use Rattle.std.specs.Str.{bytes_eq}
use Rattle.std.specs.Str.Parse.{IsNumeral, digits_value, without_leading_plus}
use Rattle.clap.specs.Words.{App, Row, Rule, Text, IsAmong, app_of, fault_of, first_of, new_app, new_rule, one_of, subcommand_of, with_rule, with_subcommand}
use Rattle.clap.specs.declared.builder.action.ArgAction.TheVariants.{SetTrue}
use Rattle.clap.specs.declared.Command.TheViews.{out-Command as fields_of}
use Rattle.clap.specs.declared.builder.command.Command.{Command}
use Rattle.clap.specs.declared.builder.value_parser.ValueParser.{ValueParser}
use Rattle.clap.specs.declared.builder.value_parser.ValueParser.TheVariants as vp
use Rattle.clap.specs.declared.error.kind.ErrorKind.{ErrorKind}
use Rattle.clap.specs.declared.error.kind.ErrorKind.TheVariants.{OutOfMemory}
use Rattle.q_drive.specs.Drive.{Drive}
use Rattle.q_options.specs.declared.drive_options.DriveOptions.{DriveOptions}
use Rattle.q_options.specs.declared.play_options.PlayOptions.{PlayOptions}
use Rattle.q_options.specs.declared.program_options.Options.{Options}
use Rattle.q_options.specs.declared.program_options.Options.TheVariants as options
use Rattle.q_script.specs.Settings.{Settings}

-- an option with a number
abbrev pub number_named : Text → Rule
number_named name = record (new_rule name) { long = Some name; value_names = 1 }

-- one of this range, which may have to be given
abbrev pub number_rule : Text → ℕ → ℕ → Bool → Rule
number_rule name low high needed = record (number_named name) { parser = Some (vp.Signed (pos low) (pos high)); required = needed }

-- an option without a value
abbrev pub flag_rule : Text → Rule
flag_rule name = record (new_rule name) { long = Some name; action = Some SetTrue }

-- a command with an option that has a number which this parser takes
abbrev pub with_number : Text → ValueParser → Bool → App → App
with_number name parser needed a = with_rule a (record (number_named name) { parser = Some parser; required = needed })

-- what a step makes of a command: this one, to which no global argument came
pub record Gives (step : App → App) (old new : Command) : Type 0 where
  pub app : app_of new ≡ step (app_of old)
  pub local : (fields_of new).has_globals ≡ (fields_of old).has_globals

-- a command with the options of its device
abbrev pub with_device : App → App
with_device a =
    with_rule (with_rule (with_rule (with_rule a
    (number_rule (codes "mtu") 1 65535 false))
    (number_rule (codes "txqueuelen") 0 4294967295 false))
    (number_rule (codes "seed") 0 4294967295 false))
    (number_rule (codes "record") 0 1000000 false)

-- the file that has the script: a word without an option
abbrev pub file_rule : Rule
file_rule = record (new_rule (codes "file")) { value_names = 1 }

abbrev pub play_app : App
play_app = with_rule (with_rule (with_device (new_app (codes "play"))) (flag_rule (codes "explain"))) file_rule

-- a command with the options of its senders
abbrev pub with_load : App → App
with_load a =
    with_rule (with_rule (with_rule (with_rule a
    (number_rule (codes "senders") 1 64 true))
    (number_rule (codes "count") 0 1000000 true))
    (number_rule (codes "len") 1 65535 true))
    (number_rule (codes "ring") 1 65536 true)

abbrev pub drive_app : App
drive_app = with_rule (with_device (with_rule (with_rule (with_load (new_app (codes "drive"))) (flag_rule (codes "until-idle"))) (flag_rule (codes "show")))) (flag_rule (codes "explain"))

-- the program: it has a version, and needs a command
abbrev pub bare_program : App
bare_program = let app = new_app (codes "qtree") in
    record app { top = record app.top { has_version = true; subcommand_required = true; arg_required_else_help = true } }

abbrev pub program : App
program = with_subcommand (with_subcommand bare_program play_app.top) drive_app.top

-- what was found of the options: by the name of an option, the text of its value
abbrev pub Texts : Type 0
Texts = Text → Option Text

abbrev pub texts_in : List Row → Texts
texts_in rows name = one_of name rows

-- the same, as the text was written
abbrev pub written_in : List Row → Texts
written_in rows name = first_of name rows

abbrev pub number_of : Text → ℕ
number_of text = digits_value 10 (without_leading_plus text)

-- the value of a number in decimal, or the default where it is not given
pub record IsNumber (text : Option Text) (default value : ℕ) : Type 0 where
  pub absent : text ≡ None → value ≡ default
  pub given : (t : Text) → text ≡ Some t → value ≡ number_of t

-- the value of a number that has to be given
pub record IsGiven (text : Option Text) (value : ℕ) : Type 0 where
  pub present : text ≡ None → ⊥
  pub given : (t : Text) → text ≡ Some t → value ≡ number_of t

-- whether a word was given that takes no value
pub record IsFlag (text : Option Text) (value : Bool) : Type 0 where
  pub absent : text ≡ None → value ≡ false
  pub given : text ≡ Some (codes "true") → value ≡ true
  pub denied : text ≡ Some (codes "false") → value ≡ false

-- the settings of the device are those that were given, or the defaults
pub record HasOptionsOf (found : Texts) (s : Settings) : Type 0 where
  pub mtu : IsNumber (found (codes "mtu")) 1514 s.mtu
  pub txqueuelen : IsNumber (found (codes "txqueuelen")) 1000 s.txqueuelen
  pub seed : IsNumber (found (codes "seed")) 0 s.seed
  pub recorder : IsNumber (found (codes "record")) 4096 s.recorder

-- the file that a word names: `-` names standard input, as no word does
abbrev pub script_file : Option Text → Option Text
script_file None = None
script_file (Some path) = if bytes_eq path (codes "-") then None else Some path

-- And so is what is asked of play. A path is taken as it is written.
pub record HasPlayOptionsOf (found written : Texts) (o : PlayOptions) : Type 0 where
  pub device : HasOptionsOf found o.settings
  pub file : option_map string_bytes o.file ≡ script_file (written (codes "file"))
  pub explain : IsFlag (found (codes "explain")) o.explain

-- and so are those of a drive
pub record HasDriveSettingsOf (found : Texts) (s : Drive) : Type 0 where
  pub device : HasOptionsOf found s.device
  pub senders : IsGiven (found (codes "senders")) s.senders
  pub count : IsGiven (found (codes "count")) s.count
  pub len : IsGiven (found (codes "len")) s.len
  pub ring : IsGiven (found (codes "ring")) s.ring
  pub until_idle : IsFlag (found (codes "until-idle")) s.until_idle
  pub show : IsFlag (found (codes "show")) s.show

-- and what is asked of it
pub record HasDriveOptionsOf (found : Texts) (o : DriveOptions) : Type 0 where
  pub settings : HasDriveSettingsOf found o.settings
  pub explain : IsFlag (found (codes "explain")) o.explain

-- what is asked for, by the command that was found with its options
abbrev pub IsAskedBy : Option (Text × List Row) → Options → Type 0
IsAskedBy found (options.Play o) = (rows : List Row) × (found ≡ Some (codes "play", rows)) × HasPlayOptionsOf (texts_in rows) (written_in rows) o
IsAskedBy found (options.Drive s) = (rows : List Row) × (found ≡ Some (codes "drive", rows)) × HasDriveOptionsOf (texts_in rows) s

-- a number from `low` to `high`
pub record IsNumberIn (low high : ℕ) (text : Text) : Type 0 where
  pub numeral : IsNumeral 10 (without_leading_plus text)
  pub least : low ≤ number_of text
  pub most : number_of text ≤ high

-- a text was given that is no number of its option's range
abbrev pub IsBad : Option Text → ℕ → ℕ → Type 0
IsBad None low high = ⊥
IsBad (Some text) low high = IsNumberIn low high text → ⊥

-- it was not given, or is no number of the range
abbrev pub IsNotGood : Option Text → ℕ → ℕ → Type 0
IsNotGood None low high = ⊤
IsNotGood (Some text) low high = IsNumberIn low high text → ⊥

abbrev pub HasBadOption : Texts → Type 0
HasBadOption found =
    IsBad (found (codes "mtu")) 1 65535 ⊎ IsBad (found (codes "txqueuelen")) 0 4294967295
    ⊎ IsBad (found (codes "seed")) 0 4294967295 ⊎ IsBad (found (codes "record")) 0 1000000

abbrev pub HasBadDriveOption : Texts → Type 0
HasBadDriveOption found =
    HasBadOption found ⊎ IsNotGood (found (codes "senders")) 1 64 ⊎ IsNotGood (found (codes "count")) 0 1000000
    ⊎ IsNotGood (found (codes "len")) 1 65535 ⊎ IsNotGood (found (codes "ring")) 1 65536

-- neither command is named, or an option of the one that is has no value that it can have
abbrev pub IsUnreadable : Option (Text × List Row) → Type 0
IsUnreadable None = ⊤
IsUnreadable (Some named) =
    (named.0 ≡ codes "play" → HasBadOption (texts_in named.1)) × (named.0 ≡ codes "drive" → HasBadDriveOption (texts_in named.1))

-- the options are those of the words
abbrev pub IsAsked : List Text → Options → Type 0
IsAsked words o = IsAskedBy (subcommand_of program words) o

-- a fault is one of the words, or an allocation failed
abbrev pub IsRefused : List Text → ErrorKind → Type 0
IsRefused words kind = (kind ≡ OutOfMemory) ⊎ IsAmong kind (fault_of program words) ⊎ IsUnreadable (subcommand_of program words)
