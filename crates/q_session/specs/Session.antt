-- What a line of a script does to a session over a device, by q_script_semantics's definitions with totals.
use Rattle.std.specs.Prelude.{ℕ, Bool, List}
use Rattle.q_line.specs.Grammar.{line_of}
use Rattle.q_line.specs.declared.line.Line.{Line}
use Rattle.q_line.specs.declared.line.Line.TheVariants.{Poll, Reap, Show}
use Rattle.q_model.specs.Settings.{DeviceSettings}
use Rattle.q_model.specs.Tally.{Counts, totals}
use Rattle.q_script_semantics.specs.Report.{SessionState, new_session}
use Rattle.q_script_semantics.specs.Report as report
use Rattle.q_script.specs.Settings.{Settings}
use Rattle.q_script.specs.Step.{Effect}

-- a session as a contract sees it: the seed of the hash, the device's settings, of which the recorder's length is one, and what
-- the lines have made so far
pub record SessionSeen : Type 0 where
  pub seed : ℕ
  pub settings : DeviceSettings
  pub state : SessionState Counts

abbrev pub device_settings : Settings → DeviceSettings
device_settings s = record { mtu = s.mtu; txqueuelen = s.txqueuelen; recorder = s.recorder }

-- a session on a new device
abbrev pub opened : Settings → SessionSeen
opened settings = record { seed = settings.seed; settings = device_settings settings; state = new_session totals (device_settings settings) }

-- what q_script_semantics says that a line writes and leaves
abbrev pub seen : SessionSeen → report.Effect Counts → Effect SessionSeen
seen s e = record { text = e.text; session = record s { state = e.session } }

abbrev pub effect_of : Bool → ℕ → List ℕ → SessionSeen → Effect SessionSeen
effect_of starved k line s = seen s (report.effect totals s.seed starved k (line_of line) s.state)

-- a line that writes one line at most: all but polls, losses and shows
abbrev pub IsShort : Line → Type 0
IsShort (Poll n) = ⊥
IsShort Reap = ⊥
IsShort (Show show) = ⊥
IsShort other = Unit {0}
