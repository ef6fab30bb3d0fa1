-- The lines of recorded events, and the script of all of them, in memory that C lends.
-- The texts are q_spelling's, and how they are lent this project's own.
use Rattle.std.specs.Prelude.{◌≡◌, ◌≢◌, ℕ, ◌<◌, ◌≤◌, ◌++◌, List, drop, length, slice_get, Option, Some, None}
use Rattle.q_device.specs.device.DeviceSeen.{DeviceSeen}
use Rattle.q_model.specs.declared.event.Event.{Event}
use Rattle.q_spelling.specs.Events.{event_text, script_text}

-- A text is written into the first of the lent bytes (0); or there are too few of them (43), and nothing is written. How many it needs
-- is reported.
pub record IsWritten (text : List ℕ) (code needed : ℕ) (before after : List ℕ) : Type 0 where
  pub long : needed ≡ length text
  pub done : code ≡ 0 → after ≡ text ++ drop needed before
  pub fits : code ≡ 0 → needed ≤ length before
  pub kept : code ≢ 0 → after ≡ before
  pub room : code ≢ 0 → (code ≡ 43) × (length before < needed)

-- nothing is written, and the answer says why
pub record IsUnwritten (why code needed : ℕ) (before after : List ℕ) : Type 0 where
  pub answer : code ≡ why
  pub none : needed ≡ 0
  pub kept : after ≡ before

-- the line of an event, where there is one
abbrev pub IsLineOf : Option Event → ℕ → ℕ → List ℕ → List ℕ → Type 0
IsLineOf None code needed before after = IsUnwritten 32 code needed before after
IsLineOf (Some e) code needed before after = IsWritten (event_text e) code needed before after

pub record IsRecordedLine (index code needed : ℕ) (before after : List ℕ) (d n : DeviceSeen) : Type 0 where
  pub same : n ≡ d
  pub line : IsLineOf (slice_get d.recorded index) code needed before after

-- the script of all recorded events, or an allocation fails for it (90)
pub record IsScript (code needed : ℕ) (before after : List ℕ) (d n : DeviceSeen) : Type 0 where
  pub same : n ≡ d
  pub script : code ≢ 90 → IsWritten (script_text d.recorded) code needed before after
  pub memory : code ≡ 90 → IsUnwritten 90 code needed before after
