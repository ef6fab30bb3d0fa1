-- What a writer holds of a text, of which it may have taken a front before it failed.
-- A writer's bytes are std's `contents`, known or not; `Appends` says what they grew by.
use Rattle.std.specs.Prelude.{◌≡◌, ℕ, ◌<◌, List, ◌++◌, length, Option, Result, OnOk, OnErr, IfErr}
use Rattle.std.specs.Io.KnownBytes.{Appends}
use Rattle.q_show.specs.Writes.{MayWrite, WriteFailed}
use Rattle.q_show.specs.declared.target.Target.{Target}
use Rattle.q_show.specs.declared.write_fault.WriteFault.{WriteFault}

-- the writer's known bytes grew by a front of the text, and some of the text is not written
abbrev pub AppendsFront : Option (List ℕ) → Option (List ℕ) → List ℕ → Type 0
AppendsFront old new text = (front : List ℕ) × (rest : List ℕ) × Appends old new front × (0 < length rest) × (text ≡ front ++ rest)

-- the text is what the writer's known bytes grew by, and then what is still buffered
abbrev pub IsBuffered : Option (List ℕ) → Option (List ℕ) → List ℕ → List ℕ → Type 0
IsBuffered old new buffered text = (front : List ℕ) × Appends old new front × (text ≡ front ++ buffered)

-- All of the text is written or still buffered, and another write may be made; or a write failed, and some of the text is not written.
pub record HasPut {W : Type 0} (contents : W → Option (List ℕ)) (old new : Target W) (buffered text : List ℕ) (result : Result (Unit {0}) WriteFault) : Type 0 where
  pub same_writer : new.writer.ghost_name ≡ old.writer.ghost_name
  pub ok : OnOk result (IsBuffered (contents old.writer.now) (contents new.writer.now) buffered text)
  pub err : OnErr result (AppendsFront (contents old.writer.now) (contents new.writer.now) text)
  pub going : OnOk result (MayWrite new.writes)
  pub failed : IfErr result (λ fault. WriteFailed new.writes fault.kind)

-- the same where nothing stays buffered
pub record HasWrittenWhole {W T : Type 0} (contents : W → Option (List ℕ)) (old new : Target W) (text : List ℕ) (result : Result T WriteFault) : Type 0 where
  pub same_writer : new.writer.ghost_name ≡ old.writer.ghost_name
  pub ok : OnOk result (Appends (contents old.writer.now) (contents new.writer.now) text)
  pub err : OnErr result (AppendsFront (contents old.writer.now) (contents new.writer.now) text)
  pub going : OnOk result (MayWrite new.writes)
  pub failed : IfErr result (λ fault. WriteFailed new.writes fault.kind)
