-- Of which answers on a line there is a sentence.
-- Refusals and faults are those of the script language; the sentences are for people, and no rule has them.
use Rattle.std.specs.Prelude.{◌≡◌, ℕ, ◌==◌, ◌⊎◌, List, if◌then◌else◌, Option, Some, None, IsSome, Result, Ok, Err, ⊤}
use Rattle.q_line.specs.declared.line.Line.{Line}
use Rattle.q_line.specs.declared.line.Line.TheVariants as line
use Rattle.q_model.specs.declared.refusal.Refusal.{Refusal}
use Rattle.q_model.specs.declared.refusal.Refusal.TheVariants.{NoParent, Exists, NoQdisc, HandleTaken, NotClassful, NoClass, Busy, CannotChange, TooDeep, TooMany, SmallBurst, NoFilter, Memory}
use Rattle.q_words.specs.declared.line_fault.LineFault.{LineFault}
use Rattle.q_words.specs.declared.line_fault.LineFault.TheVariants as fault
use Rattle.qtree_c.specs.events.Scripts.{IsWritten}
use Rattle.qtree_c.specs.declared.abi.c_fault.CFault.{CFault}

-- the refusal of this number
abbrev pub refusal_at : ℕ → Option Refusal
refusal_at n =
    if n == 10 then Some NoParent else if n == 11 then Some Exists else if n == 12 then Some NoQdisc else
    if n == 13 then Some HandleTaken else if n == 14 then Some NotClassful else if n == 15 then Some NoClass else
    if n == 16 then Some Busy else if n == 17 then Some CannotChange else if n == 18 then Some TooDeep else
    if n == 19 then Some TooMany else if n == 20 then Some SmallBurst else if n == 21 then Some NoFilter else
    if n == 90 then Some Memory else None

-- the fault that C's fields say
abbrev pub fault_at : CFault → Option LineFault
fault_at f =
    if f.number == 1 then Some (fault.UnknownWord f.word) else if f.number == 2 then Some (fault.Missing f.word) else
    if f.number == 3 then Some (fault.BadNumber f.word) else if f.number == 4 then Some (fault.OutOfRange f.word) else
    if f.number == 5 then Some (fault.Twice f.word) else if f.number == 6 then Some (fault.BadUtf8 f.word) else None

-- a line of the language that is no command
abbrev pub IsOther : Result Line LineFault → Type 0
IsOther (Err f) = ⊥
IsOther (Ok (line.Tc c)) = ⊥
IsOther (Ok line.Blank) = ⊤
IsOther (Ok (line.Show show)) = ⊤
IsOther (Ok (line.At moment)) = ⊤
IsOther (Ok (line.Pkt arrival)) = ⊤
IsOther (Ok (line.Frame len head)) = ⊤
IsOther (Ok (line.Poll polls)) = ⊤
IsOther (Ok line.Reap) = ⊤
IsOther (Ok line.Totals) = ⊤

-- the answer is a refusal; or that the line has a fault, and this is one; or that it is no command, and it is none
abbrev pub IsExplained : ℕ → CFault → Result Line LineFault → Type 0
IsExplained code f read = ((code ≡ 40) × IsSome (fault_at f)) ⊎ ((code ≡ 41) × IsOther read) ⊎ IsSome (refusal_at code)

-- some text is written into the first of the lent bytes, or there are too few of them
abbrev pub IsSomeText : ℕ → ℕ → List ℕ → List ℕ → Type 0
IsSomeText code needed before after = (text : List ℕ) × IsWritten text code needed before after
