-- The names of numbers, as reports write those of causes, refusals and faults and tc those of kinds of qdiscs.
-- The names of the other answers are this project's own.
use Rattle.std.specs.Prelude.{ℕ, ◌==◌, List, codes, if◌then◌else◌}

-- an answer: a cause of a loss (1 to 6), a refusal (10 to 21 and 90), or what a call has to report
abbrev pub code_in_words : ℕ → List ℕ
code_in_words n =
    if n == 0 then codes "Done" else if n == 1 then codes "TooLong" else if n == 2 then codes "NoClass" else
    if n == 3 then codes "OverLimit" else if n == 4 then codes "CoDel" else if n == 5 then codes "FatFlow" else
    if n == 6 then codes "Purged" else if n == 10 then codes "NoParent" else if n == 11 then codes "Exists" else
    if n == 12 then codes "NoQdisc" else if n == 13 then codes "HandleTaken" else if n == 14 then codes "NotClassful" else
    if n == 15 then codes "NoClass" else if n == 16 then codes "Busy" else if n == 17 then codes "CannotChange" else
    if n == 18 then codes "TooDeep" else if n == 19 then codes "TooMany" else if n == 20 then codes "SmallBurst" else
    if n == 21 then codes "NoFilter" else if n == 30 then codes "Idle" else if n == 31 then codes "Later" else
    if n == 32 then codes "Nothing" else if n == 33 then codes "Full" else if n == 40 then codes "Faulty" else
    if n == 41 then codes "NoCommand" else if n == 42 then codes "OutOfRange" else if n == 43 then codes "Room" else
    if n == 44 then codes "Undone" else if n == 50 then codes "IsClosed" else if n == 51 then codes "IsOpen" else if n == 90 then codes "Memory" else codes "Unknown"

abbrev pub fault_in_words : ℕ → List ℕ
fault_in_words n =
    if n == 1 then codes "UnknownWord" else if n == 2 then codes "Missing" else if n == 3 then codes "BadNumber" else
    if n == 4 then codes "OutOfRange" else if n == 5 then codes "Twice" else if n == 6 then codes "BadUtf8" else codes "Unknown"

abbrev pub kind_in_words : ℕ → List ℕ
kind_in_words n =
    if n == 1 then codes "pfifo" else if n == 2 then codes "bfifo" else if n == 3 then codes "prio" else if n == 4 then codes "tbf" else
    if n == 5 then codes "drr" else if n == 6 then codes "fq_codel" else codes "unknown"

-- the name of an answer (0), of a line's fault (1), or of a kind of qdisc (2)
abbrev pub name_of : ℕ → ℕ → List ℕ
name_of what n = if what == 0 then code_in_words n else if what == 1 then fault_in_words n else kind_in_words n
