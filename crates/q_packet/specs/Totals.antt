-- A queue is a list of stamped packets, front first. What it holds, in packets and in bytes.
use Rattle.std.specs.Prelude.{ℕ, List, length, sum_by}
use Rattle.q_packet.specs.declared.stamped.Stamped.{Stamped}

-- how many packets a queue holds
abbrev pub count : List Stamped → ℕ
count queue = length queue

-- how many bytes they have together
abbrev pub size : List Stamped → ℕ
size queue = sum_by (λ s. s.packet.len) queue
