-- The most packets that a tree can hold while its settings stay, which is how many buffers they need.
-- tc-pfifo(8), tc-bfifo(8), tc-fq_codel(8), `limit`; that tbf, drr and fq_codel hold what they show is this project's choice.
use Rattle.std.specs.Prelude.{ℕ, ◌+◌, max, List}
use Rattle.std.specs.List.{sum}
use Rattle.q_packet.specs.Totals.{count}
use Rattle.q_codel.specs.declared.limit.Limit.{Limit}
use Rattle.q_codel.specs.declared.limit.Limit.TheVariants.{Packets, Bytes}
use Rattle.q_fqcodel.specs.FqState as fq_codel
use Rattle.q_model.specs.Node.{Discipline, Fifo, Prio, Tbf, Drr, FqCodel, Own, Node, from_below}

-- the most packets under a limit: a packet has one byte at least
abbrev pub most_under : Limit → ℕ
most_under (Packets most) = most
most_under (Bytes most) = most

-- The most in a discipline's own lists. Where a limit was set below what was queued, that is queued still.
abbrev pub most_queued : Discipline → ℕ
most_queued (Fifo limit queue) = max (most_under limit) (count queue)
most_queued (FqCodel s) = max s.settings.limit (fq_codel.packets_of s.flows)
most_queued (Prio priomap) = 0
most_queued (Tbf bucket limit) = 0
most_queued (Drr s) = 0

-- beside them, the packet that it was asked to show and has dequeued for that: these three may hold one
abbrev pub most_held : Discipline → ℕ
most_held (Tbf bucket limit) = 1
most_held (Drr s) = 1
most_held (FqCodel s) = 1
most_held (Fifo limit queue) = 0
most_held (Prio priomap) = 0

abbrev pub most_own : Own → List ℕ → ℕ
most_own own below = most_queued own.discipline + most_held own.discipline + sum below

-- at a node and below it
abbrev pub most_packets : {M : Type 0} → Node M → ℕ
most_packets n = from_below most_own n
