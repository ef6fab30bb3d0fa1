-- How many quanta a listed flow needs, and what some visits of the scheduler do to a list of flows.
-- RFC 8290, section 4.2: a visited flow without credits gets one quantum, and an empty old flow with credits leaves.
use Rattle.std.specs.Prelude.{ℕ, suc, ◌*◌, pos, ◌+ℤ◌, int_lt, unsigned_abs, nat_lt, nat_le, List, map, filter}
use Rattle.q_packet.specs.Least.{least}
use Rattle.q_fqcodel.specs.Entry.{Entry}

-- the least number of quanta that makes the flow's credits positive
unfoldable pub need : ℕ → Entry → ℕ
need quantum e = least (λ k. int_lt (pos 0) (e.credits +ℤ pos (k * quantum))) (suc (unsigned_abs e.credits))

-- the flow with n quanta more
unfoldable pub given : ℕ → ℕ → Entry → Entry
given quantum n e = record e { credits = e.credits +ℤ pos (n * quantum) }

-- those of a list who stay after n visits: each has got n quanta, and needs no fewer
unfoldable pub stay : ℕ → ℕ → List Entry → List Entry
stay quantum n es = map (given quantum n) (filter (λ e. nat_le n (need quantum e)) es)

-- the flows of those who leave within n visits: all were empty, and met with positive credits at a later visit
unfoldable pub leave : ℕ → ℕ → List Entry → List ℕ
leave quantum n es = map (λ e. e.flow) (filter (λ e. nat_lt (need quantum e) n) es)
