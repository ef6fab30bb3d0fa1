-- One test of the front of the new or the old list: either the flow there sends, or the selection starts again.
-- RFC 8290, section 4.2.
use Rattle.std.specs.Prelude.{◌≡◌, ℕ, suc, ◌+◌, ◌<◌, ◌<ℤ◌, pos, false, IfSome, sum_by}
use Rattle.q_fqcodel.specs.Entry.{Entry}
use Rattle.q_fqcodel.specs.Quanta.{need}
use Rattle.q_fqcodel.specs.FqState.{FqState, is_idle, packets_of}
use Rattle.q_fqcodel.specs.Take.{selected, front}

-- the work left before a flow sends: each test of the front lowers it
unfoldable pub turns : FqState → ℕ
turns s =
    sum_by (λ (e : Entry). suc (suc (need s.settings.quantum e))) s.new_flows
    + sum_by (λ (e : Entry). suc (need s.settings.quantum e)) s.old_flows

-- the same flow sends in the end, and the same packets wait
pub record GoesOn (s t : FqState) : Type 0 where
  pub same : selected t ≡ selected s
  pub fewer : turns t < turns s
  pub packets : packets_of t.flows ≡ packets_of s.flows

-- the flow in front is the one that sends, or no flow is listed
pub record IsSettled (s : FqState) : Type 0 where
  pub chosen : selected s ≡ s
  pub credits : IfSome (front s) (λ e. pos 0 <ℤ e.credits)
  pub busy : IfSome (front s) (λ e. is_idle s.flows e.flow ≡ false)
