-- A row in which nothing is booked that was dropped or marked.
use Rattle.std.proofs.Common.{◌≡◌, ◌∙◌, sym, ap, arith}
use Rattle.q_model.specs.declared.row.Row.{Row}
use Rattle.q_model.specs.declared.totals.Totals.{Totals}
use Rattle.q_model.specs.Tally.{no_totals}
use Rattle.q_tree.specs.arrival.Arrivals.{plus, minus}
use Rattle.q_tree.specs.departure.AskSteps.{no_signals, signals_of, with_shown}
use Rattle.q_tree.specs.departure.Shown.{Shown}
use Rattle.q_tree.specs.declared.departure.signals.Signals.{Signals}
use Rattle.q_tree.proofs.counters.Rows.{same-totals}

pub plus-nothing : (t : Totals) → plus t no_totals ≡ t
plus-nothing t = same-totals (plus t no_totals) t (omega arith) (omega arith)

minus-nothing : (t : Totals) → minus t no_totals ≡ t
minus-nothing t = same-totals (minus t no_totals) t (omega arith) (omega arith)

pub shown-nothing : (s : Shown) (r : Row) → s.dropped ≡ no_totals → s.marked ≡ no_totals → r ≡ with_shown s r
shown-nothing s r d m =
    let dropped : plus r.dropped s.dropped ≡ r.dropped = ap (plus r.dropped) d ∙ plus-nothing r.dropped in
    let marked : plus r.marked s.marked ≡ r.marked = ap (plus r.marked) m ∙ plus-nothing r.marked in
    let queued : minus r.queued s.dropped ≡ r.queued = ap (minus r.queued) d ∙ minus-nothing r.queued in
    sym (λ i. record { arrived = r.arrived; sent = r.sent; refused = r.refused; dropped = dropped i; queued = queued i; marked = marked i })

pub signals-nothing : (s : Shown) → s.dropped ≡ no_totals → s.marked ≡ no_totals → signals_of s ≡ no_signals
signals-nothing s d m = λ i. record { dropped = d i; marked = m i }

-- a row in which this signals was booked
abbrev pub with_signals : Signals → Row → Row
with_signals t r = record r { dropped = plus r.dropped t.dropped; marked = plus r.marked t.marked; queued = minus r.queued t.dropped }

pub booked-signals : (t : Signals) (s : Shown) (r : Row) → t ≡ signals_of s → with_signals t r ≡ with_shown s r
booked-signals t s r told = ap (λ (u : Signals). with_signals u r) told
