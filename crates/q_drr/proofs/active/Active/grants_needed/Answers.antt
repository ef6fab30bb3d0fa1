use Rattle.std.proofs.Common.{◌≡◌, ◌-◌, ◌<◌, ◌≤◌, ℕ, Some, sym, ap, ap₂, ◌∙◌, arith}
use Rattle.std.specs.Prelude.{slice_get, min, ◌/◌, ◌%◌, ◌+◌}
use Rattle.q_drr.specs.declared.class_table.ClassState.{ClassState}
use Rattle.q_drr.specs.States.{name_in, kept_of, state_of}
use Rattle.q_drr.specs.Take.{grants_for}
use Rattle.q_drr.specs.Rounds.{front_need}
use Rattle.q_drr.proofs.StateLemmas.{Stands}
use Rattle.q_drr.proofs.SoundLemmas.{stands_front, state_at, fits, lawful, needs_front}
use Rattle.q_drr.proofs.TakeLemmas.{need_none}
use Rattle.q_drr.proofs.RoundLemmas.{need_is}
use Rattle.q_drr.proofs.active.Active.grants_needed.Goals.{After-from-head_len}
use Rattle.q_drr.proofs.active.Active.grants_needed.Goals as goal

first : (c : After-from-head_len) → slice_get c.self.inside.ring.order 0 ≡ Some c.in-Some.place
first c = sym c.in-Some.ensures

abbrev front_name : After-from-head_len → ℕ
front_name c = name_in c.self.inside.table c.in-Some.place

stands : (c : After-from-head_len) → Stands c.in-Some.place (front_name c) c.self.inside.table
stands c = let s = c.self.inside in stands_front s.max_len s.turns s.table s.ring c.self.invariant c.in-Some.place (first c)

read : (c : After-from-head_len) → c.get-state.result ≡ kept_of (state_of (front_name c) c.self.inside.table)
read c = let s = c.self.inside in state_at s.max_len s.turns s.table s.ring c.self.invariant c.in-Some.place (front_name c) _ (stands c) c.get-state.ensures

at_least_one : (c : After-from-head_len) → 1 ≤ c.get-state.result.quantum
at_least_one c =
    let s = c.self.inside in
    omega (arith, (fits s.max_len s.turns s.table s.ring c.self.invariant (front_name c) (stands c).there).at_least_one, ap (λ (k : ClassState). k.quantum) (read c))

needs : (c : After-from-head_len) → front_need c.args.head_len c.args.self.now ≡ grants_for c.get-state.result.quantum c.get-state.result.deficit (Some c.args.head_len)
needs c =
    let s = c.self.inside in
    ap (front_need c.args.head_len) (sym c.self.view_is) ∙ needs_front s.max_len s.turns s.table s.ring c.self.invariant c.in-Some.place c.args.head_len (first c)
    ∙ ap (λ (k : ClassState). grants_for k.quantum k.deficit (Some c.args.head_len)) (sym (read c))

pub returns-then-head_len-state-clause-value : goal.returns-then-head_len-state-clause-value
returns-then-head_len-state-clause-value c =
    let a = (goal.at.returns-then-head_len-state-clause-value c).After-from-head_len in
    sym (needs a ∙ need_none c.get-state.result.quantum c.get-state.result.deficit c.args.head_len (omega (arith, c.from-head_len.ensures, c.if-head_len-state.true)))

pub div_ceil-requires : goal.div_ceil-requires
div_ceil-requires c = omega (arith, at_least_one (goal.at.div_ceil-requires c).After-from-head_len, c.from.ensures)

pub returns-clause-value : goal.returns-clause-value
returns-clause-value c =
    let a = (goal.at.returns-clause-value c).After-from-head_len in
    let short : c.get-state.result.deficit < c.args.head_len = omega (arith, c.from-head_len.ensures, c.if-head_len-state.false) in
    c.div_ceil.ensures
    ∙ ap₂ (λ (m q : ℕ). m / q + min 1 (m % q)) (ap (λ (m : ℕ). m - c.get-state.result.deficit) c.from-head_len.ensures) c.from.ensures
    ∙ need_is c.get-state.result.quantum c.get-state.result.deficit c.args.head_len (at_least_one a) short
    ∙ sym (needs a)

pub returns-then-head_len-state-clause-lawful : goal.returns-then-head_len-state-clause-lawful
returns-then-head_len-state-clause-lawful c = let s = c.self.inside in lawful s.max_len s.turns s.table s.ring c.self.invariant c.args.self.now c.self.view_is

pub returns-clause-lawful : goal.returns-clause-lawful
returns-clause-lawful c = let s = c.self.inside in lawful s.max_len s.turns s.table s.ring c.self.invariant c.args.self.now c.self.view_is
