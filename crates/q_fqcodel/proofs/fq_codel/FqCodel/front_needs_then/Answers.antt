use Rattle.std.proofs.Common.{◌≡◌, ℕ, ◌-◌, ◌≤◌, pos, ◌≤ℤ◌, true, false, List, [], ◌∷◌, ◌++◌, drop, sym, ap, ap₂, ◌∙◌, arith, rules, Fits, w64}
use Rattle.std.proofs.lemmas.Int.{ints}
use Rattle.q_fqcodel.specs.Entry.{Entry}
use Rattle.q_fqcodel.specs.FlowsState.{state_of}
use Rattle.q_fqcodel.specs.FqState.{FqSettings, FqState, FqView}
use Rattle.q_fqcodel.specs.Quanta.{need}
use Rattle.q_fqcodel.specs.Rounds.{front_needs_then}
use Rattle.q_fqcodel.proofs.RoundLemmas.{needs_one}
use Rattle.q_fqcodel.proofs.TurnLemmas.{Looks, front_at, in_flows, is_spent, has_credits, idle_is}
use Rattle.q_fqcodel.proofs.VisitLemmas.{then_gone, then_empty, then_needs}
use Rattle.q_fqcodel.proofs.fq_codel.FqCodel.front_needs_then.Goals as goal
use Rattle.q_fqcodel.proofs.fq_codel.FqCodel.front_needs_then.Goals.{After-unwrap-entry, After-needed, then-entry-gt0-via-then-entry-gt0, then-entry-gt0-via-else-entry-gt0+then-is_idle}

-- the state as it was opened, and the flows behind the front
abbrev opened : After-unwrap-entry → FqState
opened c = state_of c.self.inside.settings c.self.inside.flows c.self.inside.lists.new_flows c.self.inside.lists.old_flows

abbrev behind : After-unwrap-entry → List Entry
behind c = drop 1 c.self.inside.lists.old_flows

opened_is : (c : After-unwrap-entry) → opened c ≡ c.args.self.now.state
opened_is c = ap (λ (v : FqView). v.state) c.self.view_is

at_front : (c : After-unwrap-entry) → c.self.inside.lists.old_flows ≡ c.unwrap-entry.result ∷ behind c
at_front c = front_at c.self.inside.lists.old_flows c.unwrap-entry.result (sym c.first_old.ensures ∙ c.unwrap-entry.ensures)

none_new : (c : After-unwrap-entry) → c.self.inside.lists.new_flows ≡ []
none_new c = ap (λ (s : FqState). s.new_flows) (opened_is c) ∙ c.requires.no_new

looks : (c : After-unwrap-entry) (x : Entry) → x ≡ c.unwrap-entry.result → Looks c.args.self.now.state (opened c) c.unwrap-entry.result x (behind c)
looks c x read = record { opened = opened_is c; lawful = c.self.invariant.0; read = read; first = ap₂ (λ (l m : List Entry). l ++ m) (none_new c) (at_front c) }

pub is_idle-requires : goal.is_idle-requires
is_idle-requires c = in_flows (looks (goal.at.is_idle-requires c).After-unwrap-entry _ c.entry.view_is)

pub returns-then-entry-gt0 : goal.returns-then-entry-gt0
returns-then-entry-gt0 c =
    let at = (goal.at.returns-then-entry-gt0 c).After-unwrap-entry in
    let s = opened at in
    let e = c.unwrap-entry.result in
    let look = looks at _ c.entry.view_is in
    sym (ap front_needs_then (sym (opened_is at)) ∙ elim c.then-entry-gt0.branch [
      | then-entry-gt0-via-then-entry-gt0 w ↦ then_gone s e (behind at) (at_front at) (has_credits look (grind (arith, ints, w.if-entry-gt0.true)))
      | then-entry-gt0-via-else-entry-gt0+then-is_idle w ↦
          then_empty s e (behind at) (at_front at) (omega (arith, ap (λ (x : FqSettings). x.quantum) c.settings.view_is, c.settings.invariant.quantum_low)) (is_spent look (grind (arith, ints, w.if-entry-gt0.false)))
          (idle_is look _ true w.is_idle.ensures w.if-is_idle.true)
    ])

needed : (c : After-needed) → c.needed.result ≡ need c.self.inside.settings.quantum c.unwrap-entry.result
needed c = c.needed.ensures ∙ ap (λ (x : FqSettings). need x.quantum c.unwrap-entry.result) c.settings.view_is

positive : (c : After-needed) → 1 ≤ c.self.inside.settings.quantum
positive c = omega (arith, ap (λ (x : FqSettings). x.quantum) c.settings.view_is, c.settings.invariant.quantum_low)

pub overflow_sub-result : goal.overflow_sub-result
overflow_sub-result c =
    let a = (goal.at.overflow_sub-result c).After-needed in
    let at = (goal.at.overflow_sub-result c).After-unwrap-entry in
    let low : c.unwrap-entry.result.credits ≤ℤ pos 0 = is_spent (looks at _ c.entry.view_is) (grind (arith, ints, c.if-entry-gt0.false)) in
    omega (arith, needed a, needs_one c.self.inside.settings.quantum (positive a) c.unwrap-entry.result low)

pub returns : goal.returns
returns c =
    let a = (goal.at.returns c).After-needed in
    let at = (goal.at.returns c).After-unwrap-entry in
    let look = looks at _ c.entry.view_is in
    let low : c.unwrap-entry.result.credits ≤ℤ pos 0 = is_spent look (grind (arith, ints, c.if-entry-gt0.false)) in
    let busy = idle_is look _ false c.is_idle.ensures c.if-is_idle.false in
    let fits : Fits w64 c.needed.result = search rules in
    ap (λ (n : ℕ). n - 1) (needed a)
    ∙ sym (then_needs (opened at) c.unwrap-entry.result (behind at) (at_front at) (positive a) low busy (omega (arith, fits, needed a)))
    ∙ ap front_needs_then (opened_is at)
