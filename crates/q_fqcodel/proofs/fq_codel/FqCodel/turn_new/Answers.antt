use Rattle.std.proofs.Common.{◌≡◌, ℕ, ◌≤◌, pos, ◌≤ℤ◌, ◌<ℤ◌, true, false, List, [], ◌∷◌, ◌++◌, length, drop, Option, IsSome, IfSome, refl, sym, ap, ◌∙◌, arith, subst, subst₂}
use Rattle.std.proofs.lemmas.Int.{ints}
use Rattle.q_fqcodel.specs.Cleared.{adjust}
use Rattle.q_fqcodel.specs.Entry.{Entry}
use Rattle.q_fqcodel.specs.FlowsState.{state_of}
use Rattle.q_fqcodel.specs.FqState.{FqSettings, Flow, FqState, FqView, rested_flow}
use Rattle.q_fqcodel.specs.Links.{ListsState}
use Rattle.q_fqcodel.specs.Quanta.{given}
use Rattle.q_fqcodel.specs.Take.{front}
use Rattle.q_fqcodel.proofs.QuantaLemmas.{flow-given}
use Rattle.q_fqcodel.proofs.TurnLemmas.{Looks, LeadsOn, front_at, front_some, in_flows, is_spent, has_credits, idle_is, rested_is, goes_from, settled_at, first_in_front, new_granted, new_moves, new_ready}
use Rattle.q_fqcodel.proofs.fq_codel.FqCodel.turn_new.Goals as goal
use Rattle.q_fqcodel.proofs.fq_codel.FqCodel.turn_new.Goals.{After-unwrap-entry, After-granted, After-move_to_old, After-move_to_old-then-is_idle}

-- the state as it was opened, and the flows behind the front
abbrev opened : After-unwrap-entry → FqState
opened c = state_of c.self.inside.settings c.self.inside.flows c.self.inside.lists.new_flows c.self.inside.lists.old_flows

abbrev behind : After-unwrap-entry → List Entry
behind c = drop 1 c.self.inside.lists.new_flows

opened_is : (c : After-unwrap-entry) → opened c ≡ c.args.self.now.state
opened_is c = ap (λ (v : FqView). v.state) c.self.view_is

at_front : (c : After-unwrap-entry) → c.self.inside.lists.new_flows ≡ c.unwrap-entry.result ∷ behind c
at_front c = front_at c.self.inside.lists.new_flows c.unwrap-entry.result (sym c.first_new.ensures ∙ c.unwrap-entry.ensures)

looks : (c : After-unwrap-entry) (x : Entry) → x ≡ c.unwrap-entry.result → Looks c.args.self.now.state (opened c) c.unwrap-entry.result x (behind c ++ c.self.inside.lists.old_flows)
looks c x read = record { opened = opened_is c; lawful = c.self.invariant.0; read = read; first = ap (λ (l : List Entry). l ++ c.self.inside.lists.old_flows) (at_front c) }

pub rest-requires : goal.rest-requires
rest-requires c = in_flows (looks (goal.at.rest-requires c).After-unwrap-entry _ c.entry.view_is)

pub is_idle-requires : goal.is_idle-requires
is_idle-requires c = in_flows (looks (goal.at.is_idle-requires c).After-unwrap-entry _ c.entry.view_is)

pub unwrap-entry-requires : goal.unwrap-entry-requires
unwrap-entry-requires c =
    subst (λ (o : Option Entry). IsSome o) (sym c.first_new.ensures)
    (front_some c.self.inside.lists.new_flows (omega (arith, c.requires, ap (λ (v : FqView). length v.state.new_flows) c.self.view_is)))

-- it has no credits, and gets one quantum
granted : (c : After-granted) → c.granted.result ≡ given c.self.inside.settings.quantum 1 c.unwrap-entry.result
granted c =
    let quantum : c.settings.inside.quantum ≡ c.self.inside.settings.quantum = ap (λ (x : FqSettings). x.quantum) c.settings.view_is in
    c.granted.ensures ∙ ap (λ (q : ℕ). given q 1 c.unwrap-entry.result) quantum

pub move_to_old-requires-clause-own : goal.move_to_old-requires-clause-own
move_to_old-requires-clause-own c =
    let d = (goal.at.move_to_old-requires-clause-own c).After-granted in
    subst (λ (o : Option Entry). IfSome o (λ e. e.flow ≡ c.granted.result.flow)) (sym c.unwrap-entry.ensures ∙ c.first_new.ensures)
    (sym (ap (λ (e : Entry). e.flow) (granted d) ∙ flow-given c.self.inside.settings.quantum 1 c.unwrap-entry.result))

pub move_to_old-requires-clause-some : goal.move_to_old-requires-clause-some
move_to_old-requires-clause-some c = omega (arith, c.requires, ap (λ (v : FqView). length v.state.new_flows) c.self.view_is)

pub move_to_old-requires-clause-few : goal.move_to_old-requires-clause-few
move_to_old-requires-clause-few c =
    omega (
      arith,
      c.self.invariant.0.within,
      c.settings.invariant.flows_high,
      ap (λ (x : FqSettings). x.flows) c.settings.view_is,
      c.requires,
      ap (λ (v : FqView). length v.state.new_flows) c.self.view_is,
    )

spent : (c : After-move_to_old)
    → LeadsOn (opened (goal.at.invariant_of-self c).After-unwrap-entry)
    (state_of c.self.inside.settings c.self.inside.flows c.move_to_old.new.self.new_flows c.move_to_old.new.self.old_flows)
spent c =
    let at = (goal.at.invariant_of-self c).After-unwrap-entry in
    let s = opened at in
    let e = c.unwrap-entry.result in
    let quantum : c.settings.inside.quantum ≡ s.settings.quantum = ap (λ (x : FqSettings). x.quantum) c.settings.view_is in
    let positive : 1 ≤ s.settings.quantum = omega (arith, quantum, c.settings.invariant.quantum_low) in
    let low : e.credits ≤ℤ pos 0 = is_spent (looks at _ c.entry.view_is) (grind (arith, ints, c.if-entry-le0.true)) in
    subst₂ (λ (l k : List Entry). LeadsOn s (record s { new_flows = l; old_flows = k })) (sym (ap (λ (v : ListsState). v.new_flows) c.move_to_old.ensures))
    (sym (ap (λ (v : ListsState). v.old_flows) c.move_to_old.ensures ∙ ap (λ (m : Entry). s.old_flows ++ m ∷ []) (granted (goal.at.invariant_of-self c).After-granted)))
    (new_granted s c.self.invariant.0 e (behind at) (at_front at) positive low)

pub invariant_of-self : goal.invariant_of-self
invariant_of-self c = ((spent c).lawful, ap (λ (v : ListsState). v.room) c.move_to_old.ensures ∙ c.self.invariant.1)

pub returns-then-entry-le0-clause-on : goal.returns-then-entry-le0-clause-on
returns-then-entry-le0-clause-on c = λ _. goes_from (looks (goal.at.invariant_of-self c).After-unwrap-entry _ c.entry.view_is) _ (spent c)

-- it has credits and no packet
pub move_to_old-requires-then-is_idle-clause-own : goal.move_to_old-requires-then-is_idle-clause-own
move_to_old-requires-then-is_idle-clause-own c =
    subst (λ (o : Option Entry). IfSome o (λ e. e.flow ≡ c.unwrap-entry.result.flow)) (sym c.unwrap-entry.ensures ∙ c.first_new.ensures) refl

pub move_to_old-requires-then-is_idle-clause-some : goal.move_to_old-requires-then-is_idle-clause-some
move_to_old-requires-then-is_idle-clause-some c = omega (arith, c.requires, ap (λ (v : FqView). length v.state.new_flows) c.self.view_is)

pub move_to_old-requires-then-is_idle-clause-few : goal.move_to_old-requires-then-is_idle-clause-few
move_to_old-requires-then-is_idle-clause-few c =
    omega (
      arith,
      c.self.invariant.0.within,
      c.settings.invariant.flows_high,
      ap (λ (x : FqSettings). x.flows) c.settings.view_is,
      c.requires,
      ap (λ (v : FqView). length v.state.new_flows) c.self.view_is,
    )

emptied : (c : After-move_to_old-then-is_idle)
    → LeadsOn (opened (goal.at.invariant_of-self-then-is_idle c).After-unwrap-entry)
    (state_of c.self.inside.settings c.rest.new.self c.move_to_old-then-is_idle.new.self.new_flows c.move_to_old-then-is_idle.new.self.old_flows)
emptied c =
    let positive : pos 0 <ℤ c.entry.inside.credits = grind (arith, ints, c.if-entry-le0.false) in
    let at = (goal.at.invariant_of-self-then-is_idle c).After-unwrap-entry in
    let s = opened at in
    let e = c.unwrap-entry.result in
    let look = looks at _ c.entry.view_is in
    let high : pos 0 <ℤ e.credits = has_credits look positive in
    let empty = idle_is look _ true c.is_idle.ensures c.if-is_idle.true in
    subst (λ (f : List Flow). LeadsOn s (record s { flows = f; new_flows = c.move_to_old-then-is_idle.new.self.new_flows; old_flows = c.move_to_old-then-is_idle.new.self.old_flows }))
    (sym (rested_is look _ c.rest.ensures.flows))
    (subst₂ (λ (l k : List Entry). LeadsOn s (record s { flows = adjust rested_flow e.flow s.flows; new_flows = l; old_flows = k }))
    (sym (ap (λ (v : ListsState). v.new_flows) c.move_to_old-then-is_idle.ensures)) (sym (ap (λ (v : ListsState). v.old_flows) c.move_to_old-then-is_idle.ensures))
    (new_moves s c.self.invariant.0 e (behind at) (at_front at) high empty))

pub invariant_of-self-then-is_idle : goal.invariant_of-self-then-is_idle
invariant_of-self-then-is_idle c = ((emptied c).lawful, ap (λ (v : ListsState). v.room) c.move_to_old-then-is_idle.ensures ∙ c.self.invariant.1)

pub returns-then-is_idle-clause-on : goal.returns-then-is_idle-clause-on
returns-then-is_idle-clause-on c = λ _. goes_from (looks (goal.at.invariant_of-self-then-is_idle c).After-unwrap-entry _ c.entry.view_is) _ (emptied c)

-- it has credits and a packet
pub returns-clause-settled : goal.returns-clause-settled
returns-clause-settled c = λ _.
    let positive : pos 0 <ℤ c.entry.inside.credits = grind (arith, ints, c.if-entry-le0.false) in
    let at = (goal.at.returns-clause-settled c).After-unwrap-entry in
    let s = opened at in
    let e = c.unwrap-entry.result in
    let look = looks at _ c.entry.view_is in
    let high : pos 0 <ℤ e.credits = has_credits look positive in
    let busy = idle_is look _ false c.is_idle.ensures c.if-is_idle.false in
    settled_at look (new_ready s c.self.invariant.0 e (behind at) (at_front at) high busy) high busy

pub returns-clause-first : goal.returns-clause-first
returns-clause-first c = λ _.
    let at = (goal.at.returns-clause-first c).After-unwrap-entry in
    first_in_front (opened at) c.unwrap-entry.result _ (looks at _ c.entry.view_is).first
    ∙ ap front (opened_is at)
