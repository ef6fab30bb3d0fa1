use Rattle.std.proofs.Common.{◌≡◌, ℕ, ◌≤◌, pos, ◌≤ℤ◌, ◌<ℤ◌, Bool, true, false, List, [], ◌∷◌, ◌++◌, length, drop, Option, IsSome, IfSome, sym, ap, ap₂, ◌∙◌, arith, subst, subst₂}
use Rattle.std.specs.Prelude.{slice_get, nat_lt}
use Rattle.std.proofs.lemmas.Bool.{le-ltb}
use Rattle.std.proofs.lemmas.Int.{ints}
use Rattle.q_fqcodel.specs.Cleared.{adjust}
use Rattle.q_fqcodel.specs.contracts.entry.Entry.{the_view}
use Rattle.q_fqcodel.specs.Entry.{Entry}
use Rattle.q_fqcodel.specs.FlowsState.{state_of}
use Rattle.q_fqcodel.specs.FqState.{FqSettings, Flow, FqState, FqView, rested_flow}
use Rattle.q_fqcodel.specs.Links.{ListsState}
use Rattle.q_fqcodel.specs.Quanta.{given, need}
use Rattle.q_fqcodel.specs.Rounds.{visited}
use Rattle.q_fqcodel.specs.Take.{front}
use Rattle.q_fqcodel.proofs.QuantaLemmas.{flow-given, need_none}
use Rattle.q_fqcodel.proofs.RoundLemmas.{needs_one}
use Rattle.q_fqcodel.proofs.TurnLemmas.{Looks, LeadsOn, front_at, front_some, in_flows, is_spent, has_credits, idle_is, rested_is, goes_from, settled_at, first_in_front, old_granted, old_leaves, old_ready}
use Rattle.q_fqcodel.proofs.VisitLemmas.{visited_stays, visited_leaves, front_needs_two, needs_two}
use Rattle.q_fqcodel.proofs.fq_codel.FqCodel.visit_old.Goals as goal
use Rattle.q_fqcodel.proofs.fq_codel.FqCodel.visit_old.Goals.{After-unwrap-entry, After-rotate, After-remove_old}

-- the state as it was opened, and the flows behind the front
abbrev opened : After-unwrap-entry → FqState
opened c = state_of c.self.inside.settings c.self.inside.flows c.self.inside.lists.new_flows c.self.inside.lists.old_flows

abbrev behind : After-unwrap-entry → List Entry
behind c = drop 1 c.self.inside.lists.old_flows

opened_is : (c : After-unwrap-entry) → opened c ≡ c.args.self.now.state
opened_is c = ap (λ (v : FqView). v.state) c.self.view_is

at_front : (c : After-unwrap-entry) → c.self.inside.lists.old_flows ≡ c.unwrap-entry.result ∷ behind c
at_front c = front_at c.self.inside.lists.old_flows c.unwrap-entry.result (sym c.first_old.ensures ∙ c.unwrap-entry.ensures)

none_new : (c : After-unwrap-entry) → c.self.inside.lists.new_flows ≡ []
none_new c = ap (λ (s : FqState). s.new_flows) (opened_is c) ∙ c.requires.no_new

looks : (c : After-unwrap-entry) (x : Entry) → x ≡ c.unwrap-entry.result → Looks c.args.self.now.state (opened c) c.unwrap-entry.result x (behind c)
looks c x read = record { opened = opened_is c; lawful = c.self.invariant.0; read = read; first = ap₂ (λ (l m : List Entry). l ++ m) (none_new c) (at_front c) }

pub rest-requires : goal.rest-requires
rest-requires c = in_flows (looks (goal.at.rest-requires c).After-unwrap-entry _ c.entry.view_is)

pub is_idle-requires : goal.is_idle-requires
is_idle-requires c = in_flows (looks (goal.at.is_idle-requires c).After-unwrap-entry _ c.entry.view_is)

pub unwrap-entry-requires : goal.unwrap-entry-requires
unwrap-entry-requires c =
    subst (λ (o : Option Entry). IsSome o) (sym c.first_old.ensures)
    (front_some c.self.inside.lists.old_flows (omega (arith, c.requires.waiting, ap (λ (v : FqView). length v.state.old_flows) c.self.view_is)))

-- it has no credits, and gets one quantum
granted : (c : After-unwrap-entry) (q : ℕ) (m : Entry) → q ≡ c.self.inside.settings.quantum → m ≡ given q 1 c.unwrap-entry.result
    → m ≡ given c.self.inside.settings.quantum 1 c.unwrap-entry.result
granted c q m quantum is = is ∙ ap (λ (n : ℕ). given n 1 c.unwrap-entry.result) quantum

pub rotate-requires-clause-own : goal.rotate-requires-clause-own
rotate-requires-clause-own c =
    subst (λ (o : Option Entry). IfSome o (λ e. e.flow ≡ c.granted-granted.result.flow)) (sym c.unwrap-entry.ensures ∙ c.first_old.ensures)
    (sym (ap (λ (e : Entry). e.flow) c.granted-granted.ensures ∙ flow-given c.settings.inside.quantum 1 c.unwrap-entry.result))

pub rotate-requires-clause-some : goal.rotate-requires-clause-some
rotate-requires-clause-some c = omega (arith, c.requires.waiting, ap (λ (v : FqView). length v.state.old_flows) c.self.view_is)

pub rotate-requires-clause-few : goal.rotate-requires-clause-few
rotate-requires-clause-few c =
    omega (
      arith,
      c.self.invariant.0.within,
      c.settings.invariant.flows_high,
      ap (λ (x : FqSettings). x.flows) c.settings.view_is,
    )

spent : (c : After-rotate)
    → LeadsOn (opened (goal.at.invariant_of-self c).After-unwrap-entry)
    (state_of c.self.inside.settings c.self.inside.flows c.rotate.new.self.new_flows c.rotate.new.self.old_flows)
spent c =
    let at = (goal.at.invariant_of-self c).After-unwrap-entry in
    let s = opened at in
    let e = c.unwrap-entry.result in
    let quantum : c.settings.inside.quantum ≡ s.settings.quantum = ap (λ (x : FqSettings). x.quantum) c.settings.view_is in
    let positive : 1 ≤ s.settings.quantum = omega (arith, quantum, c.settings.invariant.quantum_low) in
    let low : e.credits ≤ℤ pos 0 = is_spent (looks at _ c.entry.view_is) (grind (arith, ints, c.if-entry-le0.true)) in
    subst₂ (λ (l k : List Entry). LeadsOn s (record s { new_flows = l; old_flows = k })) (sym (ap (λ (v : ListsState). v.new_flows) c.rotate.ensures))
    (sym (ap (λ (v : ListsState). v.old_flows) c.rotate.ensures ∙ ap (λ (m : Entry). behind at ++ m ∷ []) (granted at _ _ quantum c.granted-granted.ensures)))
    (old_granted s c.self.invariant.0 e (behind at) (none_new at) (at_front at) positive low)

pub invariant_of-self : goal.invariant_of-self
invariant_of-self c = ((spent c).lawful, ap (λ (v : ListsState). v.room) c.rotate.ensures ∙ c.self.invariant.1)

pub returns-then-entry-le0-clause-on : goal.returns-then-entry-le0-clause-on
returns-then-entry-le0-clause-on c = λ _. goes_from (looks (goal.at.invariant_of-self c).After-unwrap-entry _ c.entry.view_is) _ (spent c)

pub returns-then-entry-le0-clause-no_new : goal.returns-then-entry-le0-clause-no_new
returns-then-entry-le0-clause-no_new c = ap (λ (v : ListsState). v.new_flows) c.rotate.ensures ∙ none_new (goal.at.invariant_of-self c).After-unwrap-entry

-- what it got is one visit, and more is needed where its credits are still not above 0
pub returns-then-entry-le0-clause-visited : goal.returns-then-entry-le0-clause-visited
returns-then-entry-le0-clause-visited c = λ _.
    let at = (goal.at.invariant_of-self c).After-unwrap-entry in
    let s = opened at in
    let e = c.unwrap-entry.result in
    let quantum : c.settings.inside.quantum ≡ s.settings.quantum = ap (λ (x : FqSettings). x.quantum) c.settings.view_is in
    let positive : 1 ≤ s.settings.quantum = omega (arith, quantum, c.settings.invariant.quantum_low) in
    let low : e.credits ≤ℤ pos 0 = is_spent (looks at _ c.entry.view_is) (grind (arith, ints, c.if-entry-le0.true)) in
    ap₂ (λ (l k : List Entry). record s { new_flows = l; old_flows = k }) (ap (λ (v : ListsState). v.new_flows) c.rotate.ensures)
    (ap (λ (v : ListsState). v.old_flows) c.rotate.ensures ∙ ap (λ (m : Entry). behind at ++ m ∷ []) (granted at _ _ quantum c.granted-granted.ensures))
    ∙ visited_stays 1 s e (behind at) (at_front at) (needs_one s.settings.quantum positive e low)
    ∙ ap (visited 1 1) (opened_is at)

short_is : (c : After-unwrap-entry) (b : Bool) → 1 ≤ c.self.inside.settings.quantum → c.unwrap-entry.result.credits ≤ℤ pos 0
    → (b ≡ true → (given c.self.inside.settings.quantum 1 c.unwrap-entry.result).credits ≤ℤ pos 0)
    → (b ≡ false → pos 0 <ℤ (given c.self.inside.settings.quantum 1 c.unwrap-entry.result).credits)
    → IfSome (slice_get c.args.self.now.state.old_flows 0) (λ e. b ≡ nat_lt 1 (need c.args.self.now.state.settings.quantum e))
short_is c b positive low less more =
    subst (λ (a : FqState). IfSome (slice_get a.old_flows 0) (λ (e : Entry). b ≡ nat_lt 1 (need a.settings.quantum e))) (opened_is c)
    (front_needs_two (opened c) c.unwrap-entry.result (behind c) b (at_front c)
    (needs_two c.self.inside.settings.quantum c.unwrap-entry.result positive low b less more))

pub returns-then-entry-le0-clause-short : goal.returns-then-entry-le0-clause-short
returns-then-entry-le0-clause-short c =
    let at = (goal.at.returns-then-entry-le0-clause-short c).After-unwrap-entry in
    let s = opened at in
    let e = c.unwrap-entry.result in
    let quantum : c.settings.inside.quantum ≡ s.settings.quantum = ap (λ (x : FqSettings). x.quantum) c.settings.view_is in
    let positive : 1 ≤ s.settings.quantum = omega (arith, quantum, c.settings.invariant.quantum_low) in
    let low : e.credits ≤ℤ pos 0 = is_spent (looks at _ c.entry.view_is) (grind (arith, ints, c.if-entry-le0.true)) in
    let got : the_view c.granted.inside ≡ given s.settings.quantum 1 e = c.granted.view_is ∙ granted at _ _ quantum c.granted-granted.ensures in
    short_is at _ positive low (λ less. subst (λ (x : Entry). x.credits ≤ℤ pos 0) got (grind (arith, ints, less)))
    (λ more. subst (λ (x : Entry). pos 0 <ℤ x.credits) got (grind (arith, ints, more)))

-- it has credits and no packet
pub remove_old-requires : goal.remove_old-requires
remove_old-requires c = omega (arith, c.requires.waiting, ap (λ (v : FqView). length v.state.old_flows) c.self.view_is)

emptied : (c : After-remove_old)
    → LeadsOn (opened (goal.at.invariant_of-self-then-is_idle c).After-unwrap-entry)
    (state_of c.self.inside.settings c.rest.new.self c.remove_old.new.self.new_flows c.remove_old.new.self.old_flows)
emptied c =
    let positive : pos 0 <ℤ c.entry.inside.credits = grind (arith, ints, c.if-entry-le0.false) in
    let at = (goal.at.invariant_of-self-then-is_idle c).After-unwrap-entry in
    let s = opened at in
    let e = c.unwrap-entry.result in
    let look = looks at _ c.entry.view_is in
    let high : pos 0 <ℤ e.credits = has_credits look positive in
    let empty = idle_is look _ true c.is_idle.ensures c.if-is_idle.true in
    subst (λ (f : List Flow). LeadsOn s (record s
    { flows = f; new_flows = c.remove_old.new.self.new_flows; old_flows = c.remove_old.new.self.old_flows }))
    (sym (rested_is look _ c.rest.ensures.flows))
    (subst₂ (λ (k l : List Entry). LeadsOn s (record s { flows = adjust rested_flow e.flow s.flows; new_flows = k; old_flows = l }))
    (sym (ap (λ (v : ListsState). v.new_flows) c.remove_old.ensures)) (sym (ap (λ (v : ListsState). v.old_flows) c.remove_old.ensures))
    (old_leaves s c.self.invariant.0 e (behind at) (none_new at) (at_front at) high empty))

pub invariant_of-self-then-is_idle : goal.invariant_of-self-then-is_idle
invariant_of-self-then-is_idle c = ((emptied c).lawful, ap (λ (v : ListsState). v.room) c.remove_old.ensures ∙ c.self.invariant.1)

pub returns-then-is_idle-clause-on : goal.returns-then-is_idle-clause-on
returns-then-is_idle-clause-on c = λ _. goes_from (looks (goal.at.invariant_of-self-then-is_idle c).After-unwrap-entry _ c.entry.view_is) _ (emptied c)

pub returns-then-is_idle-clause-no_new : goal.returns-then-is_idle-clause-no_new
returns-then-is_idle-clause-no_new c = ap (λ (v : ListsState). v.new_flows) c.remove_old.ensures ∙ none_new (goal.at.invariant_of-self-then-is_idle c).After-unwrap-entry

pub returns-then-is_idle-clause-visited : goal.returns-then-is_idle-clause-visited
returns-then-is_idle-clause-visited c = λ _.
    let at = (goal.at.invariant_of-self-then-is_idle c).After-unwrap-entry in
    let s = opened at in
    let e = c.unwrap-entry.result in
    let look = looks at _ c.entry.view_is in
    let high : pos 0 <ℤ e.credits = has_credits look (grind (arith, ints, c.if-entry-le0.false)) in
    ap (λ (f : List Flow). record s { flows = f; new_flows = c.remove_old.new.self.new_flows; old_flows = c.remove_old.new.self.old_flows })
    (rested_is look _ c.rest.ensures.flows)
    ∙ ap₂ (λ (l k : List Entry). record s { flows = adjust rested_flow e.flow s.flows; new_flows = l; old_flows = k })
    (ap (λ (v : ListsState). v.new_flows) c.remove_old.ensures) (ap (λ (v : ListsState). v.old_flows) c.remove_old.ensures)
    ∙ visited_leaves 1 s e (behind at) (at_front at) (omega (arith, need_none s.settings.quantum e high))
    ∙ ap (visited 1 1) (opened_is at)

pub returns-then-is_idle-clause-short : goal.returns-then-is_idle-clause-short
returns-then-is_idle-clause-short c =
    let at = (goal.at.invariant_of-self-then-is_idle c).After-unwrap-entry in
    let look = looks at _ c.entry.view_is in
    let high : pos 0 <ℤ c.unwrap-entry.result.credits = has_credits look (grind (arith, ints, c.if-entry-le0.false)) in
    let s = opened at in
    let e = c.unwrap-entry.result in
    subst (λ (a : FqState). IfSome (slice_get a.old_flows 0) (λ (e : Entry). false ≡ nat_lt 1 (need a.settings.quantum e))) (opened_is at)
    (front_needs_two s e (behind at) false (at_front at) (sym (le-ltb 1 (need s.settings.quantum e) (omega (arith, need_none s.settings.quantum e high)))))

-- it has credits and a packet
pub returns-clause-short : goal.returns-clause-short
returns-clause-short c =
    let at = (goal.at.returns-clause-short c).After-unwrap-entry in
    let look = looks at _ c.entry.view_is in
    let high : pos 0 <ℤ c.unwrap-entry.result.credits = has_credits look (grind (arith, ints, c.if-entry-le0.false)) in
    let s = opened at in
    let e = c.unwrap-entry.result in
    subst (λ (a : FqState). IfSome (slice_get a.old_flows 0) (λ (e : Entry). false ≡ nat_lt 1 (need a.settings.quantum e))) (opened_is at)
    (front_needs_two s e (behind at) false (at_front at) (sym (le-ltb 1 (need s.settings.quantum e) (omega (arith, need_none s.settings.quantum e high)))))

pub returns-clause-settled : goal.returns-clause-settled
returns-clause-settled c = λ _.
    let positive : pos 0 <ℤ c.entry.inside.credits = grind (arith, ints, c.if-entry-le0.false) in
    let at = (goal.at.returns-clause-settled c).After-unwrap-entry in
    let s = opened at in
    let e = c.unwrap-entry.result in
    let look = looks at _ c.entry.view_is in
    let high : pos 0 <ℤ e.credits = has_credits look positive in
    let busy = idle_is look _ false c.is_idle.ensures c.if-is_idle.false in
    settled_at look (old_ready s c.self.invariant.0 e (behind at) (none_new at) (at_front at) high busy) high busy

pub returns-clause-first : goal.returns-clause-first
returns-clause-first c = λ _.
    let at = (goal.at.returns-clause-first c).After-unwrap-entry in
    first_in_front (opened at) c.unwrap-entry.result _ (looks at _ c.entry.view_is).first
    ∙ ap front (opened_is at)
