use Rattle.std.proofs.Common.{◌≡◌, ℕ, ◌<◌, true, List, [], ◌∷◌, ◌++◌, drop, take, Option, IfSome, sym, ap, ap₂, ◌∙◌, subst, arith}
use Rattle.q_fqcodel.specs.Cleared.{adjust}
use Rattle.q_fqcodel.specs.Entry.{Entry}
use Rattle.q_fqcodel.specs.FlowsState.{state_of}
use Rattle.q_fqcodel.specs.FqState.{Flow, FqState, FqView, is_idle, rested_flow}
use Rattle.q_fqcodel.specs.Lawful.{IsLawful}
use Rattle.q_fqcodel.specs.Links.{ListsState}
use Rattle.q_fqcodel.specs.Quanta.{given, need}
use Rattle.q_fqcodel.specs.Rounds.{AllNeed, visited}
use Rattle.q_fqcodel.proofs.LawfulLemmas.{lawful_left, lawful_rested, lawful_turned}
use Rattle.q_fqcodel.proofs.QuantaLemmas.{flow-given}
use Rattle.q_fqcodel.proofs.TurnLemmas.{Looks, front_at, in_flows, rested_is}
use Rattle.q_fqcodel.proofs.VisitLemmas.{visited_stays, visited_leaves, few_empty}
use Rattle.q_fqcodel.proofs.fq_codel.FqCodel.give_front.Goals as goal
use Rattle.q_fqcodel.proofs.fq_codel.FqCodel.give_front.Goals.{After-unwrap-entry, After-rotate, After-remove_old}

-- the state as it was opened, and the flows behind the front
abbrev opened : After-unwrap-entry → FqState
opened c = state_of c.self.inside.settings c.self.inside.flows c.self.inside.lists.new_flows c.self.inside.lists.old_flows

abbrev behind : After-unwrap-entry → List Entry
behind c = drop 1 c.self.inside.lists.old_flows

opened_is : (c : After-unwrap-entry) → opened c ≡ c.args.self.now.state
opened_is c = ap (λ (v : FqView). v.state) c.self.view_is

at_front : (c : After-unwrap-entry) → c.self.inside.lists.old_flows ≡ c.unwrap-entry.result ∷ behind c
at_front c = front_at c.self.inside.lists.old_flows c.unwrap-entry.result (sym c.first_old.ensures ∙ c.unwrap-entry.ensures)

none_new : (c : After-unwrap-entry) → c.self.inside.lists.new_flows ≡ []
none_new c = ap (λ (s : FqState). s.new_flows) (opened_is c) ∙ c.requires.no_new

looks : (c : After-unwrap-entry) (x : Entry) → x ≡ c.unwrap-entry.result → Looks c.args.self.now.state (opened c) c.unwrap-entry.result x (behind c)
looks c x read = record { opened = opened_is c; lawful = c.self.invariant.0; read = read; first = ap₂ (λ (l m : List Entry). l ++ m) (none_new c) (at_front c) }

own : (c : After-unwrap-entry) → c.args.quantum ≡ c.self.inside.settings.quantum
own c = c.requires.own ∙ sym (ap (λ (s : FqState). s.settings.quantum) (opened_is c))

pub rest-requires : goal.rest-requires
rest-requires c = in_flows (looks (goal.at.rest-requires c).After-unwrap-entry _ c.entry.view_is)

pub rotate-requires-clause-own : goal.rotate-requires-clause-own
rotate-requires-clause-own c =
    subst (λ (o : Option Entry). IfSome o (λ e. e.flow ≡ c.given.result.flow)) (sym c.unwrap-entry.ensures ∙ c.first_old.ensures)
    (sym (ap (λ (e : Entry). e.flow) c.given.ensures ∙ flow-given c.args.quantum c.args.quanta c.unwrap-entry.result))

-- it needs fewer: it is empty, and leaves
flows_after : (c : After-remove_old) → c.rest.new.self.flows ≡ adjust rested_flow c.unwrap-entry.result.flow c.self.inside.flows.flows
flows_after c = rested_is (looks (goal.at.invariant_of-self c).After-unwrap-entry _ c.entry.view_is) _ c.rest.ensures.flows

left : (c : After-remove_old) → state_of c.self.inside.settings c.rest.new.self c.remove_old.new.self.new_flows c.remove_old.new.self.old_flows
    ≡ (let s = opened (goal.at.invariant_of-self c).After-unwrap-entry in record s { flows = adjust rested_flow c.unwrap-entry.result.flow s.flows; old_flows = behind (goal.at.invariant_of-self c).After-unwrap-entry })
left c =
    let s = opened (goal.at.invariant_of-self c).After-unwrap-entry in
    ap (λ (f : List Flow). record s { flows = f; new_flows = c.remove_old.new.self.new_flows; old_flows = c.remove_old.new.self.old_flows }) (flows_after c)
    ∙ ap₂ (λ (l k : List Entry). record s { flows = adjust rested_flow c.unwrap-entry.result.flow s.flows; new_flows = l; old_flows = k })
    (ap (λ (v : ListsState). v.new_flows) c.remove_old.ensures) (ap (λ (v : ListsState). v.old_flows) c.remove_old.ensures)

few : (c : After-remove_old) → need c.self.inside.settings.quantum c.unwrap-entry.result < c.args.quanta
few c =
    let at = (goal.at.invariant_of-self c).After-unwrap-entry in
    omega (arith, c.if-needed-quanta.true, c.needed.ensures, ap (λ (q : ℕ). need q c.unwrap-entry.result) (own at))

pub invariant_of-self : goal.invariant_of-self
invariant_of-self c =
    let at = (goal.at.invariant_of-self c).After-unwrap-entry in
    let s = opened at in
    let e = c.unwrap-entry.result in
    let empty : is_idle s.flows e.flow ≡ true = few_empty c.args.quanta s e (behind at) (at_front at) (few c)
    (subst (λ (a : FqState). AllNeed a.settings.quantum (is_idle a.flows) c.args.quanta (take 1 a.old_flows)) (sym (opened_is at)) c.requires.needed) in (
      subst IsLawful (sym (left c)) (lawful_rested (record s { old_flows = behind at }) e.flow (lawful_left s e (behind at) c.self.invariant.0 (at_front at) empty)),
      ap (λ (v : ListsState). v.room) c.remove_old.ensures ∙ c.self.invariant.1,
    )

pub returns-then-needed-quanta-clause-state : goal.returns-then-needed-quanta-clause-state
returns-then-needed-quanta-clause-state c =
    let at = (goal.at.invariant_of-self c).After-unwrap-entry in
    left c ∙ visited_leaves c.args.quanta (opened at) c.unwrap-entry.result (behind at) (at_front at) (few c) ∙ ap (visited c.args.quanta 1) (opened_is at)

-- it needs no fewer
stayed : (c : After-rotate) → state_of c.self.inside.settings c.self.inside.flows c.rotate.new.self.new_flows c.rotate.new.self.old_flows
    ≡ (let s = opened (goal.at.invariant_of-self-2 c).After-unwrap-entry in
    record s { old_flows = behind (goal.at.invariant_of-self-2 c).After-unwrap-entry ++ given s.settings.quantum c.args.quanta c.unwrap-entry.result ∷ [] })
stayed c =
    let at = (goal.at.invariant_of-self-2 c).After-unwrap-entry in
    let s = opened at in
    ap₂ (λ (l k : List Entry). record s { new_flows = l; old_flows = k }) (ap (λ (v : ListsState). v.new_flows) c.rotate.ensures)
    (ap (λ (v : ListsState). v.old_flows) c.rotate.ensures
    ∙ ap (λ (m : Entry). behind at ++ m ∷ []) (c.given.ensures ∙ ap (λ (q : ℕ). given q c.args.quanta c.unwrap-entry.result) (own at)))

pub invariant_of-self-2 : goal.invariant_of-self-2
invariant_of-self-2 c =
    let at = (goal.at.invariant_of-self-2 c).After-unwrap-entry in
    let s = opened at in
    let e = c.unwrap-entry.result in
    let m = given s.settings.quantum c.args.quanta e in (
      subst IsLawful (sym (stayed c)) (lawful_turned s e m (behind at) c.self.invariant.0 (at_front at) (flow-given s.settings.quantum c.args.quanta e)),
      ap (λ (v : ListsState). v.room) c.rotate.ensures ∙ c.self.invariant.1,
    )

pub returns-clause-state : goal.returns-clause-state
returns-clause-state c =
    let at = (goal.at.invariant_of-self-2 c).After-unwrap-entry in
    stayed c
    ∙ visited_stays c.args.quanta (opened at) c.unwrap-entry.result (behind at) (at_front at)
    (omega (arith, c.if-needed-quanta.false, c.needed.ensures, ap (λ (q : ℕ). need q c.unwrap-entry.result) (own at)))
    ∙ ap (visited c.args.quanta 1) (opened_is at)
