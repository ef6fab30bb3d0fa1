use Rattle.std.proofs.Common.{◌≡◌, ℕ, ◌-◌, ◌/◌, ◌%◌, ◌<◌, max, List, length, set, sym, ap, ap₂, ◌∙◌, arith, subst}
use Rattle.std.proofs.lemmas.List.{get_or_default}
use Rattle.q_fqcodel.specs.Winners.{rank, rank_at, bytes_in, bytes_at, Leads}
use Rattle.q_fqcodel.proofs.WinnerLemmas.{length-bytes_in, top_leads}
use Rattle.q_fqcodel.proofs.winners.Winners.top_with.Goals as goal
use Rattle.q_fqcodel.proofs.winners.Winners.top_with.Goals.{After-flow_of}

pub index-top-requires : goal.index-top-requires
index-top-requires c =
    omega (arith, c.requires.in_range, ap length c.self.view_is, length-bytes_in c.self.inside.ranks.items, c.self.invariant.0.even, c.self.inside.ranks.ok.0)

pub rank_of-requires-clause-flow : goal.rank_of-requires-clause-flow
rank_of-requires-clause-flow c =
    omega (arith, c.requires.in_range, ap length c.self.view_is, length-bytes_in c.self.inside.ranks.items, c.self.invariant.0.even, c.self.invariant.1)

-- the flow of the greater of the two ranks
found : (c : After-flow_of) → c.flow_of.result ≡ 65535 - max (rank c.args.flow c.args.bytes) (rank_at c.self.inside.ranks.items 1) % 65536
found c =
    let xs : List ℕ = c.self.inside.ranks.items in
    let some : 1 < length xs = omega (arith, c.requires.in_range, ap length c.self.view_is, length-bytes_in xs, c.self.invariant.0.even) in
    let top : c.index-top.result.now ≡ rank_at xs 1 = c.index-top.ensures ∙ get_or_default xs 1 c.index-top.result.now 0 some in
    c.flow_of.ensures ∙ ap (λ (m : ℕ). 65535 - m % 65536) (c.max.ensures ∙ ap₂ (λ (x y : ℕ). max x y) c.rank_of.ensures top)

leads : (c : After-flow_of) → (c.flow_of.result < length c.args.self.now) × ((i : ℕ) → i < length c.args.self.now → Leads (bytes_at (set c.args.self.now c.args.flow c.args.bytes)) c.flow_of.result i)
leads c =
    let xs : List ℕ = c.self.inside.ranks.items in
    let same : bytes_in xs ≡ c.args.self.now = c.self.view_is in
    let lot : length c.args.self.now ≡ length xs / 2 = omega (arith, ap length same, length-bytes_in xs, c.self.invariant.0.even) in
    let t =
    top_leads xs c.self.invariant.0 c.self.invariant.1 c.args.flow c.args.bytes (omega (arith, ap length same, c.requires.in_range))
    (omega (arith, ap (λ (l : List ℕ). bytes_at l c.args.flow) same, c.requires.more)) in (
      omega (arith, found c, t.0, lot),
      λ i h.
          subst (λ (l : List ℕ). Leads (bytes_at (set l c.args.flow c.args.bytes)) c.flow_of.result i) same
          (subst (λ (w : ℕ). Leads (bytes_at (set (bytes_in xs) c.args.flow c.args.bytes)) w i) (sym (found c)) (t.1 i (omega (arith, h, lot)))),
    )

pub returns-clause-within : goal.returns-clause-within
returns-clause-within c = (leads (goal.at.returns-clause-within c).After-flow_of).0

pub returns-clause-leads : goal.returns-clause-leads
returns-clause-leads c = (leads (goal.at.returns-clause-leads c).After-flow_of).1
