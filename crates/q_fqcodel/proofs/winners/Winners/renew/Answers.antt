use Rattle.std.proofs.Common.{◌≡◌, ℕ, ◌+◌, ◌/◌, ◌<◌, ◌≤◌, List, ◌++◌, length, take, drop, set, sym, ap, ◌∙◌, arith, subst}
use Rattle.std.proofs.lemmas.List.{length-set, take-append-le, take_all}
use Rattle.q_fqcodel.specs.Winners.{rank, rank_at, bytes_in, bytes_at, IsTournament, AreRanks, AreRight}
use Rattle.q_fqcodel.proofs.WinnerLemmas.{length-bytes_in, bytes_read, tree_written, bytes_renewed}
use Rattle.q_fqcodel.proofs.winners.Winners.renew.Goals as goal
use Rattle.q_fqcodel.proofs.winners.Winners.renew.Goals.{After-self, After-climb}

within : (c : After-self) → c.args.flow < length c.self.inside.ranks.items / 2
within c = omega (arith, c.requires.in_range, ap length c.self.view_is, length-bytes_in c.self.inside.ranks.items, c.self.invariant.0.even)

place : (c : After-self) → c.self.inside.leaves + c.args.flow ≡ length c.self.inside.ranks.items / 2 + c.args.flow
place c = ap (λ (m : ℕ). m + c.args.flow) c.self.invariant.2

pub rank_of-requires-clause-flow : goal.rank_of-requires-clause-flow
rank_of-requires-clause-flow c = omega (arith, within (goal.at.rank_of-requires-clause-flow c).After-self, c.self.invariant.1)

pub climb-requires-clause-ranks : goal.climb-requires-clause-ranks
climb-requires-clause-ranks c =
    let d = (goal.at.climb-requires-clause-ranks c).After-self in
    subst (λ (l : List ℕ). AreRanks l (c.self.inside.leaves + c.args.flow)) (sym c.deref_mut.ensures.value) (record {
      even = c.self.invariant.0.even;
      few = c.self.invariant.1;
      low = omega (arith, place d);
      high = omega (arith, within d, place d, c.self.invariant.0.even);
      past = c.self.invariant.0.past;
      each = c.self.invariant.0.each;
    })

-- the rank of the leaf before
leaf_was : (c : After-self) → rank_at c.self.inside.ranks.items (c.self.inside.leaves + c.args.flow) ≡ rank c.args.flow (bytes_at c.args.self.now c.args.flow)
leaf_was c =
    let xs : List ℕ = c.self.inside.ranks.items in
    omega (arith, ap (rank_at xs) (place c), c.self.invariant.0.leaf c.args.flow (within c), bytes_read xs c.args.flow, ap (λ (l : List ℕ). bytes_at l c.args.flow) c.self.view_is)

pub climb-requires-clause-below : goal.climb-requires-clause-below
climb-requires-clause-below c =
    let d = (goal.at.climb-requires-clause-below c).After-self in
    let leaf : ℕ = c.self.inside.leaves + c.args.flow in
    omega (arith, ap (λ (l : List ℕ). rank_at l leaf) c.deref_mut.ensures.value, ap (rank_at c.self.inside.ranks.items) (place d), c.self.invariant.0.below c.args.flow (within d))

pub climb-requires-clause-rose : goal.climb-requires-clause-rose
climb-requires-clause-rose c h =
    let d = (goal.at.climb-requires-clause-rose c).After-self in
    omega (arith, ap (λ (l : List ℕ). rank_at l (c.self.inside.leaves + c.args.flow)) c.deref_mut.ensures.value, leaf_was d, c.rank_of.ensures, c.requires.rose h)

pub climb-requires-clause-fell : goal.climb-requires-clause-fell
climb-requires-clause-fell c h =
    let d = (goal.at.climb-requires-clause-fell c).After-self in
    omega (arith, ap (λ (l : List ℕ). rank_at l (c.self.inside.leaves + c.args.flow)) c.deref_mut.ensures.value, leaf_was d, c.rank_of.ensures, c.requires.fell h)

-- the ranks with the leaf written, and those after the climb
abbrev told : After-climb → List ℕ
told c = set c.self.inside.ranks.items (c.self.inside.leaves + c.args.flow) c.rank_of.result

renewed : (c : After-climb) → AreRight (told c) c.climb.new.ranks
renewed c = subst (λ (l : List ℕ). AreRight (set l (c.self.inside.leaves + c.args.flow) c.rank_of.result) c.climb.new.ranks) c.deref_mut.ensures.value c.climb.ensures

all_written : (c : After-climb) → take c.self.inside.ranks.len (c.climb.new.ranks ++ drop (length c.climb.new.ranks) c.self.inside.ranks.items) ≡ c.climb.new.ranks
all_written c =
    let xs : List ℕ = c.self.inside.ranks.items in
    let long : length c.climb.new.ranks ≡ c.self.inside.ranks.len = omega (arith, (renewed c).len, length-set xs (c.self.inside.leaves + c.args.flow) c.rank_of.result, c.self.inside.ranks.ok.0) in
    take-append-le c.self.inside.ranks.len c.climb.new.ranks (drop (length c.climb.new.ranks) xs) (omega (arith, long))
    ∙ take_all c.self.inside.ranks.len c.climb.new.ranks (omega (arith, long))

pub invariant_of-self : goal.invariant_of-self
invariant_of-self c =
    let e = (goal.at.invariant_of-self c).After-climb in
    let d = (goal.at.invariant_of-self c).After-self in
    let xs : List ℕ = c.self.inside.ranks.items in
    let leaf : ℕ = c.self.inside.leaves + c.args.flow in
    let v : ℕ = c.rank_of.result in
    subst (λ (l : List ℕ). IsTournament l × (length l ≤ 131072) × (c.self.inside.leaves ≡ length l / 2)) (sym (all_written e)) (
      tree_written xs c.climb.new.ranks c.args.flow c.args.bytes v leaf c.self.invariant.0 (within d) (omega (arith, within d, c.self.invariant.1))
          c.requires.few c.rank_of.ensures (place d) (renewed e),
      omega (arith, (renewed e).len, length-set xs leaf v, c.self.invariant.1),
      c.self.invariant.2 ∙ ap (λ (n : ℕ). n / 2) (sym ((renewed e).len ∙ length-set xs leaf v)),
    )

pub returns : goal.returns
returns c =
    let e = (goal.at.returns c).After-climb in
    let d = (goal.at.returns c).After-self in
    let xs : List ℕ = c.self.inside.ranks.items in
    let leaf : ℕ = c.self.inside.leaves + c.args.flow in
    ap bytes_in (all_written e)
    ∙ bytes_renewed xs c.climb.new.ranks c.args.flow c.args.bytes c.rank_of.result leaf c.self.invariant.0 (within d)
    (omega (arith, within d, c.self.invariant.1)) c.requires.few c.rank_of.ensures (place d) (renewed e)
    ∙ ap (λ (l : List ℕ). set l c.args.flow c.args.bytes) c.self.view_is
