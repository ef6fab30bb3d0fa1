-- What the checks of depth and of number say of an edit, found from the tree as it stands: the edited tree need not be built.
use Rattle.std.proofs.Common.{◌≡◌, ℕ, suc, ◌+◌, ◌-◌, ◌<◌, ◌≤◌, min, max, Bool, ltb, List, [], ◌∷◌, ◌++◌, length, map, drop, sym, ap, ap₂, ◌∙◌, Some, Ok, inl, inr, arith}
use Rattle.std.specs.Prelude.{nat_lt}
use Rattle.std.specs.List.{remove, sum}
use Rattle.std.proofs.lemmas.Bool.{lt-ltb, le-ltb, cases_lt}
use Rattle.q_bucket.specs.Level.{TokenBucket, after_change}
use Rattle.q_drr.specs.Schedule.{Schedule}
use Rattle.q_model.specs.declared.filter.Filter.{Filter}
use Rattle.q_model.specs.declared.refusal.Refusal.TheVariants.{TooDeep, TooMany}
use Rattle.q_model.specs.Node.{Discipline, Prio, Tbf, Drr, Own, Shape, children, blank}
use Rattle.q_model.specs.Make.{Device, implicit_pfifo}
use Rattle.q_model.specs.Find.{depth, count_nodes, node_at}
use Rattle.q_model.specs.Edit.{Child, New, Edit, Graft, Remake, edited_at}
use Rattle.q_model.specs.Refusals.{Check, refuse, done_unless, most_levels, most_nodes, size_checks}
use Rattle.q_model.specs.QdiscCommands.{all_kept, retuned, rebanded, leaf_of_tbf, reshaped}
use Rattle.q_model.specs.ClassCommands.{with_class, without_class}
use Rattle.q_model.specs.FilterCommands.{with_filters}
use Rattle.q_model.specs.TreeState.{nothing, checked}
use Rattle.q_invariants.specs.Sizes.{counts, numbers, sizes}
use Rattle.q_invariants.proofs.edit.EditFront.{front_and_new}
use Rattle.q_invariants.proofs.sizes.EditSizes.{depth-blank, count-blank, IsSized, sized-edit, sized-within}
use Rattle.q_invariants.proofs.sizes.RemadeSizes.{IsNoLarger, with_children, kept-sizes, bands-depth, bands-count, added-depth, added-count, removed-sizes, bucket-sizes}

-- the same side of a bound
same-ltb : (m a b : ℕ) → (m < a → m < b) → (m < b → m < a) → ltb m a ≡ ltb m b
same-ltb m a b to from = elim (cases_lt m a) [
  | inl lt ↦ lt-ltb m a lt ∙ sym (lt-ltb m b (to lt))
  | inr le ↦ elim (cases_lt m b) [
    | inl lt ↦ absurd (omega (arith, from lt))
    | inr le_b ↦ le-ltb m a le ∙ sym (le-ltb m b le_b)
  ]
]

module _ (root : Shape) (levels : depth root ≤ most_levels) where
  -- the node at the end of the way becomes f of it
  module _ (f : Shape → Shape) (path : List ℕ) (old : Shape) (there : node_at path root ≡ Some old) (edit : Edit) where
    abbrev after : Shape
    after = edited_at nothing [] f path root

    size : IsSized path root old (f old) after
    size = sized-edit f path root old there

    deep : nat_lt most_levels (depth after) ≡ nat_lt most_levels (length path + depth (f old))
    deep = same-ltb most_levels (depth after) (length path + depth (f old))
        (λ lt. elim (cases_lt most_levels (length path + depth (f old))) [
          | inl over ↦ over
          | inr le ↦ absurd (omega (arith, size.most most_levels levels le))
        ])
        (λ lt. omega (arith, size.least))

    many : (nodes : ℕ) → nodes + count_nodes old ≡ count_nodes root + count_nodes (f old)
        → nat_lt most_nodes (count_nodes after) ≡ nat_lt most_nodes nodes
    many nodes e = ap (nat_lt most_nodes) {x = count_nodes after} {y = nodes} (omega (arith, size.count))

    pub sized : (nodes : ℕ) → nodes + count_nodes old ≡ count_nodes root + count_nodes (f old)
        → done_unless (size_checks after) edit ≡ done_unless (sizes (length path + depth (f old)) nodes) edit
    sized nodes e = ap₂ (λ (s t : Bool). done_unless (refuse TooDeep s ∷ refuse TooMany t ∷ []) edit) deep (many nodes e)

    -- a node that is no deeper than the one before
    pub numbered : (nodes : ℕ) → depth (f old) ≤ depth old
        → nodes + count_nodes old ≡ count_nodes root + count_nodes (f old)
        → done_unless (size_checks after) edit ≡ done_unless (numbers nodes) edit
    numbered nodes le e =
        let within = sized-within path root old there in
        ap₂ (λ (s t : Bool). done_unless (refuse TooDeep s ∷ refuse TooMany t ∷ []) edit)
        (le-ltb most_levels (depth after) (size.most most_levels levels (omega (arith, within.0)))) (many nodes e)

    pub never : count_nodes root ≤ most_nodes → depth (f old) ≤ depth old → count_nodes (f old) ≤ count_nodes old
        → done_unless (size_checks after) edit ≡ Ok edit
    never few le fewer =
        let within = sized-within path root old there in
        ap₂ (λ (s t : Bool). done_unless (refuse TooDeep s ∷ refuse TooMany t ∷ []) edit)
        (le-ltb most_levels (depth after) (size.most most_levels levels (omega (arith, within.0))))
        (le-ltb most_nodes (count_nodes after) (omega (arith, size.count)))

  -- ---- a node in place of another

  pub checked-graft : (path : List ℕ) (new old : Shape) (nodes : ℕ) → node_at path root ≡ Some old
      → nodes + count_nodes old ≡ count_nodes root + count_nodes new
      → checked root (Graft path new) ≡ done_unless (sizes (length path + depth new) nodes) (Graft path new)
  checked-graft path new old nodes there e =
      sized (λ n. blank nothing new) path old there (Graft path new) nodes (omega (arith, count-blank new))
      ∙ ap (λ k. done_unless (sizes (length path + k) nodes) (Graft path new)) (depth-blank new)

  module _ (few : count_nodes root ≤ most_nodes) where
    -- a node alone
    pub checked-one : (path : List ℕ) (new old : Shape) → node_at path root ≡ Some old → depth new ≡ 1
        → count_nodes new ≡ 1 → checked root (Graft path new) ≡ Ok (Graft path new)
    checked-one path new old there one alone =
        never (λ n. blank nothing new) path old there (Graft path new) few (omega (arith, depth-blank new)) (omega (arith, count-blank new))

    -- ---- a node with other settings and children

    module _ (path : List ℕ) (old : Shape) (there : node_at path root ≡ Some old) where
      no_larger : (own : Own) (below : List Child) → IsNoLarger old (with_children own old below)
          → checked root (Remake path own below) ≡ Ok (Remake path own below)
      no_larger own below h = never (λ n. with_children own n below) path old there (Remake path own below) few h.depth_is h.count_is

      pub checked-kept : (own : Own)
          → checked root (Remake path own (all_kept old)) ≡ Ok (Remake path own (all_kept old))
      checked-kept own = no_larger own (all_kept old) (kept-sizes own old)

      -- the same discipline otherwise set, and other filters
      pub checked-retuned : (d : Discipline) → checked root (retuned old path d) ≡ Ok (retuned old path d)
      checked-retuned d = checked-kept (record old.own { discipline = d })

      pub checked-filters : (filters : List Filter)
          → checked root (with_filters path old filters) ≡ Ok (with_filters path old filters)
      checked-filters filters = checked-kept (record old.own { filters = filters })

      -- a tbf, which has one child
      pub checked-reshaped : (now : ℕ) (b : TokenBucket) (rate burst bytes : ℕ) → length (children old) ≤ 1
          → checked root (reshaped now old path b rate burst bytes) ≡ Ok (reshaped now old path b rate burst bytes)
      checked-reshaped now b rate burst bytes one =
          let own : Own = record old.own { discipline = Tbf (after_change b rate burst now) bytes } in
          no_larger own (map (leaf_of_tbf bytes) (children old)) (bucket-sizes bytes own old one)

      -- a drr with a class less
      pub checked-without_class : (i : ℕ) (s : Schedule)
          → checked root (without_class i path old s) ≡ Ok (without_class i path old s)
      checked-without_class i s =
          let own : Own = record old.own { discipline = Drr s } in
          no_larger own (remove (all_kept old) i) (removed-sizes own old i)

    -- a prio with a band at least: it gets no deeper, and bands that go take along what is beneath them
    pub checked-rebanded : (d : Device) (path : List ℕ) (old : Shape) (bands : ℕ) (priomap : List ℕ) (nodes : ℕ)
        → node_at path root ≡ Some old → 1 ≤ length (children old)
        → nodes + sum (counts (drop bands (children old))) ≡ count_nodes root + (bands - length (children old))
        → checked root (rebanded d old path bands priomap) ≡ done_unless (numbers nodes) (rebanded d old path bands priomap)
    checked-rebanded d path old bands priomap nodes there some e =
        let own : Own = record old.own { discipline = Prio priomap } in
        let below : List Child = front_and_new (min (length (children old)) bands) (bands - length (children old)) (implicit_pfifo d) in
        numbered (λ n. with_children own n below) path old there (rebanded d old path bands priomap) nodes (bands-depth own old d bands some)
        (omega (arith, bands-count own old d bands))

    -- a drr with a class more: its leaf stands two levels below the way to the drr
    pub checked-with_class : (d : Device) (path : List ℕ) (old : Shape) (s : Schedule) → node_at path root ≡ Some old
        → checked root (with_class d path old s) ≡ done_unless (sizes (length path + 2) (suc (count_nodes root))) (with_class d path old s)
    checked-with_class d path old s there =
        let own : Own = record old.own { discipline = Drr s } in
        let below : List Child = all_kept old ++ New (implicit_pfifo d) ∷ [] in
        let nodes : ℕ = suc (count_nodes root) in
        let edit : Edit = with_class d path old s in
        let within = sized-within path root old there in
        let deeper : depth (with_children own old below) ≡ max 2 (depth old) = added-depth own old d in
        sized (λ n. with_children own n below) path old there edit nodes (omega (arith, added-count own old d))
        ∙ ap (λ (t : Bool). done_unless (refuse TooDeep t ∷ numbers nodes) edit)
        (same-ltb most_levels (length path + depth (with_children own old below)) (length path + 2)
        (λ lt. omega (arith, deeper, within.0, levels)) (λ lt. omega (arith, deeper)))
