-- What a change of a qdisc plans, with the check of number found from the tree as it stands: only bands more can be too many.
use Rattle.std.proofs.Common.{◌≡◌, ℕ, ◌+◌, ◌-◌, ◌≤◌, List, [], ◌∷◌, ◌++◌, length, drop, refl, ap, subst, ◌∙◌, Option, Some, Result, arith}
use Rattle.std.specs.Prelude.{unwrap_or}
use Rattle.std.specs.List.{sum}
use Rattle.std.proofs.lemmas.Option.{same_Some}
use Rattle.std.proofs.lemmas.List.{length-map}
use Rattle.q_codel.specs.declared.limit.Limit.TheVariants.{Packets, Bytes}
use Rattle.q_fqcodel.specs.FqState as flows
use Rattle.q_model.specs.declared.command.Command.TheVariants.{QdiscChange}
use Rattle.q_model.specs.declared.kind.Kind.{Kind}
use Rattle.q_model.specs.declared.kind.Kind.TheVariants as kind
use Rattle.q_model.specs.declared.refusal.Refusal.{Refusal}
use Rattle.q_model.specs.declared.refusal.Refusal.TheVariants.{NoQdisc}
use Rattle.q_model.specs.declared.place.Place.{Place}
use Rattle.q_model.specs.Node.{Discipline, Fifo, Prio, Tbf, Drr, FqCodel, Shape, children, each}
use Rattle.q_model.specs.Beneath.{beneath_own, beneath}
use Rattle.q_model.specs.Make.{Device, limit_bytes, with_options}
use Rattle.q_model.specs.Find.{depth, count_nodes, node_at}
use Rattle.q_model.specs.Edit.{Edit}
use Rattle.q_model.specs.Lawful.{IsLawfulDiscipline}
use Rattle.q_model.specs.Refusals.{done_unless, most_levels, most_nodes}
use Rattle.q_model.specs.QdiscCommands.{at_target, target, rebanded, bands_check, burst_check, flows_check, reshaped, retuned, change_of}
use Rattle.q_model.specs.TreeState.{plan}
use Rattle.q_invariants.specs.Kept.{IsLawfulRoot}
use Rattle.q_invariants.specs.Sizes.{change_sized, counts, nodes_rebanded, numbers}
use Rattle.q_invariants.proofs.sizes.EditSizes.{count-node, Down, down, sized-within}
use Rattle.q_invariants.proofs.sizes.RemadeSizes.{take-counts}
use Rattle.q_invariants.proofs.sizes.SizeChecks.{checked-retuned, checked-reshaped, checked-rebanded}
use Rattle.q_invariants.proofs.sizes.SizedPlans.{then_checked, then-done, then-never, then-target}
use Rattle.q_invariants.proofs.tree.Forests.{each-nodes}
use Rattle.q_invariants.proofs.tree.Quiet.{child-lawful}

-- ---- a node of a lawful tree

pub node-lawful : (mtu now : ℕ) (path : List ℕ) (root n : Shape) → IsLawfulRoot mtu now root
    → node_at path root ≡ Some n → IsLawfulRoot mtu now n
node-lawful mtu now [] root n h e = subst (IsLawfulRoot mtu now) (same_Some root n e) h
node-lawful mtu now (i ∷ path) root n h e =
    let d : Down i path root n = down i path root n e in
    node-lawful mtu now path d.child n (child-lawful mtu now root.below i d.child h.1 d.at) d.rest

pub length-below : (n : Shape) → length (each beneath_own n.below) ≡ length (children n)
length-below n = ap length (each-nodes beneath_own n.below) ∙ length-map (children n) beneath

-- ---- the change

module _ (root : Shape) (levels : depth root ≤ most_levels) (few : count_nodes root ≤ most_nodes) (d : Device) (now : ℕ) where
  module _ (path : List ℕ) (n : Shape) (there : node_at path root ≡ Some n) (mtu clock : ℕ) where
    change-checked : (was : Discipline) (k : Kind) → IsLawfulDiscipline mtu clock (each beneath_own n.below) was
        → then_checked root (change_of d now n path was k) ≡ change_sized d now root n path was k
    change-checked (Fifo (Packets old) queue) (kind.Pfifo limit) h = checked-retuned root levels few path n there (Fifo (Packets (unwrap_or limit old)) queue)
    change-checked (Fifo (Bytes old) queue) (kind.Bfifo limit) h = checked-retuned root levels few path n there (Fifo (Bytes (unwrap_or limit old)) queue)
    change-checked (Prio old) (kind.Prio s) h =
        let nodes : ℕ = nodes_rebanded root n s.bands in
        let enough : sum (counts (drop s.bands (children n))) ≤ count_nodes root =
        omega (arith, (sized-within path root n there).1, count-node n, take-counts (children n) s.bands) in
        then-done root (bands_check s.bands n) (numbers nodes) (rebanded d n path s.bands s.priomap)
        (checked-rebanded root levels few d path n s.bands s.priomap nodes there (omega (arith, h.least, length-below n)) (omega (arith, enough)))
    change-checked (Tbf b old) (kind.Tbf rate burst limit) h =
        let bytes : ℕ = limit_bytes rate burst limit in
        then-never root (burst_check b.burst burst d.mtu) (reshaped now n path b rate burst bytes)
        (checked-reshaped root levels few path n there now b rate burst bytes (omega (arith, h.one, length-below n)))
    change-checked (Drr s) kind.Drr h = checked-retuned root levels few path n there (Drr s)
    change-checked (FqCodel s) (kind.FqCodel o) h =
        let new : Discipline = FqCodel (flows.after_change s (with_options o s.settings)) in
        then-never root (flows_check o.flows s.settings.flows) (retuned n path new) (checked-retuned root levels few path n there new)
    change-checked was k h = refl

  pub plan-qdisc_change : (mtu clock : ℕ) → IsLawfulRoot mtu clock root
      → (place : Option Place) (handle : Option ℕ) (k : Kind)
      → plan d now (QdiscChange place handle k) root ≡ at_target NoQdisc (target place handle root) (λ path n. change_sized d now root n path n.own.discipline k) root
  plan-qdisc_change mtu clock lawful place handle k =
      then-target root NoQdisc (target place handle root) (λ path n. change_of d now n path n.own.discipline k) (λ path n. change_sized d now root n path n.own.discipline k)
      (λ path n there. change-checked path n there mtu clock n.own.discipline k (node-lawful mtu clock path root n lawful there).0.discipline)
