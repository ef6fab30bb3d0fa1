use Rattle.std.proofs.Common.{Ok, ◌≡◌, ◌-◌, ◌+◌, ◌∙◌, List, length, sym, ap, true, false, arith}
use Rattle.std.specs.Prelude.{nat_lt}
use Rattle.std.specs.List.{list_any}
use Rattle.std.proofs.lemmas.Bool.{lt-ltb, le-ltb}
use Rattle.q_model.specs.declared.filter.Filter.{Filter}
use Rattle.q_model.specs.Node.{Node, children}
use Rattle.q_model.specs.Refusals.{most_nodes}
use Rattle.q_tree.specs.commands.Changing.{nodes_from}
use Rattle.q_tree.specs.Kept.{Kept}
use Rattle.q_tree.specs.Seen.{discipline_seen}
use Rattle.q_tree.proofs.commands.ChangeLemmas.{leaves-by}
use Rattle.q_tree.proofs.node.Node.leaves_needed.Goals as goal

pub returns-then-names_beyond : goal.returns-then-names_beyond
returns-then-names_beyond c =
    let n = c.args.self.now in
    leaves-by n c.args.bands c.args.nodes c.in-Prio.priomap (sym (ap (λ (m : Node Kept). m.own.discipline) c.self.view_is) ∙ ap discipline_seen c.in-Prio.is)
    c.all.result.now (sym (c.all.ensures ∙ ap (λ (m : Node Kept). m.own.filters) c.self.view_is)) true
    (nat_lt most_nodes (c.args.nodes + (c.args.bands - length (children n)) - nodes_from c.args.bands n))
    (ap (λ k. list_any (λ (f : Filter). nat_lt k f.minor) c.all.result.now) (sym c.from-bands.ensures) ∙ sym c.names_beyond.ensures
    ∙ c.if-names_beyond.true) (λ i. nat_lt most_nodes (c.args.nodes + (c.args.bands - length (children n)) - nodes_from c.args.bands n))

pub returns-then-nodes-more : goal.returns-then-nodes-more
returns-then-nodes-more c =
    let n = c.args.self.now in
    let more = c.args.bands - length (children n) in
    let same : c.nodes_from.result ≡ nodes_from c.args.bands n = c.nodes_from.ensures.value ∙ ap (λ k. nodes_from k n) c.from-bands.ensures in
    leaves-by n c.args.bands c.args.nodes c.in-Prio.priomap (sym (ap (λ (m : Node Kept). m.own.discipline) c.self.view_is) ∙ ap discipline_seen c.in-Prio.is)
    c.all.result.now (sym (c.all.ensures ∙ ap (λ (m : Node Kept). m.own.filters) c.self.view_is)) false true
    (ap (λ k. list_any (λ (f : Filter). nat_lt k f.minor) c.all.result.now) (sym c.from-bands.ensures) ∙ sym c.names_beyond.ensures ∙ c.if-names_beyond.false)
    (lt-ltb most_nodes (c.args.nodes + more - nodes_from c.args.bands n)
    (omega (arith, c.if-nodes-more.true, c.saturating_sub-more.ensures, c.from-bands.ensures, same, ap (λ (xs : List (Node Kept)). length xs) c.children.ensures)))

pub returns : goal.returns
returns c =
    let n = c.args.self.now in
    let more = c.args.bands - length (children n) in
    let same : c.nodes_from.result ≡ nodes_from c.args.bands n = c.nodes_from.ensures.value ∙ ap (λ k. nodes_from k n) c.from-bands.ensures in
    let more_is : c.saturating_sub-more.result ≡ more = omega (arith, c.saturating_sub-more.ensures, c.from-bands.ensures, ap (λ (xs : List (Node Kept)). length xs) c.children.ensures) in
    ap (λ k. Ok k) more_is
    ∙ leaves-by n c.args.bands c.args.nodes c.in-Prio.priomap (sym (ap (λ (m : Node Kept). m.own.discipline) c.self.view_is) ∙ ap discipline_seen c.in-Prio.is)
    c.all.result.now (sym (c.all.ensures ∙ ap (λ (m : Node Kept). m.own.filters) c.self.view_is)) false false
    (ap (λ k. list_any (λ (f : Filter). nat_lt k f.minor) c.all.result.now) (sym c.from-bands.ensures) ∙ sym c.names_beyond.ensures ∙ c.if-names_beyond.false)
    (le-ltb most_nodes (c.args.nodes + more - nodes_from c.args.bands n) (omega (arith, c.if-nodes-more.false, more_is, same)))
