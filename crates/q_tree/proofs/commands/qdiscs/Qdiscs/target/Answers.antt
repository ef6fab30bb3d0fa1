use Rattle.std.proofs.Common.{◌≡◌, ◌∙◌, sym, ap, ap₂, Some, option_map}
use Rattle.std.specs.Option.{option_eq}
use Rattle.std.specs.Prelude.{◌==◌}
use Rattle.q_model.specs.Node.{Node, shape}
use Rattle.q_model.specs.QdiscCommands.{explicit_at, target}
use Rattle.q_tree.specs.answers.Finding.{reached}
use Rattle.q_tree.specs.Kept.{Kept}
use Rattle.q_tree.proofs.commands.TargetLemmas.{both-name}
use Rattle.q_tree.proofs.commands.qdiscs.Qdiscs.target.Goals as goal

pub returns-then-eq : goal.returns-then-eq
returns-then-eq c =
    let root = c.args.self.now.root.now in
    let found : reached root (explicit_at (Some c.in-Some.place) (shape root)) ≡ Some (c.in_ok-path.path.items, c.in_ok-path.node.now) =
    ap (reached root) (sym c.explicit_at-2.ensures) ∙ sym c.reached-2.ensures ∙ ap (option_map (λ x. (x.0.items, x.1.now))) c.in_ok-path.was in
    let same = sym c.if-eq.true ∙ c.eq.ensures ∙ ap (λ (n : Node Kept). option_eq (λ a b. a == b) n.own.handle (Some c.in-Some-handle.handle)) c.node.view_is in
    both-name c.in-Some.place c.in-Some-handle.handle root c.in_ok-path.node.now c.in_ok-path.path.items _ found same
    ∙ ap₂ (λ p h. reached root (target p h (shape root))) (sym c.in-Some.is) (sym c.in-Some-handle.is)

pub returns-else-eq : goal.returns-else-eq
returns-else-eq c =
    let root = c.args.self.now.root.now in
    let found : reached root (explicit_at (Some c.in-Some.place) (shape root)) ≡ Some (c.in_ok-path.path.items, c.in_ok-path.node.now) =
    ap (reached root) (sym c.explicit_at-2.ensures) ∙ sym c.reached-2.ensures ∙ ap (option_map (λ x. (x.0.items, x.1.now))) c.in_ok-path.was in
    let same = sym c.if-eq.false ∙ c.eq.ensures ∙ ap (λ (n : Node Kept). option_eq (λ a b. a == b) n.own.handle (Some c.in-Some-handle.handle)) c.node.view_is in
    both-name c.in-Some.place c.in-Some-handle.handle root c.in_ok-path.node.now c.in_ok-path.path.items _ found same
    ∙ ap₂ (λ p h. reached root (target p h (shape root))) (sym c.in-Some.is) (sym c.in-Some-handle.is)
