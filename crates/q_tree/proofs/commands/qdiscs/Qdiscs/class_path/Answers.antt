use Rattle.std.proofs.Common.{◌≡◌, ◌∙◌, sym, ap, Some, option_copied, arith}
use Rattle.q_model.specs.Find.{node_at}
use Rattle.q_tree.proofs.commands.TargetLemmas.{path-short}
use Rattle.q_tree.proofs.commands.qdiscs.Qdiscs.class_path.Goals as goal

pub push-requires : goal.push-requires
push-requires c =
    let there : node_at c.in_ok-path.path.items c.args.self.now.root.now ≡ Some c.in_ok-at.field-0.now =
    ap (λ p. node_at p c.args.self.now.root.now) (sym c.deref.ensures.0) ∙ sym c.at.ensures ∙ ap option_copied c.in_ok-at.was in
    (omega arith, path-short c.in_ok-path.path.items c.args.self.now.root.now c.in_ok-at.field-0.now there c.args.self.now.levels)
