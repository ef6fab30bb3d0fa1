use Rattle.std.proofs.Common.{◌∙◌, sym, ap, Some, None, option_map}
use Rattle.std.specs.Prelude.{if◌then◌else◌}
use Rattle.q_model.specs.Find.{is_explicit}
use Rattle.q_tree.proofs.commands.TargetLemmas.{explicit-at}
use Rattle.q_tree.proofs.commands.qdiscs.Qdiscs.explicit_at.Goals as goal

pub returns-in_err-path : goal.returns-in_err-path
returns-in_err-path c =
    ap (option_map (λ p. p.items)) c.from_residual.ensures
    ∙ explicit-at c.args.place c.args.self.now.root.now None (sym (ap (option_map (λ p. p.items)) c.in_err-path.was) ∙ c.place_path.ensures)

pub returns-then-is_explicit : goal.returns-then-is_explicit
returns-then-is_explicit c =
    ap (λ b. if b then Some c.in_ok-path.path.items else None) (sym c.if-is_explicit.true ∙ c.is_explicit.ensures ∙ ap (λ p. is_explicit p c.args.self.now.root.now) c.deref.ensures.0)
    ∙ explicit-at c.args.place c.args.self.now.root.now (Some c.in_ok-path.path.items) (sym (ap (option_map (λ p. p.items)) c.in_ok-path.was) ∙ c.place_path.ensures)

pub returns-else-is_explicit : goal.returns-else-is_explicit
returns-else-is_explicit c =
    ap (λ b. if b then Some c.in_ok-path.path.items else None) (sym c.if-is_explicit.false ∙ c.is_explicit.ensures ∙ ap (λ p. is_explicit p c.args.self.now.root.now) c.deref.ensures.0)
    ∙ explicit-at c.args.place c.args.self.now.root.now (Some c.in_ok-path.path.items) (sym (ap (option_map (λ p. p.items)) c.in_ok-path.was) ∙ c.place_path.ensures)
