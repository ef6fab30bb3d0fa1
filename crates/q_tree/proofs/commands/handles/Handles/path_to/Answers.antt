use Rattle.std.proofs.Common.{◌≡◌, ℕ, ◌∙◌, sym, ap, Some, None, option_map}
use Rattle.std.specs.Prelude.{nat_eq, option_copied}
use Rattle.std.specs.Map.{lookup}
use Rattle.arrayvec.specs.ArrayVec.{ArrayVec}
use Rattle.q_tree.specs.commands.Index.{Index, listed, path_among}
use Rattle.q_tree.proofs.answers.FindLemmas.{apart}
use Rattle.q_tree.proofs.commands.IndexLemmas.{path-listed, path-other}
use Rattle.q_tree.proofs.commands.handles.Handles.path_to.Goals as goal

pub returns-in_err-path : goal.returns-in_err-path
returns-in_err-path c =
    let es = c.self.inside.beneath.entries in
    let looked : lookup (nat_eq c.major.result) es ≡ None = sym c.get.ensures.value ∙ ap option_copied c.in_err-path.was in
    ap (option_map (λ (v : ArrayVec ℕ). v.items)) (c.from_residual.ensures ∙ sym looked)
    ∙ path-listed c.major.result es
    ∙ ap (λ h. path_among h (listed es)) c.major.ensures.value
    ∙ path-other c.args.handle (listed es) c.self.inside.root (apart c.args.handle c.self.inside.root c.if-eq.ensures)
    ∙ ap (λ (i : Index). path_among c.args.handle i.addresses) c.self.view_is

pub returns : goal.returns
returns c =
    let es = c.self.inside.beneath.entries in
    let looked : lookup (nat_eq c.major.result) es ≡ Some c.in_ok-path.path.now = sym c.get.ensures.value ∙ ap option_copied c.in_ok-path.was in
    ap Some c.copied.ensures
    ∙ ap (option_map (λ (v : ArrayVec ℕ). v.items)) (sym looked)
    ∙ path-listed c.major.result es
    ∙ ap (λ h. path_among h (listed es)) c.major.ensures.value
    ∙ path-other c.args.handle (listed es) c.self.inside.root (apart c.args.handle c.self.inside.root c.if-eq.ensures)
    ∙ ap (λ (i : Index). path_among c.args.handle i.addresses) c.self.view_is
