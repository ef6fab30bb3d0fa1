use Rattle.std.proofs.Common.{◌∙◌, ap}
use Rattle.q_tree.specs.commands.Index.{Index, has_among, listed}
use Rattle.q_tree.proofs.answers.FindLemmas.{apart}
use Rattle.q_tree.proofs.commands.IndexLemmas.{has-listed, has-other}
use Rattle.q_tree.proofs.commands.handles.Handles.has.Goals as goal

pub returns : goal.returns
returns c =
    let es = c.self.inside.beneath.entries in
    c.contains_key.ensures
    ∙ has-listed c.major.result es
    ∙ ap (λ h. has_among h (listed es)) c.major.ensures.value
    ∙ has-other c.args.handle (listed es) c.self.inside.root (apart c.args.handle c.self.inside.root c.if-eq.ensures)
    ∙ ap (λ (i : Index). has_among c.args.handle i.addresses) c.self.view_is
