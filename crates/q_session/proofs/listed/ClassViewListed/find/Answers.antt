use Rattle.std.proofs.Common.{◌∙◌, ap, slice_get}
use Rattle.q_session.proofs.ListedLemmas.{few-classes-of}
use Rattle.q_session.proofs.ShownNodes.{classes-counted}
use Rattle.q_session.proofs.listed.ClassViewListed.find.Goals as goal

pub returns : goal.returns
returns c = record {
  found = c.class.ensures ∙ ap (λ xs. slice_get xs c.args.j) (classes-counted c.args.node.now.1);
  few = few-classes-of c.args.node.now.1;
}
