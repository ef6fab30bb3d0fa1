use Rattle.std.proofs.Common.{◌∙◌, ap}
use Rattle.std.specs.Prelude.{unwrap_or}
use Rattle.std.proofs.lemmas.Option.{get_or_from_slice_get}
use Rattle.q_model.specs.Node as spec
use Rattle.q_model.specs.Pop.{pop}
use Rattle.q_tree.specs.Kept.{Kept}
use Rattle.q_tree.proofs.disciplines.ServeLemmas.{class-given}
use Rattle.q_tree.proofs.disciplines.drr.dequeue_class_at_hand.Goals as goal

pub returns-clause-packet : goal.returns-clause-packet
returns-clause-packet c = λ class at.
    c.dequeue_at_hand.ensures.packet ∙ ap (λ (n : spec.Node Kept). unwrap_or (pop n).shown c.args.out.now) (get_or_from_slice_get c.args.classes.now c.args.place class c.index-classes-place.result at)

pub returns-clause-given : goal.returns-clause-given
returns-clause-given c = λ class at.
    class-given c.args.classes.now c.args.place class c.index-classes-place.result c.dequeue_at_hand.new.self c.index-classes-place-2.result c.args.active.now c.settle.new.active c.is_empty.result
    at c.dequeue_at_hand.ensures.after c.dequeue_at_hand.ensures.arrived c.is_empty.ensures c.settle.ensures
