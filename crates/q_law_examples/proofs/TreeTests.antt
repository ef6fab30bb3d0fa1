-- Tests of a tree, and of what events are answered, each of which shows a premise of the laws.
use Rattle.std.proofs.Common.{◌≡◌, List, refl}
use Rattle.std.specs.Prelude.{Bool, true, false, not}
use Rattle.std.specs.List.{list_all}
use Rattle.std.proofs.lemmas.Bool.{false≢true}
use Rattle.q_model.specs.declared.event.Event.{Event}
use Rattle.q_model.specs.declared.reply.Reply.{Reply}
use Rattle.q_model.specs.Conserved.{every_node}
use Rattle.q_model.specs.Node.{Node}
use Rattle.q_model.specs.Step.{DeviceState}
use Rattle.q_model.specs.Tally.{Note}
use Rattle.q_tree.specs.answers.Ways.{is_tbf}
use Rattle.q_laws.specs.order.Order.{answers, is_done, NoCommandIsDone}
use Rattle.q_laws.specs.work.Work.{HasNoTbf}
use Rattle.q_law_examples.proofs.ByTest.{all-by}

is-false : (b : Bool) → not b ≡ true → b ≡ false
is-false true h = absurd (false≢true h)
is-false false h = refl

pub no-tbf-there : (n : Node (List Note)) → list_all (λ (m : Node (List Note)). not (is_tbf m.own.discipline)) (every_node n) ≡ true → HasNoTbf n
no-tbf-there n h =
    all-by (λ (m : Node (List Note)). is_tbf m.own.discipline ≡ false) (λ (m : Node (List Note)). not (is_tbf m.own.discipline))
    (λ m. is-false (is_tbf m.own.discipline)) (every_node n) h

pub no-command-there : (d : DeviceState (List Note)) (events : List Event) → list_all (λ r. not (is_done r)) (answers d events) ≡ true → NoCommandIsDone d events
no-command-there d events h = all-by (λ (r : Reply). is_done r ≡ false) (λ r. not (is_done r)) (λ r. is-false (is_done r)) (answers d events) h
