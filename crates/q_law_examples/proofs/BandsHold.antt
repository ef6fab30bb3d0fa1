-- The premises of the laws about work and order, computed for worked replays, and with them the laws.
use Rattle.q_device.specs.Sharing.{device_after}
use Rattle.q_law_examples.proofs.ByTest.{Found, by-test, found, passes, value-of}
use Rattle.q_law_examples.proofs.Fits.{events-fit}
use Rattle.q_law_examples.proofs.Rules.{all_rules}
use Rattle.q_law_examples.proofs.StateTests.{alone-there, alone_test}
use Rattle.q_law_examples.proofs.TreeTests.{no-command-there, no-tbf-there}
use Rattle.q_law_examples.specs.Bands.{ConservedWork, LineFirst, OrderOfFlow, StrictBands}
use Rattle.q_law_examples.specs.Replays.{bands_before, bands_during, bands_flow, bands_map, bands_second, bands_tree, packet, settings}
use Rattle.q_laws.specs.line.Line.{IsAlone, KeepLine, LinesLeaveFirst, line_at_root}
use Rattle.q_laws.specs.order.Order.{FlowsKeepOrder, NoCommandIsDone, flow_among}
use Rattle.q_laws.specs.work.Work.{BandsAreStrict, HasNoTbf, WorkIsConserved}
use Rattle.q_model.specs.Beneath.{beneath}
use Rattle.q_model.specs.Conserved.{sent_in}
use Rattle.q_model.specs.Events.{IsEvent}
use Rattle.q_model.specs.Node.{Node, Prio}
use Rattle.q_model.specs.Replay.{replay}
use Rattle.q_model.specs.Stretches.{Throughout, qdisc}
use Rattle.q_model.specs.Tally.{Note, history}
use Rattle.std.proofs.Common.{List, ap, refl, sym, ◌∙◌, ◌≡◌}
use Rattle.std.proofs.lemmas.Bool.{leb-true}
use Rattle.std.specs.List.{filter_map}
use Rattle.std.specs.Prelude.{All, [], true, ◌++◌, ◌^◌, ◌∷◌, ◌≤◌}
use Rattle.q_model.specs.declared.event.Event.TheVariants as event

bands-before-fits : All IsEvent bands_before
unfolding all_rules
bands-before-fits = events-fit bands_before refl

within : 0 ≤ 2 ^ 62
unfolding all_rules
within = leb-true _ _ refl

no-tbf : HasNoTbf (device_after settings bands_before).tree.root
unfolding all_rules
no-tbf = no-tbf-there (device_after settings bands_before).tree.root refl

prio-before : Found (Node (List Note)) (qdisc 1 (device_after settings bands_second))
unfolding all_rules
prio-before = found (qdisc 1 (device_after settings bands_second)) refl

prio-after : Found (Node (List Note)) (qdisc 1 (device_after settings (bands_second ++ event.Poll 0 ∷ [])))
unfolding all_rules
prio-after = found (qdisc 1 (device_after settings (bands_second ++ event.Poll 0 ∷ []))) refl

bands-second-fits : All IsEvent bands_second
unfolding all_rules
bands-second-fits = events-fit bands_second refl

bands-tree-fits : All IsEvent bands_tree
unfolding all_rules
bands-tree-fits = events-fit bands_tree refl

bands-flow-fits : All IsEvent bands_flow
unfolding all_rules
bands-flow-fits = events-fit bands_flow refl

no-command : NoCommandIsDone (device_after settings bands_tree) bands_flow
unfolding all_rules
no-command = no-command-there (device_after settings bands_tree) bands_flow refl

holds : flow_among (packet 1 2 1000) (beneath (device_after settings bands_tree).tree.root) ≡ []
unfolding all_rules
holds = refl

bands-during-fits : All IsEvent bands_during
unfolding all_rules
bands-during-fits = events-fit bands_during refl

line-kept : KeepLine line_at_root (device_after settings bands_before) bands_during
unfolding all_rules
line-kept = (tt, (tt, (tt, tt)))

tests-pass : passes (alone_test) (replay history settings bands_before) bands_during ≡ true
unfolding all_rules
tests-pass = refl

alone : Throughout IsAlone settings bands_before bands_during
alone = by-test IsAlone (alone_test) alone-there settings bands_before bands_during tests-pass

is-prio : prio-before.value.own.discipline ≡ Prio bands_map
unfolding all_rules
is-prio =
    value-of (λ (n : Node (List Note)). n.own.discipline) (qdisc 1 (device_after settings bands_second)) prio-before.value (Prio bands_map)
    prio-before.is refl

sends : filter_map sent_in prio-after.value.memory ≡ filter_map sent_in prio-before.value.memory ++ packet 2 1 500 ∷ []
unfolding all_rules
sends =
    value-of (λ (n : Node (List Note)). filter_map sent_in n.memory) (qdisc 1 (device_after settings (bands_second ++ event.Poll 0 ∷ [])))
    prio-after.value (packet 1 2 1000 ∷ packet 1 3 1000 ∷ packet 2 1 500 ∷ []) prio-after.is refl ∙ sym (ap (λ ps. ps ++ packet 2 1 500 ∷ [])
    (value-of (λ (n : Node (List Note)). filter_map sent_in n.memory) (qdisc 1 (device_after settings bands_second)) prio-before.value (packet 1 2
    1000 ∷ packet 1 3 1000 ∷ []) prio-before.is refl))

pub conserved-work : WorkIsConserved settings → ConservedWork
conserved-work law = (bands-before-fits, within, no-tbf, law bands_before 0 bands-before-fits within no-tbf)

pub strict-bands : BandsAreStrict settings → StrictBands
strict-bands law = (
  prio-before.value,
  prio-after.value,
  bands-second-fits,
  within,
  prio-before.is,
  is-prio,
  prio-after.is,
  sends,
  law bands_second 0 1
      prio-before.value prio-after.value bands_map (packet 2 1 500) bands-second-fits within prio-before.is is-prio prio-after.is sends,
)

pub order-of-flow : FlowsKeepOrder settings → OrderOfFlow
order-of-flow law = (
  bands-tree-fits,
  bands-flow-fits,
  no-command,
  holds,
  law bands_tree bands_flow (packet 1 2 1000) bands-tree-fits bands-flow-fits no-command
      holds,
)

pub line-first : LinesLeaveFirst settings → LineFirst
line-first law =
    (bands-before-fits, bands-during-fits, alone, line-kept, law bands_before bands_during bands-before-fits bands-during-fits alone line-kept)
