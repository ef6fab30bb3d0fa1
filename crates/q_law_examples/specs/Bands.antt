-- Worked replays at which the premises of the laws about work, bands and the order of flows hold, and what they say there.
use Rattle.q_device.specs.Laws.{brought, given_in}
use Rattle.q_device.specs.Sharing.{device_after}
use Rattle.q_law_examples.specs.Replays.{bands_before, bands_during, bands_flow, bands_map, bands_second, bands_tree, packet, settings}
use Rattle.q_laws.specs.line.Line.{BeginsWith, IsAlone, KeepLine, line_at_root}
use Rattle.q_laws.specs.order.Order.{IsPartOf, NoCommandIsDone, answers, flow_among}
use Rattle.q_laws.specs.work.Work.{GivesInOrder, HasNoTbf, IsNeverHeldBack}
use Rattle.q_model.specs.Beneath.{beneath}
use Rattle.q_model.specs.Conserved.{sent_in}
use Rattle.q_model.specs.Events.{IsEvent}
use Rattle.q_model.specs.Node.{Node, Prio}
use Rattle.q_model.specs.Step.{step}
use Rattle.q_model.specs.Stretches.{Throughout, qdisc}
use Rattle.q_model.specs.Tally.{Note, history}
use Rattle.std.specs.List.{filter_map}
use Rattle.std.specs.Prelude.{All, List, Some, [], ◌++◌, ◌^◌, ◌∷◌, ◌≡◌, ◌≤◌}
use Rattle.q_model.specs.declared.event.Event.TheVariants as event

-- a prio with packets
abbrev pub ConservedWork : Type 0
ConservedWork =
    All IsEvent bands_before
    × (0 ≤ 2 ^ 62)
    × HasNoTbf (device_after settings bands_before).tree.root
    × IsNeverHeldBack (device_after settings bands_before) (step history (device_after settings bands_before) (event.Poll 0)).reply

-- a poll sends a packet of the second band
abbrev pub StrictBands : Type 0
StrictBands =
    (prio : Node (List Note))
    × (next : Node (List Note))
    × All IsEvent bands_second
    × (0 ≤ 2 ^ 62)
    × (qdisc 1 (device_after settings bands_second) ≡ Some prio)
    × (prio.own.discipline ≡ Prio bands_map)
    × (qdisc 1 (device_after settings (bands_second ++ event.Poll 0 ∷ [])) ≡ Some next)
    × (filter_map sent_in next.memory ≡ filter_map sent_in prio.memory ++ (packet 2 1 500) ∷ [])
    × GivesInOrder (device_after settings (bands_second ++ event.Poll 0 ∷ [])).clock prio (packet 2 1 500)

-- two packets of a flow beside another one
abbrev pub OrderOfFlow : Type 0
OrderOfFlow =
    All IsEvent bands_tree
    × All IsEvent bands_flow
    × NoCommandIsDone (device_after settings bands_tree) bands_flow
    × (flow_among (packet 1 2 1000) (beneath (device_after settings bands_tree).tree.root) ≡ [])
    × IsPartOf (flow_among (packet 1 2 1000) (filter_map given_in (answers (device_after settings bands_tree) bands_flow))) (flow_among (packet 1
    2 1000) (filter_map brought bands_flow))

-- what is in the first band
abbrev pub LineFirst : Type 0
LineFirst =
    All IsEvent bands_before
    × All IsEvent bands_during
    × Throughout IsAlone settings bands_before bands_during
    × KeepLine line_at_root (device_after settings bands_before) bands_during
    × BeginsWith (line_at_root (device_after settings bands_before)) (filter_map given_in (answers (device_after settings bands_before)
    bands_during) ++ line_at_root (device_after settings (bands_before ++ bands_during)))
