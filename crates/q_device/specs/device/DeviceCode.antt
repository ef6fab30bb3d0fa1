-- How a proof tells two devices apart.
-- Nothing here is of a standard.
use Rattle.std.specs.Prelude.{ℕ, List, refl}
use Rattle.std.specs.Coded.{Coded, code_by, coded×, coded_ℕ, coded_list}
use Rattle.q_codel.specs.declared.loss.Loss.{Loss}
use Rattle.q_codel.specs.contracts.loss.Loss as loss
use Rattle.q_model.specs.declared.event.Event.{Event}
use Rattle.q_model.specs.contracts.event.Event as event
use Rattle.q_model.specs.contracts.settings.Settings as settings
use Rattle.q_model.specs.Make.{Device}
use Rattle.q_model.specs.Node.{Node}
use Rattle.q_model.specs.Settings.{DeviceSettings}
use Rattle.q_model.specs.Step.{DeviceState}
use Rattle.q_model.specs.Tally.{Counts}
use Rattle.q_tree.specs.Kept.{Kept}
use Rattle.q_tree.specs.NodeCode as tree
use Rattle.q_tree.specs.NodeCode.{own_code, counts_code, node_code_by}
use Rattle.q_device.specs.device.DeviceSeen.{DeviceSeen, Memory}

-- a device of the model with totals
abbrev pub totals_code : Coded (DeviceState Counts)
totals_code =
    code_by (ℕ × (Device × (Counts × Node Counts)))
    (coded× coded_ℕ
    (coded× (code_by (ℕ × ℕ) (coded× coded_ℕ coded_ℕ) (λ d. (d.mtu, d.txqueuelen)) (λ p. record { mtu = p.0; txqueuelen = p.1 }) (λ _. refl))
    (coded× counts_code (node_code_by own_code counts_code))))
    (λ d. (d.clock, (d.tree.device, (d.tree.top, d.tree.root))))
    (λ p. record { clock = p.0; tree = record { device = p.1.0; top = p.1.1.0; root = p.1.1.1 } })
    (λ _. refl)

abbrev pub memory_code : Coded Memory
memory_code =
    code_by (DeviceState Kept × (ℕ × ℕ)) (coded× tree.device_code (coded× coded_ℕ coded_ℕ))
    (λ m. (m.tree, (m.losses, m.events))) (λ p. record { tree = p.0; losses = p.1.0; events = p.1.1 }) (λ _. refl)

abbrev pub device_code : Coded DeviceSeen
device_code =
    code_by (DeviceSettings × (DeviceState Counts × (List Loss × (ℕ × (List Event × (ℕ × Memory))))))
    (coded× settings.the_row.coded (coded× totals_code (coded× (coded_list loss.the_row.coded) (coded× coded_ℕ (coded× (coded_list event.the_row.coded) (coded× coded_ℕ memory_code))))))
    (λ d. (d.settings, (d.device, (d.waiting, (d.handed_out, (d.recorded, (d.events, d.memory)))))))
    (λ p. record { settings = p.0; device = p.1.0; waiting = p.1.1.0; handed_out = p.1.1.1.0; recorded = p.1.1.1.1.0; events = p.1.1.1.1.1.0; memory = p.1.1.1.1.1.1 })
    (λ _. refl)
