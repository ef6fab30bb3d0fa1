-- How a proof tells two sessions apart.
-- Nothing here is of a standard.
use Rattle.std.specs.Prelude.{ℕ, List, refl}
use Rattle.std.specs.Coded.{Coded, code_by, coded×, coded_ℕ, coded_list}
use Rattle.q_codel.specs.declared.loss.Loss.{Loss}
use Rattle.q_codel.specs.contracts.loss.Loss as loss
use Rattle.q_device.specs.device.DeviceCode.{totals_code}
use Rattle.q_model.specs.contracts.settings.Settings as settings
use Rattle.q_model.specs.Settings.{DeviceSettings}
use Rattle.q_model.specs.Step.{DeviceState}
use Rattle.q_model.specs.Tally.{Counts}
use Rattle.q_session.specs.Session.{SessionSeen}

abbrev pub session_code : Coded SessionSeen
session_code =
    code_by (ℕ × (DeviceSettings × (DeviceState Counts × (List Loss × (ℕ × (ℕ × ℕ))))))
    (coded× coded_ℕ (coded× settings.the_row.coded (coded× totals_code (coded× (coded_list loss.the_row.coded) (coded× coded_ℕ (coded× coded_ℕ coded_ℕ))))))
    (λ s. (s.seed, (s.settings, (s.state.device, (s.state.waiting, (s.state.moment, (s.state.packets, s.state.not_done)))))))
    (λ p. record { seed = p.0; settings = p.1.0; state = record { device = p.1.1.0; waiting = p.1.1.1.0; moment = p.1.1.1.1.0; packets = p.1.1.1.1.1.0; not_done = p.1.1.1.1.1.1 } })
    (λ _. refl)
