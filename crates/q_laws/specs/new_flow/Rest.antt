-- What CoDel remembers of a flow of an fq_codel that joins, after it left the lists, as it does where it is visited empty and has credits
-- (RFC 8290, section 4.2): nothing by which it would drop or mark (RFC 8289, section 5).
use Rattle.std.specs.Prelude.{◌≡◌, ℕ, true, false, List, [], ◌∷◌, ◌++◌, All, Some, slice_get}
use Rattle.q_packet.specs.declared.stamped.Stamped.{Stamped}
use Rattle.q_codel.specs.Codel.{CodelState, drops, marks}
use Rattle.q_fqcodel.specs.FqState.{Flow}
use Rattle.q_fqcodel.specs.Put.{is_listed}
use Rattle.q_model.specs.declared.event.Event.{Event}
use Rattle.q_model.specs.Events.{IsEvent}
use Rattle.q_model.specs.Settings.{DeviceSettings}
use Rattle.q_model.specs.Stretches.{bytes_given, FqAt, fq_in, Throughout}
use Rattle.q_device.specs.Sharing.{device_after}
use Rattle.q_laws.specs.share.Service.{IsQueuedFlow}

-- it drops nothing now and has not seen the queue stand, as in a new fq_codel
pub record IsAtRest (f : Flow) : Type 0 where
  pub not_above : f.codel.first_above_time ≡ 0
  pub not_dropping : f.codel.dropping ≡ false

abbrev pub FlowRests : ℕ → List Flow → Type 0
FlowRests n flows = (f : Flow) → slice_get flows n ≡ Some f → IsAtRest f

-- whatever queues there, at whatever time its turn comes: CoDel drops nothing before the packet that it gives, and does not mark that
pub record IsSparing (c : CodelState) : Type 0 where
  pub drops_none : (now : ℕ) (queue : List Stamped) → drops c now queue ≡ 0
  pub marks_none : (now : ℕ) (queue : List Stamped) → marks c now queue ≡ false

-- A packet joins a flow that is in neither list of an fq_codel, at any time of any device. From then on, as long as the flow stays
-- backlogged and has given nothing, CoDel spares it.
abbrev pub JoiningFlowsAreSpared : DeviceSettings → Type 0
JoiningFlowsAreSpared settings =
    (before : List Event) (e : Event) (during : List Event) (major j : ℕ) (first next last : FqAt) (f : Flow)
    → All IsEvent before → IsEvent e → All IsEvent during
    → fq_in major (device_after settings before) ≡ Some first → fq_in major (device_after settings (before ++ e ∷ [])) ≡ Some next
    → fq_in major (device_after settings ((before ++ e ∷ []) ++ during)) ≡ Some last
    → is_listed j (first.state.new_flows ++ first.state.old_flows) ≡ false → is_listed j (next.state.new_flows ++ next.state.old_flows) ≡ true
    → Throughout (IsQueuedFlow major j) settings (before ++ e ∷ []) during → bytes_given j last.noted ≡ bytes_given j first.noted
    → slice_get last.state.flows j ≡ Some f → IsSparing f.codel
