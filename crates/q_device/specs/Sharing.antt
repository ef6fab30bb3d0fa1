-- What is true of sharing over every interval of every replay, for a tbf, for the classes of a drr and for the flows of an fq_codel.
-- q_model's specs/Stretches.antt says what an interval is and what is counted in it. RFC 2211 has the bound of a token bucket.
use Rattle.std.specs.Prelude.{◌≡◌, ◌≢◌, ℕ, suc, ◌+◌, ◌-◌, ◌*◌, ◌<◌, ◌≤◌, ℤ, pos, ◌+ℤ◌, Bool, true, false, List, [], ◌∷◌, ◌++◌, All, Option, Some, IsSomeAnd, option_map}
use Rattle.q_packet.specs.Descriptor.{Descriptor}
use Rattle.q_bucket.specs.Level.{units_in_byte}
use Rattle.q_drr.specs.Schedule.{quantum_of, deficit_of}
use Rattle.q_drr.specs.Stretch.{stands_first}
use Rattle.q_fqcodel.specs.FqState.{FqState}
use Rattle.q_fqcodel.specs.Laws.{credits_of}
use Rattle.q_fqcodel.specs.Order as order
use Rattle.q_fqcodel.specs.Put.{is_listed}
use Rattle.q_model.specs.declared.event.Event.{Event}
use Rattle.q_model.specs.Tally.{Note, history}
use Rattle.q_model.specs.Node.{Node, shape}
use Rattle.q_model.specs.Beneath.{is_empty}
use Rattle.q_model.specs.Ask.{ask}
use Rattle.q_model.specs.Events.{IsEvent}
use Rattle.q_model.specs.Replay.{replay}
use Rattle.q_model.specs.Settings.{DeviceSettings}
use Rattle.q_model.specs.Step.{DeviceState}
use Rattle.q_model.specs.Stretches.{bytes_sent, bytes_spent, grants_to, flow_grants_to, bytes_given, length_held, ClassAt, class_in, TbfAt, tbf_in, FqAt, fq_in, IsBackloggedClass, IsTbf, IsBackloggedFlow, Throughout}

-- the device after a list of events
abbrev pub device_after : DeviceSettings → List Event → DeviceState (List Note)
device_after settings events = (replay history settings events).device

-- ---- a class of a drr

-- Over an interval the drr noted `notes`, and the child of the class `given`. The class sent, in bytes that its child gave to the
-- drr, its grants times its quantum and its first deficit less its last.
pub record SendsItsShare (minor quantum : ℕ) (first last : ClassAt) : Type 0 where
  pub notes : List Note
  pub given : List Note
  pub goes_on : last.noted ≡ first.noted ++ notes
  pub child_goes_on : last.child.memory ≡ first.child.memory ++ given
  pub share : bytes_sent given + deficit_of minor last.schedule.active ≡ grants_to minor notes * quantum + deficit_of minor first.schedule.active

abbrev pub ClassesSendTheirShares : DeviceSettings → Type 0
ClassesSendTheirShares settings =
    (before during : List Event) (major minor quantum : ℕ) (first last : ClassAt) → All IsEvent before → All IsEvent during
    → Throughout (IsBackloggedClass major minor quantum) settings before during
    → class_in major minor (device_after settings before) ≡ Some first → class_in major minor (device_after settings (before ++ during)) ≡ Some last
    → SendsItsShare minor quantum first last

-- after every list of events each deficit is below the quantum of its class and the mtu together
abbrev pub DeficitsAreBounded : DeviceSettings → Type 0
DeficitsAreBounded settings =
    (events : List Event) (major minor : ℕ) (class : ClassAt) → All IsEvent events → class_in major minor (device_after settings events) ≡ Some class
    → deficit_of minor class.schedule.active < quantum_of minor class.schedule.classes + settings.mtu

-- the length of the packet that a node shows where it is asked for one at this time
abbrev pub length_shown : ℕ → Node (List Note) → Option ℕ
length_shown now n = option_map (λ (p : Descriptor). p.len) (ask now (shape n)).shown

-- After every list of events: where the next one grants k + 1 quanta to a class, its child shows a packet then, and with k of
-- them the deficit is still below the length of that.
abbrev pub GrantsComeWhereShort : DeviceSettings → Type 0
GrantsComeWhereShort settings =
    (events : List Event) (e : Event) (major minor k : ℕ) (class next : ClassAt) → All IsEvent events → IsEvent e
    → class_in major minor (device_after settings events) ≡ Some class → class_in major minor (device_after settings (events ++ e ∷ [])) ≡ Some next
    → grants_to minor next.noted ≡ grants_to minor class.noted + suc k
    → IsSomeAnd (length_shown (device_after settings (events ++ e ∷ [])).clock class.child) (λ len. deficit_of minor class.schedule.active + k * quantum_of minor class.schedule.classes < len)

-- After every list of events: where a class was empty and something is queued at its child after the next one, it begins with a
-- deficit of one quantum, whatever it had before.
abbrev pub ClassesWakeWithAQuantum : DeviceSettings → Type 0
ClassesWakeWithAQuantum settings =
    (events : List Event) (e : Event) (major minor : ℕ) (class next : ClassAt) → All IsEvent events → IsEvent e
    → class_in major minor (device_after settings events) ≡ Some class → class_in major minor (device_after settings (events ++ e ∷ [])) ≡ Some next
    → is_empty class.child ≡ true → is_empty next.child ≡ false → deficit_of minor next.schedule.active ≡ quantum_of minor next.schedule.classes

-- ---- two classes of one drr

-- Over an interval the drr noted `notes`, and the children of the two classes `given_i` and `given_j`. Where both are in the
-- active list in the order that they had, they got equally many grants, else the one that had been first got one more. What
-- each sent times the quantum of the other exceeds the same of the other by less than three products of the quanta and a
-- longest packet times their sum.
pub record ShareByQuanta (i j quantum_i quantum_j mtu : ℕ) (first_i last_i first_j last_j : ClassAt) : Type 0 where
  pub notes : List Note
  pub given_i : List Note
  pub given_j : List Note
  pub goes_on : last_i.noted ≡ first_i.noted ++ notes
  pub child_i_goes_on : last_i.child.memory ≡ first_i.child.memory ++ given_i
  pub child_j_goes_on : last_j.child.memory ≡ first_j.child.memory ++ given_j
  pub same_order : stands_first i j last_i.schedule.active ≡ stands_first i j first_i.schedule.active → grants_to i notes ≡ grants_to j notes
  pub overtaken : stands_first i j first_i.schedule.active ≡ true → stands_first i j last_i.schedule.active ≡ false → grants_to i notes ≡ grants_to j notes + 1
  pub overtakes : stands_first i j first_i.schedule.active ≡ false → stands_first i j last_i.schedule.active ≡ true → grants_to j notes ≡ grants_to i notes + 1
  pub no_more : bytes_sent given_i * quantum_j < bytes_sent given_j * quantum_i + 3 * (quantum_i * quantum_j) + mtu * (quantum_i + quantum_j)
  pub no_less : bytes_sent given_j * quantum_i < bytes_sent given_i * quantum_j + 3 * (quantum_i * quantum_j) + mtu * (quantum_i + quantum_j)

abbrev pub ClassesShareByQuanta : DeviceSettings → Type 0
ClassesShareByQuanta settings =
    (before during : List Event) (major i j quantum_i quantum_j : ℕ) (first_i last_i first_j last_j : ClassAt) → i ≢ j → All IsEvent before → All IsEvent during
    → Throughout (IsBackloggedClass major i quantum_i) settings before during → Throughout (IsBackloggedClass major j quantum_j) settings before during
    → class_in major i (device_after settings before) ≡ Some first_i → class_in major i (device_after settings (before ++ during)) ≡ Some last_i
    → class_in major j (device_after settings before) ≡ Some first_j → class_in major j (device_after settings (before ++ during)) ≡ Some last_j
    → ShareByQuanta i j quantum_i quantum_j settings.mtu first_i last_i first_j last_j

-- ---- a tbf

-- Over an interval a tbf noted these. The bytes that its bucket paid are at most its burst and what its rate brought in the time
-- between, in exact units; and the node sent at most those and the packet that it held at first.
pub record IsBounded (rate burst begin end : ℕ) (first last : TbfAt) : Type 0 where
  pub notes : List Note
  pub goes_on : last.noted ≡ first.noted ++ notes
  pub spent : bytes_spent notes * units_in_byte ≤ burst * units_in_byte + rate * (end - begin)
  pub sent : bytes_sent notes ≤ bytes_spent notes + length_held first.held

abbrev pub BucketsAreBounded : DeviceSettings → Type 0
BucketsAreBounded settings =
    (before during : List Event) (major rate burst : ℕ) (first last : TbfAt) → All IsEvent before → All IsEvent during
    → Throughout (IsTbf major rate burst) settings before during
    → tbf_in major (device_after settings before) ≡ Some first → tbf_in major (device_after settings (before ++ during)) ≡ Some last
    → IsBounded rate burst (device_after settings before).clock (device_after settings (before ++ during)).clock first last

-- ---- a flow of an fq_codel

-- Over an interval the fq_codel noted these. The flow is listed at both ends, and gave its node, in bytes, its grants times the
-- quantum and its first credits less its last; what CoDel or the fat flow loses is not among them, since nothing pays for it.
pub record GivesItsShare (flow quantum : ℕ) (first last : FqAt) : Type 0 where
  pub notes : List Note
  pub goes_on : last.noted ≡ first.noted ++ notes
  pub first_credits : ℤ
  pub last_credits : ℤ
  pub at_first : credits_of flow (first.state.new_flows ++ first.state.old_flows) ≡ Some first_credits
  pub at_last : credits_of flow (last.state.new_flows ++ last.state.old_flows) ≡ Some last_credits
  pub share : pos (bytes_given flow notes) +ℤ last_credits ≡ pos (flow_grants_to flow notes * quantum) +ℤ first_credits

abbrev pub FlowsGiveTheirShares : DeviceSettings → Type 0
FlowsGiveTheirShares settings =
    (before during : List Event) (major flow quantum : ℕ) (first last : FqAt) → All IsEvent before → All IsEvent during
    → Throughout (IsBackloggedFlow major flow quantum) settings before during
    → fq_in major (device_after settings before) ≡ Some first → fq_in major (device_after settings (before ++ during)) ≡ Some last
    → GivesItsShare flow quantum first last

-- After every list of events: a flow that was in neither list and is in one after the next event begins in the new one, with
-- credits of one quantum.
abbrev pub FlowsBeginNew : DeviceSettings → Type 0
FlowsBeginNew settings =
    (events : List Event) (e : Event) (major flow : ℕ) (fq next : FqAt) → All IsEvent events → IsEvent e
    → fq_in major (device_after settings events) ≡ Some fq → fq_in major (device_after settings (events ++ e ∷ [])) ≡ Some next
    → is_listed flow (fq.state.new_flows ++ fq.state.old_flows) ≡ false → is_listed flow (next.state.new_flows ++ next.state.old_flows) ≡ true
    → credits_of flow next.state.new_flows ≡ Some (pos next.state.settings.quantum)

-- ---- two flows of one fq_codel

-- whether flow i is before flow j in the new list followed by the old one
abbrev pub flow_stands_first : ℕ → ℕ → FqState → Bool
flow_stands_first i j s = order.stands_first i j (s.new_flows ++ s.old_flows)

-- Over an interval the fq_codel noted these. Where both flows are in the order that they had, they got equally many grants,
-- else the one that had been first got one more.
pub record AreGrantedEvenly (i j : ℕ) (first last : FqAt) : Type 0 where
  pub notes : List Note
  pub goes_on : last.noted ≡ first.noted ++ notes
  pub same_order : flow_stands_first i j last.state ≡ flow_stands_first i j first.state → flow_grants_to i notes ≡ flow_grants_to j notes
  pub overtaken : flow_stands_first i j first.state ≡ true → flow_stands_first i j last.state ≡ false → flow_grants_to i notes ≡ flow_grants_to j notes + 1
  pub overtakes : flow_stands_first i j first.state ≡ false → flow_stands_first i j last.state ≡ true → flow_grants_to j notes ≡ flow_grants_to i notes + 1

abbrev pub FlowsAreGrantedEvenly : DeviceSettings → Type 0
FlowsAreGrantedEvenly settings =
    (before during : List Event) (major i j quantum : ℕ) (first last : FqAt) → All IsEvent before → All IsEvent during
    → Throughout (IsBackloggedFlow major i quantum) settings before during → Throughout (IsBackloggedFlow major j quantum) settings before during
    → fq_in major (device_after settings before) ≡ Some first → fq_in major (device_after settings (before ++ during)) ≡ Some last
    → AreGrantedEvenly i j first last
