-- What is true of service over every interval of every replay: what a class of a drr, or a flow of an fq_codel, gets whatever comes to
-- the others. q_model's specs/Stretches.antt says what an interval is. Deficit round robin: M. Shreedhar and G. Varghese, "Efficient
-- Fair Queuing Using Deficit Round-Robin" (1995), and tc-drr(8); flows: RFC 8290, section 4.2.
use Rattle.std.specs.Prelude.{◌≡◌, ◌≢◌, ℕ, ◌+◌, ◌-◌, ◌*◌, ◌≤◌, max, ℤ, pos, ◌≤ℤ◌, true, false, List, [], ◌∷◌, ◌++◌, All, Option, Some, None, option_and_then, unwrap_or, length, sum_by}
use Rattle.std.specs.Option.{option_map_or}
use Rattle.q_drr.specs.Schedule.{Class, quantum_of, deficit_of}
use Rattle.q_drr.specs.Stretch.{stands_first}
use Rattle.q_fqcodel.specs.FqState.{is_idle}
use Rattle.q_fqcodel.specs.Laws.{credits_of}
use Rattle.q_fqcodel.specs.Put.{is_listed}
use Rattle.q_model.specs.declared.event.Event.{Event}
use Rattle.q_model.specs.Tally.{Note, history}
use Rattle.q_model.specs.Node.{Discipline, Fifo, Prio, Tbf, Drr, FqCodel, Node}
use Rattle.q_model.specs.Events.{IsEvent}
use Rattle.q_model.specs.Settings.{DeviceSettings}
use Rattle.q_model.specs.Step.{DeviceState, step}
use Rattle.q_model.specs.Stretches.{bytes_sent, grants_to, flow_grants_to, bytes_given, reach, qdisc, ClassAt, class_in, IsBackloggedClass, FqAt, fq_in, IsBackloggedFlow, Throughout}
use Rattle.q_device.specs.Sharing.{device_after}

-- ---- what a class sends

-- the bytes that the child of a class has given to the drr so far, 0 where the class is not there
abbrev pub given_so_far : ℕ → ℕ → DeviceState (List Note) → ℕ
given_so_far major minor d = option_map_or (λ (class : ClassAt). bytes_sent class.child.memory) (class_in major minor d) 0

-- The bytes that a class sends over these events: what its child gives to the drr in each of them. A child that a command puts
-- there has given nothing yet.
abbrev pub class_sent : ℕ → ℕ → DeviceState (List Note) → List Event → ℕ
class_sent major minor d [] = 0
class_sent major minor d (e ∷ events) =
    let next = (step history d e).device in
    (given_so_far major minor next - given_so_far major minor d) + class_sent major minor next events

-- the class is there with this quantum, backlogged or not
pub record IsClass (major minor quantum : ℕ) (d : DeviceState (List Note)) : Type 0 where
  pub class : ClassAt
  pub there : class_in major minor d ≡ Some class
  pub same_quantum : quantum_of minor class.schedule.classes ≡ quantum

-- ---- a class against any other

-- Class i stays backlogged over an interval in which the drr noted `notes`, and class j is there throughout, whatever comes to
-- it: packets, inactivity, another child. Class i sent its grants times its quantum and its first deficit less its last. Class j sent at
-- most its first deficit and a quantum for each grant to class i; and where it was not before class i at first, that deficit counts only
-- as far as it is above a quantum, so that a class that was inactive sends nothing until class i is granted.
pub record SendsNoMore (i j quantum_i quantum_j mtu sent_i sent_j : ℕ) (first last : ClassAt) : Type 0 where
  pub notes : List Note
  pub goes_on : last.noted ≡ first.noted ++ notes
  pub share : sent_i + deficit_of i last.schedule.active ≡ grants_to i notes * quantum_i + deficit_of i first.schedule.active
  pub no_more : sent_j ≤ grants_to i notes * quantum_j + deficit_of j first.schedule.active
  pub behind : stands_first j i first.schedule.active ≡ false → sent_j ≤ grants_to i notes * quantum_j + (deficit_of j first.schedule.active - quantum_j)
  pub in_quanta : sent_j * quantum_i ≤ sent_i * quantum_j + 2 * (quantum_i * quantum_j) + (mtu - 1) * (quantum_i + quantum_j)

abbrev pub ClassAgainstAny : DeviceSettings → Type 0
ClassAgainstAny settings =
    (before during : List Event) (major i j quantum_i quantum_j : ℕ) (first last : ClassAt) → i ≢ j → All IsEvent before → All IsEvent during
    → Throughout (IsBackloggedClass major i quantum_i) settings before during → Throughout (IsClass major j quantum_j) settings before during
    → class_in major i (device_after settings before) ≡ Some first → class_in major i (device_after settings (before ++ during)) ≡ Some last
    → SendsNoMore i j quantum_i quantum_j settings.mtu (class_sent major i (device_after settings before) during) (class_sent major j (device_after settings before) during) first last

-- ---- the least share of a class

-- the classes of the drr with this handle
abbrev pub classes_of : Discipline → Option (List Class)
classes_of (Drr s) = Some s.classes
classes_of (Fifo limit queue) = None
classes_of (Prio priomap) = None
classes_of (Tbf bucket limit) = None
classes_of (FqCodel s) = None

abbrev pub classes_in : ℕ → DeviceState (List Note) → Option (List Class)
classes_in major d = option_and_then (λ (n : Node (List Note)). classes_of n.own.discipline) (qdisc major d)

-- the drr has these classes with these quanta
abbrev pub HasClasses : ℕ → List Class → DeviceState (List Note) → Type 0
HasClasses major classes d = classes_in major d ≡ Some classes

abbrev pub quanta_of : List Class → ℕ
quanta_of classes = sum_by (λ (c : Class). c.quantum) classes

-- the bytes that all classes send
abbrev pub all_sent : ℕ → List Class → DeviceState (List Note) → List Event → ℕ
all_sent major classes d events = sum_by (λ (c : Class). class_sent major c.name d events) classes

-- Of `all` bytes that the classes of a drr send, whose quanta are `quanta` together, a class that stays backlogged sends its part,
-- less two quanta and a longest packet for itself and each other class.
abbrev pub GetsItsPart : ℕ → ℕ → ℕ → ℕ → ℕ → ℕ → Type 0
GetsItsPart classes quantum quanta mtu sent all =
    all * quantum ≤ sent * quanta + 2 * (quantum * (quanta - quantum)) + (mtu - 1) * ((classes - 1) * quantum + (quanta - quantum))

abbrev pub ClassesGetTheirParts : DeviceSettings → Type 0
ClassesGetTheirParts settings =
    (before during : List Event) (major i quantum : ℕ) (classes : List Class) → All IsEvent before → All IsEvent during
    → Throughout (HasClasses major classes) settings before during → Throughout (IsBackloggedClass major i quantum) settings before during
    → GetsItsPart (length classes) quantum (quanta_of classes) settings.mtu (class_sent major i (device_after settings before) during) (all_sent major classes (device_after settings before) during)

-- ---- a flow against any other

-- what a flow has in credits, none where it is in neither list
abbrev pub credits_in : ℕ → FqAt → ℤ
credits_in flow fq = unwrap_or (credits_of flow (fq.state.new_flows ++ fq.state.old_flows)) (pos 0)

-- Flow i stays backlogged over an interval in which the fq_codel noted `notes`; anything may come to flow j. It gave at most what
-- it could give at first before it waits for a quantum, a quantum, and for each grant to flow i two quanta less a byte. Where
-- it was in the new list at first, it gave that without the first quantum.
pub record GivesNoMore (i j quantum mtu : ℕ) (first last : FqAt) : Type 0 where
  pub notes : List Note
  pub goes_on : last.noted ≡ first.noted ++ notes
  pub no_more : bytes_given j notes ≤ flow_grants_to i notes * (2 * quantum - 1) + quantum + reach mtu (credits_in j first)
  pub in_new : (credits : ℤ) → credits_of j first.state.new_flows ≡ Some credits → bytes_given j notes ≤ flow_grants_to i notes * (2 * quantum - 1) + reach mtu credits

abbrev pub FlowAgainstAny : DeviceSettings → Type 0
FlowAgainstAny settings =
    (before during : List Event) (major i j quantum : ℕ) (first last : FqAt) → i ≢ j → All IsEvent before → All IsEvent during
    → Throughout (IsBackloggedFlow major i quantum) settings before during
    → fq_in major (device_after settings before) ≡ Some first → fq_in major (device_after settings (before ++ during)) ≡ Some last
    → GivesNoMore i j quantum settings.mtu first last

-- From an event on, be it one that grants flow i, until flow i is granted again: flow j gives at most what it could give at first
-- before it waits for a quantum, or with a quantum of credits where that is more, and a quantum less a byte. So it is two quanta and
-- the mtu less two bytes where its credits were at most a quantum, as they are unless the quantum fell.
abbrev pub NoFlowStarves : DeviceSettings → Type 0
NoFlowStarves settings =
    (before : List Event) (e : Event) (during : List Event) (major i j quantum : ℕ) (first next last : FqAt) → i ≢ j → All IsEvent before → IsEvent e → All IsEvent during
    → Throughout (IsBackloggedFlow major i quantum) settings before (e ∷ during)
    → fq_in major (device_after settings before) ≡ Some first → fq_in major (device_after settings (before ++ e ∷ [])) ≡ Some next
    → fq_in major (device_after settings (before ++ e ∷ during)) ≡ Some last
    → flow_grants_to i last.noted ≡ flow_grants_to i next.noted
    → bytes_given j last.noted ≤ bytes_given j first.noted + max (reach settings.mtu (pos quantum)) (reach settings.mtu (credits_in j first)) + (quantum - 1)

-- ---- a flow that joins

-- the fq_codel is there and something is queued in the flow, whatever its quantum is
pub record IsQueuedFlow (major flow : ℕ) (d : DeviceState (List Note)) : Type 0 where
  pub fq : FqAt
  pub there : fq_in major d ≡ Some fq
  pub queued : is_idle fq.state.flows flow ≡ false

-- A packet joined flow j, which was in neither list. From then on, as long as it stays backlogged and has given nothing, another flow
-- gave at most what it could give before it waits for a quantum, where it was in the new list, and nothing where it was not, or had no
-- credits left there: it is granted first then, and goes to the old list.
pub record GoesFirst (k mtu : ℕ) (first last : FqAt) : Type 0 where
  pub in_new : (credits : ℤ) → credits_of k first.state.new_flows ≡ Some credits → bytes_given k last.noted ≤ bytes_given k first.noted + reach mtu credits
  pub spent : (credits : ℤ) → credits_of k first.state.new_flows ≡ Some credits → credits ≤ℤ pos 0 → bytes_given k last.noted ≡ bytes_given k first.noted
  pub others : is_listed k first.state.new_flows ≡ false → bytes_given k last.noted ≡ bytes_given k first.noted

abbrev pub NewFlowFirst : DeviceSettings → Type 0
NewFlowFirst settings =
    (before : List Event) (e : Event) (during : List Event) (major j k : ℕ) (first next last : FqAt) → j ≢ k → All IsEvent before → IsEvent e → All IsEvent during
    → fq_in major (device_after settings before) ≡ Some first → fq_in major (device_after settings (before ++ e ∷ [])) ≡ Some next
    → fq_in major (device_after settings (before ++ e ∷ during)) ≡ Some last
    → is_listed j (first.state.new_flows ++ first.state.old_flows) ≡ false → is_listed j (next.state.new_flows ++ next.state.old_flows) ≡ true
    → Throughout (IsQueuedFlow major j) settings (before ++ e ∷ []) during → bytes_given j last.noted ≡ bytes_given j first.noted
    → GoesFirst k settings.mtu first last
