-- What is true of work after every list of events: a tree without a tbf gives a packet to every poll that finds one queued, and a
-- prio gives one of a band only where the bands before it gave nothing. tc-prio(8) calls itself work-conserving, and dequeues its
-- classes in order; tc-tbf(8) alone is not work-conserving, and may hold back a packet that is there.
use Rattle.std.specs.Prelude.{◌≡◌, ◌≢◌, ℕ, ◌<◌, ◌≤◌, ◌^◌, true, false, List, [], ◌∷◌, ◌++◌, All, Some, None, slice_get}
use Rattle.std.specs.List.{filter_map}
use Rattle.q_packet.specs.Descriptor.{Descriptor}
use Rattle.q_model.specs.declared.event.Event.{Event}
use Rattle.q_model.specs.declared.event.Event.TheVariants as event
use Rattle.q_model.specs.declared.polled.Polled.TheVariants as polled
use Rattle.q_model.specs.declared.reply.Reply.{Reply}
use Rattle.q_model.specs.declared.reply.Reply.TheVariants as reply
use Rattle.q_model.specs.Ask.{ask}
use Rattle.q_model.specs.Beneath.{is_empty}
use Rattle.q_model.specs.Conserved.{every_node, sent_in}
use Rattle.q_model.specs.Events.{IsEvent}
use Rattle.q_model.specs.Node.{Prio, Node, children, shape}
use Rattle.q_model.specs.Settings.{DeviceSettings}
use Rattle.q_model.specs.Step.{DeviceState, step}
use Rattle.q_model.specs.Stretches.{qdisc}
use Rattle.q_model.specs.Tally.{Note, history}
use Rattle.q_tree.specs.answers.Ways.{is_tbf}
use Rattle.q_device.specs.Sharing.{device_after}

-- neither the node nor one below it is a tbf
abbrev pub HasNoTbf : {M : Type 0} → Node M → Type 0
HasNoTbf {M} n = All (λ (m : Node M). is_tbf m.own.discipline ≡ false) (every_node n)

-- ---- no idle link

-- what a poll of this device is answered: a packet where something is queued, and Idle where nothing is, so never Later
pub record IsNeverHeldBack (d : DeviceState (List Note)) (answer : Reply) : Type 0 where
  pub gives : is_empty d.tree.root ≡ false → (p : Descriptor) × (answer ≡ reply.Polled (polled.Packet p))
  pub idle : is_empty d.tree.root ≡ true → answer ≡ reply.Polled polled.Idle
  pub never_later : answer ≢ reply.Polled polled.Later

abbrev pub WorkIsConserved : DeviceSettings → Type 0
WorkIsConserved settings =
    (events : List Event) (moment : ℕ) → All IsEvent events → moment ≤ 2 ^ 62 → HasNoTbf (device_after settings events).tree.root
    → IsNeverHeldBack (device_after settings events) (step history (device_after settings events) (event.Poll moment)).reply

-- ---- strict priority

-- At this time a prio gave a packet: that of a band, where each band before it gave nothing when it was asked; and if no tbf
-- is there or below, nothing was queued there.
pub record GivesInOrder (now : ℕ) (prio : Node (List Note)) (p : Descriptor) : Type 0 where
  pub band : ℕ
  pub child : Node (List Note)
  pub there : slice_get (children prio) band ≡ Some child
  pub gives : (ask now (shape child)).shown ≡ Some p
  pub before : (i : ℕ) (other : Node (List Note)) → i < band → slice_get (children prio) i ≡ Some other → (ask now (shape other)).shown ≡ None
  pub empty : (i : ℕ) (other : Node (List Note)) → i < band → slice_get (children prio) i ≡ Some other → HasNoTbf other → is_empty other ≡ true

-- after every list of events, where a poll has a prio send a packet
abbrev pub BandsAreStrict : DeviceSettings → Type 0
BandsAreStrict settings =
    (events : List Event) (moment major : ℕ) (prio next : Node (List Note)) (priomap : List ℕ) (p : Descriptor) → All IsEvent events → moment ≤ 2 ^ 62
    → qdisc major (device_after settings events) ≡ Some prio → prio.own.discipline ≡ Prio priomap
    → qdisc major (device_after settings (events ++ event.Poll moment ∷ [])) ≡ Some next → filter_map sent_in next.memory ≡ filter_map sent_in prio.memory ++ p ∷ []
    → GivesInOrder (device_after settings (events ++ event.Poll moment ∷ [])).clock prio p
