-- What is true of the order of packets over every interval of every replay: those of one flow leave in the order in which they came.
-- RFC 3550 and RFC 4737 say what reordering costs a receiver; tc-pfifo(8), and RFC 8290, section 4.1, whose flows are queues of their own.
use Rattle.std.specs.Prelude.{◌≡◌, Bool, true, false, ◌&&◌, ◌==◌, ◌⊎◌, List, [], ◌∷◌, All, filter, Ok, Err}
use Rattle.std.specs.List.{filter_map}
use Rattle.q_packet.specs.Descriptor.{Descriptor}
use Rattle.q_packet.specs.Key.{Key}
use Rattle.q_model.specs.declared.event.Event.{Event}
use Rattle.q_model.specs.declared.reply.Reply.{Reply}
use Rattle.q_model.specs.declared.reply.Reply.TheVariants as reply
use Rattle.q_model.specs.Beneath.{beneath}
use Rattle.q_model.specs.Conserved.{unmarked}
use Rattle.q_model.specs.Events.{IsEvent}
use Rattle.q_model.specs.Settings.{DeviceSettings}
use Rattle.q_model.specs.Step.{DeviceState, step}
use Rattle.q_model.specs.Tally.{Note, history}
use Rattle.q_device.specs.Laws.{brought, given_in}
use Rattle.q_device.specs.Sharing.{device_after}

-- ---- packets of one flow

abbrev pub same_key : Key → Key → Bool
same_key a b = (a.family == b.family) && (a.proto == b.proto) && (a.src == b.src) && (a.dst == b.dst) && (a.sport == b.sport) && (a.dport == b.dport)

-- equal key, hash and priority: all that filters, bands, classes and flows read
abbrev pub is_alike : Descriptor → Descriptor → Bool
is_alike p q = same_key p.key q.key && (p.hash == q.hash) && (p.prio == q.prio)

-- those of these packets that are of the flow of p, in order, but for the codepoint that a mark sets
abbrev pub flow_among : Descriptor → List Descriptor → List Descriptor
flow_among p packets = unmarked (filter (is_alike p) packets)

-- ---- a part of a list, in its order

abbrev pub IsPartOf : {A : Type 0} → List A → List A → Type 0
IsPartOf [] ys = Unit {0}
IsPartOf (x ∷ xs) [] = ⊥
IsPartOf (x ∷ xs) (y ∷ ys) = ((x ≡ y) × IsPartOf xs ys) ⊎ IsPartOf (x ∷ xs) ys

-- ---- an interval

-- what the events are answered, from this device on
abbrev pub answers : DeviceState (List Note) → List Event → List Reply
answers d [] = []
answers d (e ∷ events) = let s = step history d e in s.reply ∷ answers s.device events

abbrev pub is_done : Reply → Bool
is_done (reply.Done (Ok done)) = true
is_done (reply.Done (Err refusal)) = false
is_done (reply.Polled polled) = false
is_done (reply.Fate fate) = false

-- no command is accepted; a refused one changes nothing
abbrev pub NoCommandIsDone : DeviceState (List Note) → List Event → Type 0
NoCommandIsDone d events = All (λ (r : Reply). is_done r ≡ false) (answers d events)

-- Over an interval in which no command is accepted, and at whose start no packet of the flow is queued, at any node: those that polls
-- give are a part of those that arrive, in the same order.
abbrev pub FlowsKeepOrder : DeviceSettings → Type 0
FlowsKeepOrder settings =
    (before during : List Event) (p : Descriptor) → All IsEvent before → All IsEvent during
    → NoCommandIsDone (device_after settings before) during
    → flow_among p (beneath (device_after settings before).tree.root) ≡ []
    → IsPartOf (flow_among p (filter_map given_in (answers (device_after settings before) during))) (flow_among p (filter_map brought during))
