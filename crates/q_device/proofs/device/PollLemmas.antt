-- Polls, one by one.
use Rattle.std.proofs.Common.{◌≡◌, ℕ, suc, [], ◌∷◌, sym, ap, ◌∙◌, Option, Some, None}
use Rattle.q_packet.specs.Descriptor.{Descriptor}
use Rattle.q_model.specs.declared.event.Event.TheVariants.{Poll}
use Rattle.q_device.specs.device.DeviceSeen.{DeviceSeen, Memory, polled_memory}
use Rattle.q_device.specs.device.Polls.{after_poll, and_then, given_at, given_by, or_last, polled_by}
use Rattle.q_device.specs.Events.{after_event, with_memory}

-- what a poll's two clauses say together
pub poll-is : (now : ℕ) (d d' : DeviceSeen) → d' ≡ with_memory d'.memory (after_event (Poll now) d) → d'.memory ≡ polled_memory d'.device.clock d.memory → d' ≡ after_poll now d
unfolding after_poll
poll-is now d d' event memory =
    event
    ∙ ap (λ (m : Memory). with_memory m (after_event (Poll now) d)) (memory ∙ ap (λ (x : DeviceSeen). polled_memory x.device.clock d.memory) event)

-- a poll that gave a packet
pub given-more : (n now : ℕ) (d d' : DeviceSeen) (p : Descriptor) → given_at now d ≡ Some p → d' ≡ after_poll now d → given_by (suc n) now d ≡ p ∷ given_by n now d'
given-more n now d d' p gives is =
    ap (λ (o : Option Descriptor). and_then o (given_by n now (after_poll now d))) gives ∙ ap (λ (x : DeviceSeen). p ∷ given_by n now x) (sym is)

pub polled-more : (n now : ℕ) (d d' : DeviceSeen) (p : Descriptor) → given_at now d ≡ Some p → d' ≡ after_poll now d → polled_by (suc n) now d ≡ polled_by n now d'
polled-more n now d d' p gives is =
    ap (λ (o : Option Descriptor). or_last o (after_poll now d) (polled_by n now (after_poll now d))) gives ∙ ap (λ (x : DeviceSeen). polled_by n now x) (sym is)

-- a poll that gave none
pub given-none : (n now : ℕ) (d : DeviceSeen) → given_at now d ≡ None → given_by (suc n) now d ≡ []
given-none n now d none = ap (λ (o : Option Descriptor). and_then o (given_by n now (after_poll now d))) none

pub polled-none : (n now : ℕ) (d : DeviceSeen) → given_at now d ≡ None → polled_by (suc n) now d ≡ after_poll now d
polled-none n now d none = ap (λ (o : Option Descriptor). or_last o (after_poll now d) (polled_by n now (after_poll now d))) none
