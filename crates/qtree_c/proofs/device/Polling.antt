-- Polls into lent places, with the numbers that C has.
use Rattle.std.proofs.Common.{◌≡◌, ℕ, zero, suc, ◌+◌, ◌<◌, ◌≤◌, List, refl, sym, ap, subst, ◌∙◌, arith, Option, Some, None}
use Rattle.std.specs.Prelude.{length, max}
use Rattle.q_packet.specs.Descriptor.{Descriptor}
use Rattle.q_model.specs.Step.{counts_at}
use Rattle.q_model.specs.declared.event.Event.TheVariants.{Poll}
use Rattle.q_model.specs.declared.polled.Polled.{Polled}
use Rattle.q_model.specs.declared.polled.Polled.TheVariants as polled
use Rattle.q_device.specs.declared.given.Given.{Given}
use Rattle.q_device.specs.declared.given.Given.TheVariants as given
use Rattle.q_device.specs.device.Bursts as bursts
use Rattle.q_device.specs.device.Bursts.{given_as, polled_as}
use Rattle.q_device.specs.device.DeviceSeen.{DeviceSeen}
use Rattle.q_device.specs.device.Polls.{after_poll, and_then, given_at, given_by, or_last, polled_by}
use Rattle.q_device.specs.Events.{after_event, reply_to}
use Rattle.q_device.proofs.Polling.{idle-gives_none, later-gives_none}
use Rattle.qtree_c.specs.abi.Codes.{polled_number, reply_number}
use Rattle.qtree_c.specs.device.Folds.{IsPolls, answer_by}

-- ---- the numbers

abbrev pub given_number : Given → ℕ
given_number given.Packet = 0
given_number given.Idle = 30
given_number given.Later = 31

polled-numbers : (p : Polled) → given_number (polled_as p) ≡ polled_number p
polled-numbers (polled.Packet p) = refl
polled-numbers polled.Idle = refl
polled-numbers polled.Later = refl

reply-numbers : (now : ℕ) (d : DeviceSeen) → given_number (given_as (reply_to (Poll now) d)) ≡ reply_number (reply_to (Poll now) d)
unfolding reply_to
reply-numbers now d = polled-numbers _

last-number : (g : Option Descriptor) (a b : Given) (m n : ℕ) → given_number a ≡ m → given_number b ≡ n → given_number (or_last g a b) ≡ or_last g m n
last-number (Some p) a b m n last rest = rest
last-number None a b m n last rest = last

answer-numbers : (n now : ℕ) (d : DeviceSeen) → given_number (bursts.answer_by n now d) ≡ answer_by n now d
answer-numbers zero now d = refl
answer-numbers (suc n) now d = last-number (given_at now d) _ _ _ _ (reply-numbers now d) (answer-numbers n now (after_poll now d))

pub polls-are : {A : Type 0} (told : Descriptor → A) (now : ℕ) (answer : Given) (count : ℕ) (before after : List A) (d n : DeviceSeen) → bursts.IsPolls told now answer count before after d n
    → IsPolls told now (given_number answer) count before after d n
polls-are told now answer count before after d n h = record {
  polled = h.polled;
  answer = ap given_number h.answered ∙ answer-numbers (length before) now d;
  given = h.given;
  packets = h.packets;
}

-- where this is the answer
pub polls-with : {A : Type 0} (told : Descriptor → A) (now : ℕ) (count : ℕ) (before after : List A) (d n : DeviceSeen) (x answer : Given) → x ≡ answer
    → bursts.IsPolls told now x count before after d n
    → bursts.IsPolls told now answer count before after d n
polls-with told now count before after d n x answer is h = subst (λ (a : Given). bursts.IsPolls told now a count before after d n) is h

-- ---- how many, and when

-- where the last gave none, fewer packets were given than there were polls
less-by : (g : Option Descriptor) (n : ℕ) (a b : Given) (rest : List Descriptor) → (or_last g a b ≡ given.Packet → ⊥) → ((b ≡ given.Packet → ⊥) → length rest < n) → length (and_then g rest) < suc n
less-by (Some p) n a b rest none more = omega (arith, more none)
less-by None n a b rest none more = omega arith

given-less : (n now : ℕ) (d : DeviceSeen) → (bursts.answer_by n now d ≡ given.Packet → ⊥) → length (given_by n now d) < n
given-less zero now d none = absurd (none refl)
given-less (suc n) now d none = less-by (given_at now d) n _ _ (given_by n now (after_poll now d)) none (given-less n now (after_poll now d))

once-clock : (now : ℕ) (d : DeviceSeen) → (after_poll now d).device.clock ≡ counts_at now d.device
unfolding after_poll after_event
once-clock now d = refl

last-clock : (g : Option Descriptor) (a b : DeviceSeen) (t : ℕ) → a.device.clock ≡ t → b.device.clock ≡ t → (or_last g a b).device.clock ≡ t
last-clock (Some p) a b t last rest = rest
last-clock None a b t last rest = last

-- the time at which the last of them counted
polled-clock : (n now : ℕ) (d : DeviceSeen) → (polled_by (suc n) now d).device.clock ≡ counts_at now d.device
polled-clock zero now d = last-clock (given_at now d) (after_poll now d) (after_poll now d) (counts_at now d.device) (once-clock now d) (once-clock now d)
polled-clock (suc n) now d =
    let first : (after_poll now d).device.clock ≡ max d.device.clock now = once-clock now d in
    last-clock (given_at now d) (after_poll now d) (polled_by (suc n) now (after_poll now d)) (counts_at now d.device) first (polled-clock n now (after_poll now d) ∙ omega (arith, first))

some-polled : (n now : ℕ) (d : DeviceSeen) → 1 ≤ n → (polled_by n now d).device.clock ≡ counts_at now d.device
some-polled zero now d some = absurd (omega (arith, some))
some-polled (suc n) now d some = polled-clock n now d

none-given : (n now : ℕ) (d : DeviceSeen) → 1 ≤ length (given_by n now d) → 1 ≤ n
none-given zero now d some = absurd (omega (arith, some))
none-given (suc n) now d some = omega arith

module _ {A : Type 0} (told : Descriptor → A) (now : ℕ) (count : ℕ) (before after : List A) (d n : DeviceSeen) where
  pub packets-clock : bursts.IsPolls told now given.Packet count before after d n → 1 ≤ count → n.device.clock ≡ counts_at now d.device
  packets-clock h some = ap (λ (x : DeviceSeen). x.device.clock) h.polled ∙ some-polled (length before) now d (none-given (length before) now d (omega (arith, some, h.given)))

  pub none-less : (answer : Given) → (answer ≡ given.Packet → ⊥) → bursts.IsPolls told now answer count before after d n → count < length before
  none-less answer none h = omega (arith, h.given, given-less (length before) now d (λ e. none (h.answered ∙ e)))

  pub none-clock : (answer : Given) → (answer ≡ given.Packet → ⊥) → bursts.IsPolls told now answer count before after d n → n.device.clock ≡ counts_at now d.device
  none-clock answer none h = ap (λ (x : DeviceSeen). x.device.clock) h.polled ∙ some-polled (length before) now d (omega (arith, none-less answer none h))
