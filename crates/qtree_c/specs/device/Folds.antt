-- What calls in a row do: each is the single call, up to the first that stops them.
-- The calls are this project's own.
use Rattle.std.specs.Prelude.{◌≡◌, ◌≢◌, ℕ, zero, suc, ◌+◌, ◌<◌, ◌≤◌, List, [], ◌∷◌, ◌++◌, All, map, take, drop, length, slice_index_or}
use Rattle.q_model.specs.declared.event.Event.TheVariants.{Poll}
use Rattle.q_packet.specs.Descriptor.{Descriptor}
use Rattle.q_device.specs.device.Bursts.{StopsAtNext, arrival, arrived_by}
use Rattle.q_device.specs.device.DeviceSeen.{DeviceSeen}
use Rattle.q_device.specs.device.Polls.{after_poll, given_at, given_by, or_last, polled_by}
use Rattle.q_device.specs.Events.{after_event, reply_to, with_memory}
use Rattle.qtree_c.specs.abi.Codes.{reply_number}
use Rattle.q_device.specs.device.Room.{KeepsPlaces}
use Rattle.qtree_c.specs.abi.Structs.{IsPacket, loss_of, zero_packet}
use Rattle.qtree_c.specs.declared.abi.c_loss.CLoss.{CLoss}
use Rattle.q_packet.specs.declared.stored_packet.StoredPacket.{StoredPacket}

-- ---- polls

-- the answer to the last of so many polls at most
abbrev pub answer_by : ℕ → ℕ → DeviceSeen → ℕ
answer_by zero now d = 0
answer_by (suc n) now d = or_last (given_at now d) (reply_number (reply_to (Poll now) d)) (answer_by n now (after_poll now d))

-- Polls into lent places, in each of which this is reported of a packet. Those behind the last packet stay as they were; the polls take no
-- memory.
pub record IsPolls {A : Type 0} (told : Descriptor → A) (now code count : ℕ) (before after : List A) (d n : DeviceSeen) : Type 0 where
  pub polled : n ≡ polled_by (length before) now d
  pub answer : code ≡ answer_by (length before) now d
  pub given : count ≡ length (given_by (length before) now d)
  pub packets : after ≡ map told (given_by (length before) now d) ++ drop count before

-- ---- arrivals

-- the number of the fate of each of these packets, where they arrive in order
abbrev pub fates_by : ℕ → List StoredPacket → DeviceSeen → List ℕ
fates_by now [] d = []
fates_by now (c ∷ cs) d = reply_number (reply_to (arrival now c) d) ∷ fates_by now cs (after_event (arrival now c) d)

-- The first packets arrived, to the end, or to one that is out of its range (42) or for which an allocation fails (90). What
-- is behind the numbers of their fates stays as it was.
pub record IsArrivals (now : ℕ) (packets : List StoredPacket) (code done : ℕ) (before after : List ℕ) (d n : DeviceSeen) : Type 0 where
  pub arrived : n ≡ with_memory n.memory (arrived_by now (take done packets) d)
  pub fates : after ≡ fates_by now (take done packets) d ++ drop done before
  pub in_range : All IsPacket (take done packets)
  pub most : done ≤ length packets
  pub all : code ≡ 0 → done ≡ length packets
  pub stopped : code ≢ 0 → done < length packets
  pub out_of_range : code ≢ 0 → code ≢ 42 → code ≡ 90
  pub next : code ≡ 42 → IsPacket (slice_index_or packets done zero_packet) → ⊥
  pub next_in_range : code ≡ 90 → IsPacket (slice_index_or packets done zero_packet)
  pub full : code ≡ 90 → StopsAtNext now (take done packets) (slice_index_or packets done zero_packet) d n
  pub places : KeepsPlaces d n

-- ---- losses

-- the oldest losses are handed out, as many as wait or as there are places; those that stay behind are as they were
pub record IsReaps (code count : ℕ) (before after : List CLoss) (d n : DeviceSeen) : Type 0 where
  pub most : count ≤ length d.waiting
  pub losses : after ≡ map loss_of (take count d.waiting) ++ drop count before
  pub rest : n ≡ record d { waiting = drop count d.waiting; handed_out = d.handed_out + count }
  pub all : code ≡ 0 → count ≡ length before
  pub none_left : code ≢ 0 → (code ≡ 32) × (count < length before) × (count ≡ length d.waiting)
