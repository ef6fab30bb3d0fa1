-- The numbers of delay, computed from the definitions for worked links, lines and classes.
use Rattle.std.proofs.Common.{◌≡◌, ℕ, List, [], ◌∷◌, map, refl}
use Rattle.std.specs.Prelude.{Some}
use Rattle.q_packet.specs.Descriptor.{Descriptor}
use Rattle.q_packet.specs.declared.ecn.Ecn.TheVariants.{NotEct}
use Rattle.q_drr.specs.Schedule.{Class, Entry}
use Rattle.q_drr.specs.Waiting.{bytes_of_turn}
use Rattle.q_model.specs.declared.command.Command.TheVariants.{QdiscAdd}
use Rattle.q_model.specs.declared.event.Event.{Event}
use Rattle.q_model.specs.declared.event.Event.TheVariants.{Arrive, Poll, Command}
use Rattle.q_model.specs.declared.kind.Kind.TheVariants.{Prio}
use Rattle.q_model.specs.declared.place.Place.TheVariants.{Root}
use Rattle.q_model.specs.Settings.{DeviceSettings}
use Rattle.q_device.specs.Sharing.{device_after}
use Rattle.q_laws.specs.line.Line.{line_at_root}
use Rattle.q_laws.specs.rate.Delay.{latest, level_counted}

-- ---- time: 20 Mbit/s, with an empty bucket, with 1000 bytes, and with all that is to be paid

voice_empty : latest 0 20000000 0 3000 ≡ 1200000
voice_empty = refl

voice_level : latest 0 20000000 8000000000000 3000 ≡ 800000
voice_level = refl

voice_at_once : latest 7 20000000 24000000000000 3000 ≡ 7
voice_at_once = refl

-- 8 Mbit/s, a burst of 10,000 bytes and a latency of 10 ms: a limit of 20,000 bytes
full_queue : latest 0 8000000 0 20000 ≡ 20000000
full_queue = refl

-- a third of a nanosecond more is a whole one
rounded_up : latest 5 3 0 1 ≡ 2666666672
rounded_up = refl

-- a full bucket of 1640 bytes counts as 1515 where polls may be 50 microseconds late
late_poll : level_counted 50000 20000000 1640 13120000000000 ≡ 12120000000000
late_poll = refl

never_late : level_counted 0 20000000 1640 13120000000000 ≡ 13120000000000
never_late = refl

-- ---- classes: 3000 and 1500, of which the first has 6000 bytes queued

both : List Class
both = record { name = 1; quantum = 3000 } ∷ record { name = 2; quantum = 1500 } ∷ []

entry : ℕ → ℕ → Entry
entry class deficit = record { class = class; deficit = deficit; granted = 0 }

first_in_front : bytes_of_turn 1 3000 both (entry 1 3000 ∷ entry 2 1500 ∷ []) 6000 ≡ 7500
unfolding both entry
first_in_front = refl

second_in_front : bytes_of_turn 1 3000 both (entry 2 1500 ∷ entry 1 3000 ∷ []) 6000 ≡ 9000
unfolding both entry
second_in_front = refl

above_a_quantum : bytes_of_turn 1 3000 both (entry 1 3000 ∷ entry 2 1700 ∷ []) 6000 ≡ 7700
unfolding both entry
above_a_quantum = refl

within_the_deficit : bytes_of_turn 1 3000 both (entry 1 3000 ∷ []) 3000 ≡ 3000
unfolding both entry
within_the_deficit = refl

one_byte_more : bytes_of_turn 1 3000 both (entry 1 3000 ∷ []) 3001 ≡ 4501
unfolding both entry
one_byte_more = refl

-- ---- lines

settings : DeviceSettings
settings = record { mtu = 1514; txqueuelen = 1000; recorder = 4096 }

-- a packet of this priority and length, which it has as its number too
arrives : ℕ → ℕ → Event
arrives prio len =
    Arrive (record { port = 0; number = len; buf = 0; len = len; key = record { family = 0; proto = 0; src = 0; dst = 0; sport = 0; dport = 0 }; hash = 0; prio = prio; ecn = NotEct }) 0

-- priority 6 goes to the first of three bands, priority 0 to the second
bands : Event
bands = Command (QdiscAdd Root (Some 1) (Prio (record { bands = 3; priomap = 1 ∷ 2 ∷ 2 ∷ 2 ∷ 1 ∷ 2 ∷ 0 ∷ 0 ∷ 1 ∷ 1 ∷ 1 ∷ 1 ∷ 1 ∷ 1 ∷ 1 ∷ 1 ∷ [] }))) 0

in_line : List Event → List ℕ
in_line events = map (λ (p : Descriptor). p.len) (line_at_root (device_after settings events))

first_band_in_line : in_line (bands ∷ arrives 0 900 ∷ arrives 6 100 ∷ arrives 6 200 ∷ []) ≡ 100 ∷ 200 ∷ []
unfolding in_line settings arrives bands
first_band_in_line = refl

after_a_poll : in_line (bands ∷ arrives 0 900 ∷ arrives 6 100 ∷ arrives 6 200 ∷ Poll 0 ∷ arrives 0 300 ∷ []) ≡ 200 ∷ []
unfolding in_line settings arrives bands
after_a_poll = refl

fifo_in_line : in_line (arrives 0 900 ∷ arrives 6 100 ∷ []) ≡ 900 ∷ 100 ∷ []
unfolding in_line settings arrives bands
fifo_in_line = refl
