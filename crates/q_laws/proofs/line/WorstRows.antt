-- The numbers of worst delays, computed from the definitions for worked fifos, and fifos that are in line in worked trees.
use Rattle.std.proofs.Common.{◌≡◌, ℕ, List, [], ◌∷◌, refl, Option}
use Rattle.std.specs.Prelude.{Some, None}
use Rattle.q_codel.specs.declared.limit.Limit.TheVariants.{Packets, Bytes}
use Rattle.q_model.specs.declared.command.Command.TheVariants.{QdiscAdd}
use Rattle.q_model.specs.declared.event.Event.{Event}
use Rattle.q_model.specs.declared.event.Event.TheVariants.{Command}
use Rattle.q_model.specs.declared.kind.Kind.{Kind}
use Rattle.q_model.specs.declared.kind.Kind.TheVariants.{Bfifo, Prio, Tbf}
use Rattle.q_model.specs.declared.place.Place.{Place}
use Rattle.q_model.specs.declared.place.Place.TheVariants.{Top, Root, Class}
use Rattle.q_model.specs.declared.tbf_limit.TbfLimit.TheVariants as limit
use Rattle.q_model.specs.Settings.{DeviceSettings}
use Rattle.q_tree.specs.declared.answers.ways.Link.{Link}
use Rattle.q_device.specs.declared.promises.worst.Worst.{Worst}
use Rattle.q_device.specs.promises.Worst.{worst_of, worst_on}
use Rattle.q_device.specs.Sharing.{device_after}

-- ---- numbers

link : ℕ → ℕ → Option Link
link rate burst = Some (record { handle = 1; rate = rate; burst = burst })

timed : ℕ → ℕ → ℕ → Option Worst
timed bytes ns late = Some (record { bytes = bytes; ns = Some ns; late = Some late })

-- 8 Mbit/s, a burst of 10,000 bytes and a latency of 10 ms: a limit of 20,000 bytes
full_queue : worst_on 1514 (record { link = link 8000000 10000; limit = Bytes 20000 }) ≡ timed 20000 20000000 8485999
unfolding link timed
full_queue = refl

voice : worst_on 1514 (record { link = link 20000000 1640; limit = Bytes 3000 }) ≡ timed 3000 1200000 50399
unfolding link timed
voice = refl

-- two thirds of a nanosecond more are a whole one
rounded_up : worst_on 1514 (record { link = link 3000000 1515; limit = Bytes 1000000 }) ≡ timed 1000000 2666666667 2665
unfolding link timed
rounded_up = refl

-- packets count as longest ones
packets : worst_on 1500 (record { link = link 1000000 1640; limit = Packets 2 }) ≡ timed 3000 24000000 1119999
unfolding link timed
packets = refl

without_a_tbf : worst_on 1514 (record { link = None; limit = Packets 1000 }) ≡ Some (record { bytes = 1514000; ns = None; late = None })
without_a_tbf = refl

no_room : worst_on 1514 (record { link = link 20000000 1514; limit = Bytes 3000 }) ≡ None
unfolding link
no_room = refl

too_late : worst_on 1514 (record { link = link 1 1640; limit = Packets 4294967295 }) ≡ None
unfolding link
too_late = refl

too_many : worst_on 1514 (record { link = None; limit = Packets 18446744073709551615 }) ≡ None
too_many = refl

-- ---- places

settings : DeviceSettings
settings = record { mtu = 1514; txqueuelen = 1000; recorder = 4096 }

adds : Place → ℕ → Kind → Event
adds place handle kind = Command (QdiscAdd place (Some handle) kind) 0

class : ℕ → ℕ → Place
class major minor = Class (record { major = major; minor = minor })

bands : Kind
bands = Prio (record { bands = 2; priomap = 1 ∷ 1 ∷ 1 ∷ 1 ∷ 1 ∷ 1 ∷ 0 ∷ 0 ∷ 1 ∷ 1 ∷ 1 ∷ 1 ∷ 1 ∷ 1 ∷ 1 ∷ 1 ∷ [] })

shaper : Kind
shaper = Tbf 20000000 1640 (limit.Bytes 100000)

worst : List Event → Place → Option Worst
worst events place = worst_of place 1514 (device_after settings events).tree.root

-- voice before data, below a tbf
voice_first : List Event
voice_first = adds Root 1 shaper ∷ adds (class 1 1) 2 bands ∷ adds (class 2 1) 3 (Bfifo (Some 3000)) ∷ []

first_band : worst voice_first (class 2 1) ≡ timed 3000 1200000 50399
unfolding worst voice_first settings adds class bands shaper timed
first_band = refl

second_band : worst voice_first (class 2 2) ≡ None
unfolding worst voice_first settings adds class bands shaper
second_band = refl

no_fifo : worst voice_first (class 1 1) ≡ None
unfolding worst voice_first settings adds class bands shaper
no_fifo = refl

tbf_alone : worst (adds Root 1 shaper ∷ []) (class 1 1) ≡ timed 100000 40000000 50399
unfolding worst settings adds class shaper timed
tbf_alone = refl

second_tbf : worst (adds Root 1 bands ∷ adds (class 1 2) 2 shaper ∷ []) (class 1 1) ≡ None
unfolding worst settings adds class bands shaper
second_tbf = refl

new_device : worst [] Root ≡ Some (record { bytes = 1514000; ns = None; late = None })
unfolding worst settings
new_device = refl

no_place : worst [] Top ≡ None
unfolding worst settings
no_place = refl
