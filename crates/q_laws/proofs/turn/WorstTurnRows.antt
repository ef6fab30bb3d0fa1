-- The numbers of worst delays of classes of a drr, computed from the definitions for worked classes, and classes in worked trees.
use Rattle.std.proofs.Common.{◌≡◌, ℕ, List, [], ◌∷◌, ◌++◌, refl, Option}
use Rattle.std.specs.Prelude.{Some, None}
use Rattle.q_codel.specs.declared.limit.Limit.{Limit}
use Rattle.q_codel.specs.declared.limit.Limit.TheVariants.{Packets, Bytes}
use Rattle.q_model.specs.declared.command.Command.TheVariants.{QdiscAdd, ClassAdd}
use Rattle.q_model.specs.declared.event.Event.{Event}
use Rattle.q_model.specs.declared.event.Event.TheVariants.{Command}
use Rattle.q_model.specs.declared.kind.Kind.{Kind}
use Rattle.q_model.specs.declared.kind.Kind.TheVariants.{Bfifo, Drr, Prio, Tbf}
use Rattle.q_model.specs.declared.place.Place.{Place}
use Rattle.q_model.specs.declared.place.Place.TheVariants.{Root, Class}
use Rattle.q_model.specs.declared.tbf_limit.TbfLimit.TheVariants as limit
use Rattle.q_model.specs.Settings.{DeviceSettings}
use Rattle.q_tree.specs.declared.answers.ways.Link.{Link}
use Rattle.q_device.specs.declared.promises.worst.Worst.{Worst}
use Rattle.q_device.specs.promises.Worst.{worst_of, worst_in_turn}
use Rattle.q_device.specs.Sharing.{device_after}

-- ---- numbers

link : ℕ → ℕ → Option Link
link rate burst = Some (record { handle = 1; rate = rate; burst = burst })

timed : ℕ → ℕ → ℕ → Option Worst
timed bytes ns late = Some (record { bytes = bytes; ns = Some ns; late = Some late })

untimed : ℕ → Option Worst
untimed bytes = Some (record { bytes = bytes; ns = None; late = None })

-- a class of this quantum in a drr of so many classes with these quanta together
worst_at : ℕ → Option Link → ℕ → ℕ → ℕ → Limit → Option Worst
worst_at mtu link quantum quanta classes limit =
    worst_in_turn mtu (record { link = link; share = record { quantum = quantum; quanta = quanta; classes = classes }; limit = limit })

-- 3000 of 4500: a grant to the other class, its greatest deficit of 1500 + 1513, and a packet that the drr holds
customer : worst_at 1514 (link 20000000 1640) 3000 4500 2 (Bytes 1500) ≡ timed 7527 3010800 50399
unfolding worst_at link timed
customer = refl

-- a byte more than the quantum needs a second grant
second_grant : worst_at 1514 (link 20000000 1640) 3000 4500 2 (Bytes 3001) ≡ timed 10528 4211200 50399
unfolding worst_at link timed
second_grant = refl

small_quantum : worst_at 1514 (link 20000000 1640) 300 6300 3 (Bytes 1500) ≡ timed 42040 16816000 50399
unfolding worst_at link timed
small_quantum = refl

-- a drr at the root holds no packet
at_the_root : worst_at 1514 None 3000 4500 2 (Bytes 1500) ≡ untimed 6013
unfolding worst_at untimed
at_the_root = refl

-- a class alone waits for what the drr holds
alone : worst_at 1514 (link 20000000 1640) 3000 3000 1 (Bytes 1500) ≡ timed 3014 1205600 50399
unfolding worst_at link timed
alone = refl

-- packets count as longest ones
packets : worst_at 1500 (link 1000000 1640) 1500 3000 2 (Packets 2) ≡ timed 10499 83992000 1119999
unfolding worst_at link timed
packets = refl

many_bytes : worst_at 1514 None 1500 3000 2 (Bytes 8000000000) ≡ untimed 16000004013
unfolding worst_at untimed
many_bytes = refl

no_room : worst_at 1514 (link 20000000 1514) 3000 4500 2 (Bytes 1500) ≡ None
unfolding worst_at link
no_room = refl

too_late : worst_at 1514 (link 1 1640) 3000 4500 2 (Packets 4294967295) ≡ None
unfolding worst_at link
too_late = refl

most_bytes_alone : worst_at 1514 None 3000 3000 1 (Bytes 18446744073709551615) ≡ untimed 18446744073709551615
unfolding worst_at untimed
most_bytes_alone = refl

too_many : worst_at 1514 None 3000 4500 2 (Bytes 18446744073709551615) ≡ None
unfolding worst_at
too_many = refl

-- ---- places

settings : DeviceSettings
settings = record { mtu = 1514; txqueuelen = 1000; recorder = 4096 }

adds : Place → ℕ → Kind → Event
adds place handle kind = Command (QdiscAdd place (Some handle) kind) 0

class : ℕ → ℕ → Place
class major minor = Class (record { major = major; minor = minor })

adds_class : ℕ → ℕ → ℕ → Event
adds_class major minor quantum = Command (ClassAdd major (record { major = major; minor = minor }) (Some quantum)) 0

bands : Kind
bands = Prio (record { bands = 2; priomap = 1 ∷ 1 ∷ 1 ∷ 1 ∷ 1 ∷ 1 ∷ 0 ∷ 0 ∷ 1 ∷ 1 ∷ 1 ∷ 1 ∷ 1 ∷ 1 ∷ 1 ∷ 1 ∷ [] })

shaper : ℕ → Kind
shaper burst = Tbf 20000000 burst (limit.Bytes 100000)

worst : List Event → Place → Option Worst
worst events place = worst_of place 1514 (device_after settings events).tree.root

-- two classes, of which the last one has a bfifo
two_classes : ℕ → List Event
two_classes handle = adds_class handle 1 3000 ∷ adds_class handle 2 1500 ∷ adds (class handle 2) 9 (Bfifo (Some 1500)) ∷ []

-- below a tbf whose burst has room
shared : List Event
shared = adds Root 1 (shaper 1640) ∷ adds (class 1 1) 2 Drr ∷ two_classes 2

-- one grant, at most 3000 + 1513 left, and a packet that is held
last_class : worst shared (class 2 2) ≡ timed 10527 4210800 50399
unfolding worst shared settings adds class adds_class shaper two_classes timed
last_class = refl

-- an implicit pfifo of 1000 packets
first_class : worst shared (class 2 1) ≡ timed 2276027 910410800 50399
unfolding worst shared settings adds class adds_class shaper two_classes timed
first_class = refl

no_class : worst shared (class 2 3) ≡ None
unfolding worst shared settings adds class adds_class shaper two_classes
no_class = refl

the_drr_itself : worst shared (class 1 1) ≡ None
unfolding worst shared settings adds class adds_class shaper two_classes
the_drr_itself = refl

drr_at_the_root : worst (adds Root 2 Drr ∷ two_classes 2) (class 2 2) ≡ untimed 9013
unfolding worst settings adds class adds_class two_classes untimed
drr_at_the_root = refl

two_drrs : worst (adds Root 1 Drr ∷ adds_class 1 1 1514 ∷ adds (class 1 1) 2 Drr ∷ two_classes 2) (class 2 2) ≡ None
unfolding worst settings adds class adds_class two_classes
two_drrs = refl

behind_a_prio : worst (adds Root 1 bands ∷ adds (class 1 1) 2 Drr ∷ two_classes 2) (class 2 2) ≡ None
unfolding worst settings adds class adds_class two_classes bands
behind_a_prio = refl

tbf_in_the_class : worst (adds Root 2 Drr ∷ two_classes 2 ++ adds (class 2 1) 3 (shaper 1640) ∷ []) (class 3 1) ≡ None
unfolding worst settings adds class adds_class two_classes shaper
tbf_in_the_class = refl

-- beside this class, below the tbf at the root
second_tbf : worst (shared ++ adds (class 2 1) 3 (shaper 1640) ∷ []) (class 2 2) ≡ None
unfolding worst shared settings adds class adds_class two_classes shaper
second_tbf = refl

-- beside it where a drr is at the root: what is sent is bounded, and no time is told
tbf_beside : worst (adds Root 2 Drr ∷ two_classes 2 ++ adds (class 2 1) 3 (shaper 1640) ∷ []) (class 2 2) ≡ untimed 9013
unfolding worst settings adds class adds_class two_classes shaper untimed
tbf_beside = refl

burst_without_room : worst (adds Root 1 (shaper 1514) ∷ adds (class 1 1) 2 Drr ∷ two_classes 2) (class 2 2) ≡ None
unfolding worst settings adds class adds_class two_classes shaper
burst_without_room = refl
