-- The most bytes of the turns of drrs below one another, computed from the definition for worked classes, and a play that meets them.
use Rattle.std.proofs.Common.{◌≡◌, ℕ, List, [], ◌∷◌, ◌++◌, map, refl}
use Rattle.std.specs.Prelude.{Some, None}
use Rattle.std.specs.List.{filter_map}
use Rattle.q_packet.specs.Descriptor.{Descriptor}
use Rattle.q_packet.specs.declared.ecn.Ecn.TheVariants.{NotEct}
use Rattle.q_drr.specs.Take.{grants_for}
use Rattle.q_model.specs.declared.class_id.ClassId.{ClassId}
use Rattle.q_model.specs.declared.command.Command.TheVariants.{QdiscAdd, ClassAdd, ClassChange, ClassDel, FilterAdd, FilterDel}
use Rattle.q_model.specs.declared.event.Event.{Event}
use Rattle.q_model.specs.declared.event.Event.TheVariants.{Arrive, Poll, Command}
use Rattle.q_model.specs.declared.kind.Kind.TheVariants.{Drr}
use Rattle.q_model.specs.declared.place.Place.TheVariants.{Root, Class}
use Rattle.q_model.specs.declared.protocol.Protocol.TheVariants as protocol
use Rattle.q_model.specs.Settings.{DeviceSettings}
use Rattle.q_tree.specs.declared.answers.ways.Share.{Share}
use Rattle.q_device.specs.Laws.{given_in}
use Rattle.q_device.specs.Sharing.{device_after}
use Rattle.q_laws.specs.line.Line.{bytes_in}
use Rattle.q_laws.specs.nested.NestedTurn.{most_of_turns}
use Rattle.q_laws.specs.order.Order.{answers}
use Rattle.q_laws.specs.turn.FifoTurn.{class_line}

share : ℕ → ℕ → ℕ → Share
share quantum quanta classes = record { quantum = quantum; quanta = quanta; classes = classes }

-- 1514 of 3028 below 3000 of 4500: a turn of 1500 bytes is 6041 in the inner drr, which may hold 1514; so the class of the outer one needs three
-- grants for 7555, and the other class has a deficit of 1500 + 1513 at most
customer : most_of_turns 1514 1500 (share 3000 4500 2) (share 1514 3028 2 ∷ []) ≡ 15068
unfolding share
customer = refl

-- a byte more than the inner quantum needs a second grant there, and a fourth in the outer drr
second_grant : most_of_turns 1514 1515 (share 3000 4500 2) (share 1514 3028 2 ∷ []) ≡ 18097
unfolding share
second_grant = refl

-- a class alone in its drr waits for the packet that the drr holds
alone_within : most_of_turns 1514 1500 (share 3000 4500 2) (share 1514 1514 1 ∷ []) ≡ 9027
unfolding share
alone_within = refl

alone_outside : most_of_turns 1514 1500 (share 3000 3000 1) (share 1514 3028 2 ∷ []) ≡ 7555
unfolding share
alone_outside = refl

alone : most_of_turns 1514 1500 (share 3000 3000 1) (share 1514 1514 1 ∷ []) ≡ 3014
unfolding share
alone = refl

-- one drr alone, and three below one another
one_drr : most_of_turns 1514 1500 (share 3000 4500 2) [] ≡ 6013
unfolding share
one_drr = refl

three_drrs : most_of_turns 1514 1500 (share 1514 6056 4) (share 3000 4500 2 ∷ share 1514 3028 2 ∷ []) ≡ 75625
unfolding share
three_drrs = refl

-- ---- a play that meets the bound

settings : DeviceSettings
settings = record { mtu = 1; txqueuelen = 1000; recorder = 4096 }

-- the n-th packet, of one byte, for these classes of the outer and the inner drr
arrives : ℕ → ℕ → ℕ → Event
arrives outer inner n =
    Arrive (record {
      port = 0;
      number = n;
      buf = n;
      len = 1;
      key = record { family = 0; proto = 0; src = 0; dst = 0; sport = inner; dport = outer };
      hash = n;
      prio = 0;
      ecn = NotEct;
    }) 0

class : ℕ → ℕ → ClassId
class major minor = record { major = major; minor = minor }

adds_class : ℕ → ℕ → Event
adds_class major minor = Command (ClassAdd major (class major minor) (Some 1)) 0

-- the filters of the outer drr go by one port, those of the inner one by the other
outer_filter : ℕ → Event
outer_filter minor =
    Command (FilterAdd 1 1 (record { prio = minor; protocol = protocol.All; keys = record { ip_proto = None; src_ip = None; dst_ip = None; src_port = None; dst_port = Some minor }; minor = minor })) 0

inner_filter : ℕ → Event
inner_filter minor =
    Command (FilterAdd 2 2 (record { prio = minor; protocol = protocol.All; keys = record { ip_proto = None; src_ip = None; dst_ip = None; src_port = Some minor; dst_port = None }; minor = minor })) 0

drrs : List Event
drrs =
    Command (QdiscAdd Root (Some 1) Drr) 0 ∷ adds_class 1 1 ∷ adds_class 1 2 ∷ adds_class 1 3 ∷ Command (QdiscAdd (Class (class 1 1)) (Some 2) Drr) 0
    ∷ adds_class 2 1 ∷ adds_class 2 2 ∷ adds_class 2 3 ∷ outer_filter 1 ∷ outer_filter 2 ∷ outer_filter 3 ∷ inner_filter 1 ∷ inner_filter 2 ∷ inner_filter 3 ∷ []

eight_polls : List Event
eight_polls = Poll 0 ∷ Poll 0 ∷ Poll 0 ∷ Poll 0 ∷ Poll 0 ∷ Poll 0 ∷ Poll 0 ∷ Poll 0 ∷ []

-- Class 2:1 has given one packet, and was asked a second time: the inner drr holds the packet of class 2:2. Then the two classes go that gave
-- meanwhile, and the quanta of 1:1 and 2:1 rise, so that both have less than one and wait behind the other class of their drr.
waiting : List Event
waiting =
    drrs ++ arrives 1 1 1 ∷ arrives 1 1 2 ∷ arrives 1 1 3 ∷ arrives 1 2 4 ∷ arrives 1 3 5 ∷ arrives 1 3 6 ∷ arrives 2 0 7 ∷ arrives 3 0 8 ∷ arrives 3 0 9
    ∷ arrives 3 0 10 ∷ Poll 0 ∷ Poll 0 ∷ Command (FilterDel 1 2) 0 ∷ Command (ClassDel (Some 1) (class 1 2)) 0 ∷ Command (FilterDel 2 2) 0
    ∷ Command (ClassDel (Some 2) (class 2 2)) 0 ∷ Command (ClassChange (Some 1) (class 1 1) (Some 3)) 0 ∷ Command (ClassChange (Some 2) (class 2 1) (Some 2)) 0 ∷ []

-- two bytes are queued in class 2:1, the packets 2 and 3
queued : bytes_in (class_line 2 1 (device_after settings waiting)) ≡ 2
unfolding settings arrives class adds_class outer_filter inner_filter drrs waiting grants_for
queued = refl

-- a turn of two bytes is 4 in the inner drr, which holds one; and so of five bytes 8 in the outer one
two_bytes : most_of_turns 1 2 (share 3 4 2) (share 2 3 2 ∷ []) ≡ 8
unfolding share
two_bytes = refl

-- the last of them is the eighth packet that leaves
leaves_last : map (λ (p : Descriptor). p.number) (filter_map given_in (answers (device_after settings waiting) eight_polls)) ≡ 8 ∷ 4 ∷ 9 ∷ 5 ∷ 2 ∷ 6 ∷ 10 ∷ 3 ∷ []
unfolding settings arrives class adds_class outer_filter inner_filter drrs waiting eight_polls grants_for
leaves_last = refl
