-- The longest that a packet waits in a fifo whose packets no other packet passes, or in the fifo of a class of a drr, in numbers that a program
-- can read: how many bytes leave until it has left, from the limit of the fifo (tc-pfifo(8), tc-bfifo(8)) and the quanta (tc-drr(8)), and in
-- which time a tbf at the root pays for so many (tc-tbf(8)). q_laws proves that each packet that the fifo keeps leaves so.
use Rattle.std.specs.Prelude.{ℕ, ◌+◌, ◌-◌, ◌*◌, ◌^◌, max, nat_lt, nat_le, ◌&&◌, if◌then◌else◌, Option, Some, None, option_and_then}
use Rattle.std.specs.Int.{div_ceil}
use Rattle.std.specs.Option.{option_map_or}
use Rattle.q_codel.specs.declared.limit.Limit.{Limit}
use Rattle.q_codel.specs.declared.limit.Limit.TheVariants.{Packets, Bytes}
use Rattle.q_bucket.specs.Level.{units_in_byte}
use Rattle.q_model.specs.declared.place.Place.{Place}
use Rattle.q_model.specs.Node.{Node}
use Rattle.q_tree.specs.declared.answers.lanes.Lane.{Lane}
use Rattle.q_tree.specs.declared.answers.turns.Turn.{Turn}
use Rattle.q_tree.specs.declared.answers.ways.Link.{Link}
use Rattle.q_tree.specs.declared.answers.ways.Share.{Share}
use Rattle.q_tree.specs.answers.Lanes.{lane_to}
use Rattle.q_tree.specs.answers.Turns.{turn_to}
use Rattle.q_device.specs.declared.promises.worst.Worst.{Worst}
use Rattle.q_device.specs.promises.Promise.{has_room, late_on}

-- The most bytes that a fifo with this limit has right after it took a packet: one of a limit in packets has so many longest ones.
abbrev pub most_bytes : ℕ → Limit → ℕ
most_bytes mtu (Packets most) = most * mtu
most_bytes mtu (Bytes most) = most

-- The nanoseconds in which the rate of a link brings so many bytes, rounded up. (A rate is one bit a second at least.)
abbrev pub time_of : ℕ → Link → ℕ
time_of bytes link = div_ceil (bytes * units_in_byte) (max link.rate 1)

-- A tbf at the root needs the room in its burst that every promise in time needs. No time is later than 2^62.
abbrev pub worst_of_bytes : ℕ → ℕ → Option Link → Option Worst
worst_of_bytes mtu bytes None = Some (record { bytes = bytes; ns = None; late = None })
worst_of_bytes mtu bytes (Some link) =
    if has_room mtu (Some link) && nat_le (time_of bytes link) (2 ^ 62)
    then Some (record { bytes = bytes; ns = Some (time_of bytes link); late = Some (late_on mtu link) })
    else None

-- the bytes are a number of 64 bits
abbrev pub worst_on : ℕ → Lane → Option Worst
worst_on mtu lane = if nat_lt (most_bytes mtu lane.limit) (2 ^ 64) then worst_of_bytes mtu (most_bytes mtu lane.limit) lane.link else None

-- ---- a class of a drr

-- The most that the classes of a drr send before a packet of one of them, whatever state the drr is in: numbers of the class and its drr alone,
-- so that they can be promised beforehand. A deficit is below a quantum and the mtu together (M. Shreedhar and G. Varghese, "Efficient Fair
-- Queuing Using Deficit Round-Robin" (1995)). For each grant that the class may need from no deficit on, the quanta of the others, and the
-- greatest deficit of each of them.
abbrev pub most_of_turn : ℕ → ℕ → Share → ℕ
most_of_turn mtu bytes share =
    let others = share.quanta - share.quantum in
    bytes + div_ceil bytes share.quantum * others + (others + (share.classes - 1) * (mtu - 1))

-- the packet that a drr below a tbf may hold already; one at the root holds none
abbrev pub most_held : ℕ → Option Link → ℕ
most_held mtu None = 0
most_held mtu (Some link) = mtu

-- until the last packet that the fifo of a class took has left
abbrev pub bytes_in_turn : ℕ → Turn → ℕ
bytes_in_turn mtu turn = most_held mtu turn.link + most_of_turn mtu (most_bytes mtu turn.limit) turn.share

abbrev pub worst_in_turn : ℕ → Turn → Option Worst
worst_in_turn mtu turn = if nat_lt (bytes_in_turn mtu turn) (2 ^ 64) then worst_of_bytes mtu (bytes_in_turn mtu turn) turn.link else None

-- ---- a place

-- No place is both: what leads to a fifo in line are bands.
abbrev pub worst_of : {M : Type 0} → Place → ℕ → Node M → Option Worst
worst_of place mtu root = option_map_or (worst_on mtu) (lane_to place root) (option_and_then (worst_in_turn mtu) (turn_to place root))
