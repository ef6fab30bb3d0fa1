-- By when a packet that is last in a fifo in line has left, in numbers that a program can read: the bytes that are queued there with it, and
-- the time at which a tbf at the root has paid for them, from the level of its bucket. tc-tbf(8). In the fifo of a class of a drr the bytes are
-- those of a turn, from the deficits and the active list of the moment (tc-drr(8)). q_laws proves that it leaves so.
use Rattle.std.specs.Prelude.{ℕ, ◌+◌, ◌-◌, ◌*◌, ◌^◌, max, min, nat_lt, nat_le, ◌&&◌, if◌then◌else◌, Option, Some, None, option_and_then}
use Rattle.std.specs.Int.{div_ceil}
use Rattle.std.specs.Option.{option_map_or}
use Rattle.q_bucket.specs.Level.{units_in_byte}
use Rattle.q_model.specs.declared.class_id.ClassId.{ClassId}
use Rattle.q_model.specs.declared.place.Place.{Place}
use Rattle.q_model.specs.declared.place.Place.TheVariants as place
use Rattle.q_model.specs.declared.row.Row.{Row}
use Rattle.q_model.specs.Step.{DeviceState}
use Rattle.q_model.specs.Tally.{Tally}
use Rattle.q_model.specs.TreeState.{stats}
use Rattle.q_tree.specs.declared.answers.lanes.Lane.{Lane}
use Rattle.q_tree.specs.declared.answers.turns.Turn.{Turn}
use Rattle.q_tree.specs.declared.answers.ways.Link.{Link}
use Rattle.q_tree.specs.answers.Lanes.{lane_to, level_of}
use Rattle.q_tree.specs.answers.TurnNow.{bytes_before}
use Rattle.q_tree.specs.answers.Turns.{turn_to}
use Rattle.q_device.specs.declared.promises.latest.Latest.{Latest}
use Rattle.q_device.specs.promises.Promise.{has_room, late_on}

-- What a level counts for where polls may be so late: what comes above the burst before a first late poll is lost.
abbrev pub counted_level : ℕ → Link → ℕ → ℕ
counted_level late link level = min level (link.burst * units_in_byte - link.rate * late)

-- The time from which on the rate of a link has brought what so many bytes take beside that level, rounded up.
abbrev pub paid_at : ℕ → Link → ℕ → ℕ → ℕ
paid_at now link level bytes = now + div_ceil (bytes * units_in_byte - level) (max link.rate 1)

-- of a link, whose bucket has this level now
abbrev pub latest_at : ℕ → ℕ → ℕ → Link → ℕ → Option Latest
latest_at mtu now bytes link level =
    let at = paid_at now link (counted_level (late_on mtu link) link level) bytes in
    if has_room mtu (Some link) && nat_le at (2 ^ 62) then Some (record { bytes = bytes; at = Some at; late = Some (late_on mtu link) }) else None

abbrev pub latest_of_bytes : ℕ → ℕ → ℕ → Option ℕ → Option Link → Option Latest
latest_of_bytes mtu now bytes level None = Some (record { bytes = bytes; at = None; late = None })
latest_of_bytes mtu now bytes level (Some link) = option_and_then (latest_at mtu now bytes link) level

-- the bytes are a number of 64 bits
abbrev pub latest_on : ℕ → ℕ → ℕ → Option ℕ → Option Link → Option Latest
latest_on mtu now bytes level link = if nat_lt bytes (2 ^ 64) then latest_of_bytes mtu now bytes level link else None

-- with what is queued in this place and the length of a packet that comes there next (0 for the packet that was queued last), and the level of
-- the bucket at the root, at the device's clock
abbrev pub latest_below : {M : Type 0} → Tally M → Place → ℕ → ℕ → DeviceState M → Option Link → Option Latest
latest_below t place len mtu d link =
    option_and_then (λ (row : Row). latest_on mtu d.clock (row.queued.bytes + len) (level_of d.clock d.tree.root.own.discipline) link)
    (stats t place d.tree)

-- ---- a class of a drr

-- below this link
abbrev pub latest_in_turn : {M : Type 0} → ClassId → ℕ → ℕ → DeviceState M → Option Link → Option Latest
latest_in_turn class len mtu d link =
    option_and_then (λ bytes. latest_on mtu d.clock bytes (level_of d.clock d.tree.root.own.discipline) link) (bytes_before class len d.tree.root)

abbrev pub latest_at_turn : {M : Type 0} → Place → ℕ → ℕ → DeviceState M → Turn → Option Latest
latest_at_turn place.Top len mtu d turn = None
latest_at_turn place.Root len mtu d turn = None
latest_at_turn (place.Class class) len mtu d turn = latest_in_turn class len mtu d turn.link

-- ---- a place

-- Where the fifo in this place is in line, or that of a class of a drr. No place is both: what leads to a fifo in line are bands.
abbrev pub latest_of : {M : Type 0} → Tally M → Place → ℕ → ℕ → DeviceState M → Option Latest
latest_of t place len mtu d =
    option_map_or (λ (lane : Lane). latest_below t place len mtu d lane.link) (lane_to place d.tree.root)
    (option_and_then (latest_at_turn place len mtu d) (turn_to place d.tree.root))
