-- What a class of a drr is promised, in numbers that a program can read: its part of a rate, or of what the drr at the root sends, and
-- the bytes that it may lack, rounded against the class; tc-tbf(8) and tc-drr(8). q_laws proves that the class gets them.
use Rattle.std.specs.Prelude.{ℕ, ◌+◌, ◌-◌, ◌*◌, ◌/◌, ◌^◌, min, max, nat_le, Bool, true, if◌then◌else◌, List, [], ◌∷◌, Option, Some, None, option_map, option_and_then}
use Rattle.std.specs.Int.{div_ceil}
use Rattle.q_bucket.specs.Level.{units_in_byte}
use Rattle.q_model.specs.declared.place.Place.{Place}
use Rattle.q_model.specs.declared.place.Place.TheVariants as place
use Rattle.q_model.specs.Node.{Node}
use Rattle.q_tree.specs.declared.answers.ways.Link.{Link}
use Rattle.q_tree.specs.declared.answers.ways.Share.{Share}
use Rattle.q_tree.specs.answers.Ways.{shares_of, way_to}
use Rattle.q_device.specs.declared.promises.service.Service.{Service}

-- The rate of the tbf at the root, in bits a second, if there is one; the classes on the path, from the root down, in numbers; the bytes
-- that may lack; and how many nanoseconds a poll may be late, where a tbf is at the root.
pub record Promise : Type 0 where
  pub link : Option ℕ
  pub shares : List Share
  pub slack : ℕ
  pub late : Option ℕ

-- what a contract sees of a service
abbrev pub promise_seen : Service → Promise
promise_seen s = record { link = s.link; shares = s.shares.items; slack = s.slack; late = s.late }

-- What a class may lack of its part of the bytes that the classes of its drr send, times the sum of their quanta: two quanta, and a
-- longest packet for itself and each other class.
abbrev pub lacks_of_bytes : ℕ → ℕ → ℕ → ℕ → ℕ
lacks_of_bytes classes quantum quanta mtu = 2 * (quantum * (quanta - quantum)) + (mtu - 1) * ((classes - 1) * quantum + (quanta - quantum))

-- What a class may lack where so many bytes may lack of what its drr gets, rounded up: its part of them, and what it may lack of its part.
abbrev pub lack_at : ℕ → ℕ → Share → ℕ
lack_at mtu lack s = div_ceil (lack * s.quantum + lacks_of_bytes s.classes s.quantum s.quanta mtu) s.quanta

-- the same further down, where each drr may hold a longest packet
abbrev pub lack_below : ℕ → ℕ → List Share → ℕ
lack_below mtu lack [] = lack
lack_below mtu lack (s ∷ shares) = lack_below mtu (lack_at mtu (lack + mtu) s) shares

-- of the rate of a link two longest packets may lack
abbrev pub lack_of_link : ℕ → Option Link → ℕ
lack_of_link mtu None = 0
lack_of_link mtu (Some link) = 2 * mtu

abbrev pub slack_on : ℕ → ℕ → List Share → ℕ
slack_on mtu lack [] = lack
slack_on mtu lack (s ∷ shares) = lack_below mtu (lack_at mtu lack s) shares

-- the burst has room for a longest packet and for what the rate brings in a nanosecond
abbrev pub has_room : ℕ → Option Link → Bool
has_room mtu None = true
has_room mtu (Some link) = nat_le (mtu * units_in_byte + link.rate) (link.burst * units_in_byte)

-- The greatest lateness of polls at which the burst has that room: in so much time and a nanosecond the rate brings what is in the burst
-- beside a longest packet. No time is later than 2^62. (A rate is one bit a second at least.)
abbrev pub late_on : ℕ → Link → ℕ
late_on mtu link = min (((link.burst - mtu) * units_in_byte - link.rate) / max link.rate 1) (2 ^ 62)

abbrev pub late_of : ℕ → Option Link → Option ℕ
late_of mtu link = option_map (late_on mtu) link

abbrev pub rate_of : Option Link → Option ℕ
rate_of link = option_map (λ (l : Link). l.rate) link

abbrev pub promise_on : ℕ → Option Link → List Share → Option Promise
promise_on mtu link shares =
    if has_room mtu link
    then Some (record { link = rate_of link; shares = shares; slack = slack_on mtu (lack_of_link mtu link) shares; late = late_of mtu link })
    else None

-- What the class in this place is promised: only a class has a path.
abbrev pub promise_of : {M : Type 0} → Place → ℕ → Node M → Option Promise
promise_of place.Top mtu root = None
promise_of place.Root mtu root = None
promise_of (place.Class class) mtu root = option_and_then (λ w. promise_on mtu w.link (shares_of w)) (way_to class root)

-- The part of so many that a class at the end of such a path gets, rounded down at each drr.
abbrev pub part_of : List Share → ℕ → ℕ
part_of [] whole = whole
part_of (s ∷ shares) whole = part_of shares (whole * s.quantum / s.quanta)
