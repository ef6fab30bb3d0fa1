-- What a line may say: the ranges of its numbers, and which of its parts it has to have.
-- Those of tc lines are after tc(8) and the pages of the disciplines, the others this project's.
use Rattle.std.specs.Prelude.{◌≡◌, ℕ, ◌^◌, ◌<◌, ◌≤◌, ◌||◌, IfSome, IsTrue, List, All, length, Some, is_some, option_map, true, ⊤}
use Rattle.std.specs.Option.{option_map_or, option_or}
use Rattle.q_packet.specs.Head.{head as head_in}
use Rattle.q_packet.specs.Key.{IsKey}
use Rattle.q_model.specs.Numbers.{IsWithin, most_u32}
use Rattle.q_model.specs.Options.{Prefix}
use Rattle.q_model.specs.Ranges.{IsCommand}
use Rattle.q_model.specs.declared.command.Command.{Command}
use Rattle.q_model.specs.declared.command.Command.TheVariants as command
use Rattle.q_model.specs.declared.filter.Filter.{Filter}
use Rattle.q_model.specs.declared.place.Place.{Place}
use Rattle.q_model.specs.declared.place.Place.TheVariants as place
use Rattle.q_line.specs.Grammar.{same_version, version_of}
use Rattle.q_line.specs.declared.arrival.Arrival.{Arrival}
use Rattle.q_line.specs.declared.line.Line.{Line}
use Rattle.q_line.specs.declared.line.Line.TheVariants as line

-- a packet that is not IP has no addresses
pub record IsArrival (a : Arrival) : Type 0 where
  pub len : IsWithin 1 65535 a.len
  pub key : IsKey a.key
  pub plain : a.key.family ≡ 0 → (a.key.src ≡ 0) × (a.key.dst ≡ 0)
  pub prio : a.prio ≤ 15
  pub hash : IfSome a.hash (λ n. n ≤ most_u32)

-- one byte or more
pub record IsPacketBytes (packet : List ℕ) : Type 0 where
  pub some : 1 ≤ length packet
  pub bytes : All (λ b. b < 256) packet

-- no line puts a qdisc above the root
abbrev pub IsBelow : Place → Type 0
IsBelow place.Top = ⊥
IsBelow _ = ⊤

-- the addresses of a filter are of the version of its protocol, if that has one, and of one version
abbrev pub IsAgreed : Filter → Type 0
IsAgreed f =
    IfSome f.keys.src_ip (λ p. option_map_or (same_version p.version) (version_of (Some f.protocol)) true ≡ true)
    × IfSome f.keys.dst_ip (λ p. option_map_or (same_version p.version) (option_or (version_of (Some f.protocol)) (option_map (λ (q : Prefix). q.version) f.keys.src_ip)) true ≡ true)

-- the parts that a line has to have: a change or a removal of a qdisc names its place or its handle
abbrev pub IsWhole : Command → Type 0
IsWhole (command.QdiscAdd place handle kind) = IsBelow place
IsWhole (command.QdiscChange place handle kind) = IfSome place IsBelow × IsTrue (is_some place || is_some handle)
IsWhole (command.QdiscDel place handle) = IfSome place IsBelow × IsTrue (is_some place || is_some handle)
IsWhole (command.FilterAdd parent major filter) = IsAgreed filter
IsWhole _ = ⊤

-- the head of a `frame` line is that of the bytes that it gives
abbrev pub IsLine : List ℕ → Line → Type 0
IsLine packet (line.Tc command) = IsCommand command × IsWhole command
IsLine packet (line.At moment) = moment ≤ 2 ^ 62
IsLine packet (line.Pkt arrival) = IsArrival arrival
IsLine packet (line.Frame len head) = IsWithin 1 65535 len × IsPacketBytes packet × (head ≡ head_in packet)
IsLine packet (line.Poll polls) = IsWithin 1 100000 polls
IsLine packet _ = ⊤

-- a line's packet, where it says one, is one that can be sent
abbrev pub IsSendable : Line → Type 0
IsSendable (line.Pkt a) = (1 ≤ a.len) × (a.len ≤ 65535) × (a.prio ≤ 15)
IsSendable (line.Frame len head) = (1 ≤ len) × (len ≤ 65535) × (head.prio ≤ 15)
IsSendable _ = ⊤
