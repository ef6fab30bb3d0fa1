-- What is read off the worst delay that was answered for a fifo.
use Rattle.std.proofs.Common.{◌≡◌, ℕ, ◌^◌, refl, sym, ap, Option, Some, None}
use Rattle.std.specs.Prelude.{Bool, true, false, ◌&&◌, nat_lt, nat_le, if◌then◌else◌}
use Rattle.std.proofs.lemmas.Bool.{and_parts}
use Rattle.std.proofs.lemmas.Option.{none-some, same_Some}
use Rattle.q_codel.specs.declared.limit.Limit.{Limit}
use Rattle.q_tree.specs.declared.answers.lanes.Lane.{Lane}
use Rattle.q_tree.specs.declared.answers.turns.Turn.{Turn}
use Rattle.q_tree.specs.declared.answers.ways.Link.{Link}
use Rattle.q_tree.specs.declared.answers.ways.Share.{Share}
use Rattle.q_device.specs.declared.promises.worst.Worst.{Worst}
use Rattle.q_device.specs.promises.Promise.{has_room, late_on}
use Rattle.q_device.specs.promises.Worst.{bytes_in_turn, most_bytes, time_of, worst_in_turn, worst_of_bytes, worst_on}

-- below a tbf at the root
pub record WorstIs (mtu bytes : ℕ) (link : Link) (w : Worst) : Type 0 where
  pub bytes_are : w.bytes ≡ bytes
  pub ns : w.ns ≡ Some (time_of bytes link)
  pub late : w.late ≡ Some (late_on mtu link)
  pub room : has_room mtu (Some link) ≡ true

fits : (t : Bool) (o : Option Worst) (w : Worst) → (if t then o else None) ≡ Some w → o ≡ Some w
fits true o w e = e
fits false o w e = absurd (none-some w e)

below-is : (mtu bytes : ℕ) (link : Link) (w : Worst) → worst_of_bytes mtu bytes (Some link) ≡ Some w → WorstIs mtu bytes link w
below-is mtu bytes link w e = by (has_room mtu (Some link) && nat_le (time_of bytes link) (2 ^ 62)) refl e
  where
    told : Worst
    told = record { bytes = bytes; ns = Some (time_of bytes link); late = Some (late_on mtu link) }

    by : (t : Bool) → (has_room mtu (Some link) && nat_le (time_of bytes link) (2 ^ 62)) ≡ t → (if t then Some told else None) ≡ Some w → WorstIs mtu bytes link w
    by false is e = absurd (none-some w e)
    by true is e =
        let same : told ≡ w = same_Some told w e in
        record {
          bytes_are = ap (λ (x : Worst). x.bytes) (sym same);
          ns = ap (λ (x : Worst). x.ns) (sym same);
          late = ap (λ (x : Worst). x.late) (sym same);
          room = (and_parts (has_room mtu (Some link)) (nat_le (time_of bytes link) (2 ^ 62)) is).0;
        }

pub worst-is : (mtu : ℕ) (link : Link) (limit : Limit) (w : Worst) → worst_on mtu (record { link = Some link; limit = limit }) ≡ Some w → WorstIs mtu (most_bytes mtu limit) link w
worst-is mtu link limit w e = below-is mtu (most_bytes mtu limit) link w (fits (nat_lt (most_bytes mtu limit) (2 ^ 64)) (worst_of_bytes mtu (most_bytes mtu limit) (Some link)) w e)

of-bytes : (mtu bytes : ℕ) (link : Option Link) (w : Worst) → worst_of_bytes mtu bytes link ≡ Some w → w.bytes ≡ bytes
of-bytes mtu bytes None w e = ap (λ (x : Worst). x.bytes) (sym (same_Some (record { bytes = bytes; ns = None; late = None }) w e))
of-bytes mtu bytes (Some link) w e = (below-is mtu bytes link w e).bytes_are

pub worst-bytes : (mtu : ℕ) (lane : Lane) (w : Worst) → worst_on mtu lane ≡ Some w → w.bytes ≡ most_bytes mtu lane.limit
worst-bytes mtu lane w e =
    let bytes : ℕ = most_bytes mtu lane.limit in
    of-bytes mtu bytes lane.link w (fits (nat_lt bytes (2 ^ 64)) (worst_of_bytes mtu bytes lane.link) w e)

-- the same of a class of a drr
pub turn-is : (mtu : ℕ) (link : Link) (share : Share) (limit : Limit) (w : Worst)
    → worst_in_turn mtu (record { link = Some link; share = share; limit = limit }) ≡ Some w
    → WorstIs mtu (bytes_in_turn mtu (record { link = Some link; share = share; limit = limit })) link w
turn-is mtu link share limit w e =
    let bytes : ℕ = bytes_in_turn mtu (record { link = Some link; share = share; limit = limit }) in
    below-is mtu bytes link w (fits (nat_lt bytes (2 ^ 64)) (worst_of_bytes mtu bytes (Some link)) w e)

pub turn-bytes : (mtu : ℕ) (turn : Turn) (w : Worst) → worst_in_turn mtu turn ≡ Some w → w.bytes ≡ bytes_in_turn mtu turn
turn-bytes mtu turn w e =
    let bytes : ℕ = bytes_in_turn mtu turn in
    of-bytes mtu bytes turn.link w (fits (nat_lt bytes (2 ^ 64)) (worst_of_bytes mtu bytes turn.link) w e)
