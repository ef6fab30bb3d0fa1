use Rattle.std.proofs.Common.{◌≡◌, ◌≤◌, ◌*◌, length, map}
use Rattle.std.specs.Prelude.{All, take}
use Rattle.q_packet.specs.Stored.{descriptor}
use Rattle.q_codel.specs.Bursts.{HasWidths, IsShort}
use Rattle.q_model.specs.Beneath.{totals_in}
use Rattle.q_tree.specs.arrival.KeepSteps.{AreKeptBelow, IsKeeping}
use Rattle.q_tree.specs.declared.node.Node.TheInside.{Inside}
use Rattle.q_tree.proofs.arrival.keep.keep_each.Given as goal

abbrev pub invariant-loop-i : goal.invariant-loop-i
invariant-loop-i l =
    ((a : Inside) → IsKeeping l.fn.now l.fn.mtu (length l.fn.packets) l.fn.filters l.initial.discipline a → AreKeptBelow l.fn.now l.fn.mtu (map descriptor (take l.i l.fn.packets)) a l.discipline)
    × All (IsShort l.fn.mtu) (take l.i l.fn.packets)
    × All HasWidths (take l.i l.fn.packets)
    × (record { packets = l.i; bytes = l.bytes } ≡ totals_in (map descriptor (take l.i l.fn.packets)))
    × (l.bytes ≤ l.i * 65535)
