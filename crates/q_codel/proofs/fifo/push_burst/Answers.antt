use Rattle.std.proofs.Common.{◌+◌, ℕ, length, sym, subst, arith}
use Rattle.std.specs.Prelude.{IfSome}
use Rattle.std.proofs.lemmas.List.{take_more}
use Rattle.q_packet.specs.declared.stored_packet.StoredPacket.{StoredPacket}
use Rattle.q_codel.specs.Bursts.{IsShort}
use Rattle.q_codel.proofs.BurstLemmas.{IsPushing, next-not, none-behind, pushing-begins, pushing-ends, pushing-more, pushing-room}
use Rattle.q_codel.proofs.fifo.push_burst.Goals.{After-loop-i}
use Rattle.q_codel.proofs.fifo.push_burst.Goals as goal

pub loop-i-init : goal.loop-i-init
loop-i-init c = pushing-begins c.args.now c.args.longest c.args.packets.now c.args.ring.now

pub returns-then-not-is_short-clause-taken : goal.returns-then-not-is_short-clause-taken
returns-then-not-is_short-clause-taken c = c.loop-i.invariant.taken

pub returns-then-not-is_short-clause-widths : goal.returns-then-not-is_short-clause-widths
returns-then-not-is_short-clause-widths c = c.loop-i.invariant.widths

pub returns-then-not-is_short-clause-bytes : goal.returns-then-not-is_short-clause-bytes
returns-then-not-is_short-clause-bytes c = c.loop-i.invariant.bytes

pub returns-then-not-is_short-clause-after : goal.returns-then-not-is_short-clause-after
returns-then-not-is_short-clause-after c = c.loop-i.invariant.after

pub returns-then-not-is_short-clause-next : goal.returns-then-not-is_short-clause-next
returns-then-not-is_short-clause-next c = next-not (IsShort c.args.longest) c.args.packets.now c.loop-i.i _ c.loop-i-test.true (c.is_short.ensures.comes c.if-not-is_short.true)

pub push_stored-requires-clause-place : goal.push_stored-requires-clause-place
push_stored-requires-clause-place c =
    pushing-room c.loop-i.i c.args.now c.args.longest c.args.packets.now c.loop-i.bytes c.args.ring.now c.loop-i.ring c.loop-i.invariant
    c.loop-i-test.true c.requires.places

pub overflow_add-bytes : goal.overflow_add-bytes
overflow_add-bytes c = omega (arith, c.loop-i.invariant.bound, c.loop-i-test.true, c.requires.few, c.from-bytes.ensures, c.is_short.ensures.widths.len)

pub loop-i-preserved : goal.loop-i-preserved
loop-i-preserved c =
    subst (λ (n : ℕ). IsPushing (c.loop-i.i + 1) c.args.now c.args.longest c.args.packets.now (c.loop-i.bytes + n) c.args.ring.now c.push_stored.new.self) (sym c.from-bytes.ensures)
    (pushing-more c.loop-i.i c.args.now c.args.longest c.args.packets.now c.loop-i.bytes c.args.ring.now c.loop-i.ring c.push_stored.new.self _ c.loop-i.invariant
    (take_more c.args.packets.now c.loop-i.i _ c.loop-i-test.true) (c.is_short.ensures.means c.if-not-is_short.false) c.is_short.ensures.widths c.push_stored.ensures)

whole : (c : After-loop-i) → IsPushing (length c.args.packets.now) c.args.now c.args.longest c.args.packets.now c.loop-i.bytes c.args.ring.now c.loop-i.ring
whole c = pushing-ends c.loop-i.i c.args.now c.args.longest c.args.packets.now c.loop-i.bytes c.args.ring.now c.loop-i.ring c.loop-i.invariant (omega (arith, c.loop-i-test.false, c.loop-i.auto.i-end))

pub returns-clause-taken : goal.returns-clause-taken
returns-clause-taken c = (whole c).taken

pub returns-clause-widths : goal.returns-clause-widths
returns-clause-widths c = (whole c).widths

pub returns-clause-next : goal.returns-clause-next
returns-clause-next c = subst (λ o. IfSome o (λ (x : StoredPacket). IsShort c.args.longest x → ⊥)) (sym (none-behind c.args.packets.now)) tt

pub returns-clause-bytes : goal.returns-clause-bytes
returns-clause-bytes c = (whole c).bytes

pub returns-clause-after : goal.returns-clause-after
returns-clause-after c = (whole c).after
