use Rattle.std.proofs.Common.{ap, ◌∙◌, arith}
use Rattle.q_packet.specs.declared.stamped.Stamped.{Stamped}
use Rattle.q_codel.proofs.BurstLemmas.{IsPopping, popping-begins, popping-ends, popping-left, popping-more}
use Rattle.q_codel.proofs.fifo.pop_burst.Goals.{After-loop-i}
use Rattle.q_codel.proofs.fifo.pop_burst.Given.{Over}
use Rattle.q_codel.proofs.fifo.pop_burst.Goals as goal

pub loop-i-init : goal.loop-i-init
loop-i-init g c = popping-begins g.T.Told.told c.args.places.now c.args.ring.now

pub pop-front-requires : goal.pop-front-requires
pop-front-requires g c =
    popping-left g.T.Told.told c.loop-i.i c.loop-i.bytes c.args.places.now c.loop-i.places c.args.ring.now c.loop-i.ring c.loop-i.invariant
    (omega (arith, c.loop-i-test.true, c.requires.queued))

pub overflow_add-bytes : goal.overflow_add-bytes
overflow_add-bytes g c = omega (arith, c.loop-i.invariant.bound, c.loop-i-test.true, c.requires.few, c.from-bytes.ensures, c.len.type_inv)

pub loop-i-preserved : goal.loop-i-preserved
loop-i-preserved g c =
    popping-more g.T.Told.told c.loop-i.i c.loop-i.bytes c.from-bytes.result c.args.places.now c.loop-i.places c.args.ring.now c.loop-i.ring c.pop-front.new.self c.pop-front.result c.tell.result
    c.loop-i.invariant (omega (arith, c.loop-i-test.true, c.requires.queued)) (omega (arith, c.loop-i-test.true, c.requires.places)) c.pop-front.ensures.front
    (c.from-bytes.ensures ∙ c.len.ensures.value ∙ ap (λ (s : Stamped). s.packet.len) c.front.view_is) (omega (arith, c.from-bytes.ensures, c.len.type_inv))
    (c.tell.ensures ∙ ap (λ (s : Stamped). g.T.Told.told s.packet) c.front.view_is) c.pop-front.ensures.rest

whole : (g : Over) (c : After-loop-i g) → IsPopping g.T.Told.told c.args.most c.loop-i.bytes c.args.places.now c.loop-i.places c.args.ring.now c.loop-i.ring
whole g c =
    popping-ends g.T.Told.told c.loop-i.i c.args.most c.loop-i.bytes c.args.places.now c.loop-i.places c.args.ring.now c.loop-i.ring c.loop-i.invariant
    (omega (arith, c.loop-i-test.false, c.loop-i.auto.i-end))

pub returns-clause-bytes : goal.returns-clause-bytes
returns-clause-bytes g c = (whole g c).bytes

pub returns-clause-told : goal.returns-clause-told
returns-clause-told g c = (whole g c).tells

pub returns-clause-rest : goal.returns-clause-rest
returns-clause-rest g c = (whole g c).rest
