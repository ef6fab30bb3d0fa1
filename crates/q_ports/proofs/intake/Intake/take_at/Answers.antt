use Rattle.std.proofs.Common.{◌∙◌, ap, arith, get_or, map, List}
use Rattle.q_packet.specs.Descriptor.{Descriptor}
use Rattle.q_ports.specs.Collected.{received_one, take}
use Rattle.q_ports.specs.Rings.{RingSeen, ring_id, received_from}
use Rattle.q_ports.proofs.RingLemmas.{looks-ids, looks-known, looks-length, looks-others, looks-received, receives-ids, receives-others, receives-received}
use Rattle.q_ports.proofs.intake.Intake.take_at.Goals as goal

pub returns-then-is_empty-clause-rings : goal.returns-then-is_empty-clause-rings
returns-then-is_empty-clause-rings g c = looks-ids c.args.at c.args.self.now c.is_empty.new.self c.is_empty.result c.is_empty.ensures

pub returns-then-is_empty-clause-others : goal.returns-then-is_empty-clause-others
returns-then-is_empty-clause-others g c = looks-others c.args.at c.args.self.now c.is_empty.new.self c.is_empty.result c.is_empty.ensures

pub returns-then-is_empty-clause-none : goal.returns-then-is_empty-clause-none
returns-then-is_empty-clause-none g c h = looks-received c.args.at c.args.self.now c.is_empty.new.self c.is_empty.result c.is_empty.ensures

pub returns-then-is_empty-clause-empty : goal.returns-then-is_empty-clause-empty
returns-then-is_empty-clause-empty g c h d = looks-known c.args.at c.args.self.now c.is_empty.new.self c.is_empty.result c.is_empty.ensures c.requires.at d ∙ c.is_empty.ensures.none c.if-is_empty.true

pub take_known-requires-clause-at : goal.take_known-requires-clause-at
take_known-requires-clause-at g c = omega (arith, c.requires, looks-length c.args.at c.args.self.now c.is_empty.new.self c.is_empty.result c.is_empty.ensures)

pub take_known-requires-clause-known : goal.take_known-requires-clause-known
take_known-requires-clause-known g c d =
    let e = looks-known c.args.at c.args.self.now c.is_empty.new.self c.is_empty.result c.is_empty.ensures c.requires.at d in let s =
    c.is_empty.ensures.some c.if-is_empty.false in rw e s

pub returns-in-Err-clause-rings : goal.returns-in-Err-clause-rings
returns-in-Err-clause-rings g c = ap (λ (xs : List RingSeen). map ring_id xs) c.in-Err.ensures.same ∙ looks-ids c.args.at c.args.self.now c.is_empty.new.self c.is_empty.result c.is_empty.ensures

pub returns-in-Err-clause-others : goal.returns-in-Err-clause-others
returns-in-Err-clause-others g c k d other =
    ap (λ (xs : List RingSeen). get_or xs k d) c.in-Err.ensures.same ∙ looks-others c.args.at c.args.self.now c.is_empty.new.self c.is_empty.result
    c.is_empty.ensures k d other

pub returns-in-Err-clause-err : goal.returns-in-Err-clause-err
returns-in-Err-clause-err g c =
    ap (λ (xs : List RingSeen). map received_from xs) c.in-Err.ensures.same ∙ looks-received c.args.at c.args.self.now c.is_empty.new.self
    c.is_empty.result c.is_empty.ensures

pub returns-in-Ok-clause-rings : goal.returns-in-Ok-clause-rings
returns-in-Ok-clause-rings g c =
    let t = c.in-Ok.ensures.taken in
    receives-ids c.args.at c.is_empty.new.self c.take_known.new.self t.packet t.receives ∙ looks-ids c.args.at c.args.self.now c.is_empty.new.self c.is_empty.result c.is_empty.ensures

pub returns-in-Ok-clause-others : goal.returns-in-Ok-clause-others
returns-in-Ok-clause-others g c k d other =
    let t = c.in-Ok.ensures.taken in
    receives-others c.args.at c.is_empty.new.self c.take_known.new.self t.packet t.receives k d other
    ∙ looks-others c.args.at c.args.self.now c.is_empty.new.self c.is_empty.result c.is_empty.ensures k d other

pub returns-in-Ok-clause-some : goal.returns-in-Ok-clause-some
returns-in-Ok-clause-some g c h =
    let t = c.in-Ok.ensures.taken in
    record {
      packet = t.packet;
      received =
          receives-received c.args.at c.is_empty.new.self c.take_known.new.self t.packet t.receives
          (omega (arith, c.requires, looks-length c.args.at c.args.self.now c.is_empty.new.self c.is_empty.result c.is_empty.ensures))
          ∙ ap (λ (rs : List (List Descriptor)). received_one rs (take c.args.at t.packet)) (looks-received c.args.at c.args.self.now c.is_empty.new.self c.is_empty.result c.is_empty.ensures);
      arrived = t.arrived;
      places = t.places;
    }
