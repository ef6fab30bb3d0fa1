use Rattle.std.proofs.Common.{◌<◌, ◌^◌, ◌∙◌, sym, arith}
use Rattle.q_drr.specs.Schedule.{Class}
use Rattle.q_drr.proofs.DifferLemmas.{differ_from_pairs}
use Rattle.q_tree.proofs.answers.WayLemmas.{named-has, sum-next}
use Rattle.q_tree.proofs.answers.ways.quanta_of.Goals as goal

pub quantum-requires : goal.quantum-requires
quantum-requires c =
    let classes = c.args.active.now.classes in
    named-has classes c.loop-place.place c.in-Some.class (differ_from_pairs (λ (k : Class). k.name) classes c.class_at.ensures.lawful.classes_differ) (sym c.class_at.ensures.value ∙ c.in-Some.is)

pub loop-place-preserved : goal.loop-place-preserved
loop-place-preserved c =
    let classes = c.args.active.now.classes in
    let next =
    sum-next classes c.loop-place.place c.in-Some.class
    (differ_from_pairs (λ (k : Class). k.name) classes c.class_at.ensures.lawful.classes_differ)
    (sym c.class_at.ensures.value ∙ c.in-Some.is) in
    let fits : c.quantum.result < 2 ^ 32 = c.quantum.type_inv in
    (omega (arith, next, c.from-quanta.ensures, c.quantum.ensures, c.loop-place.invariant.0), omega (arith, c.loop-place.invariant.1, c.from-quanta.ensures, fits))
