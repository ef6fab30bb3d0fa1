use Rattle.std.proofs.Common.{◌≡◌, ◌+◌, arith, length, refl, slice_set, subst, sym}
use Rattle.std.proofs.lemmas.Bool.{ltb-false, ltb-true}
use Rattle.std.proofs.lemmas.Option.{slice_get_past, slice_get_read}
use Rattle.qtree_c.specs.declared.abi.c_undone.CUndone.{CUndone}
use Rattle.qtree_c.proofs.device.UndoneLemmas.{IsTelling, telling-begins, telling-ends, telling-more, telling-stops}
use Rattle.qtree_c.proofs.device.set_up.tell.Goals as goal

pub loop-i-init : goal.loop-i-init
loop-i-init c = telling-begins c.args.undone.now c.args.places.now

pub returns-in-None : goal.returns-in-None
returns-in-None c =
    let undone = c.args.undone.now in
    telling-stops c.loop-i.i undone c.args.places.now c.loop-i.places c.loop-i.invariant c.loop-i-test.true
    (slice_get_past undone c.loop-i.i (ltb-false c.loop-i.i (length undone) (sym c.in-None.ensures.lookup.0)))

pub loop-i-preserved : goal.loop-i-preserved
loop-i-preserved c =
    let undone = c.args.undone.now in
    let there = c.in-Some.ensures.lookup in
    subst (λ (x : CUndone). IsTelling (c.loop-i.i + 1) undone c.args.places.now (slice_set c.loop-i.places c.loop-i.i x)) (sym c.of.ensures)
    (telling-more c.loop-i.i undone c.args.places.now c.loop-i.places c.in-Some.line.now c.loop-i.invariant c.loop-i-test.true
    (slice_get_read undone (length undone) c.loop-i.i c.in-Some.line.now refl (ltb-true c.loop-i.i (length undone) (sym there.0)) there.1))

pub returns : goal.returns
returns c =
    let end : c.loop-i.i ≡ length c.args.places.now = omega (arith, c.loop-i-test.false, c.loop-i.auto.i-end) in
    telling-ends c.loop-i.i c.args.undone.now c.args.places.now c.loop-i.places c.loop-i.invariant end
