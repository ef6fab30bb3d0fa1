use Rattle.std.proofs.Common.{◌≡◌, ◌∙◌, length, refl, sym, ap, subst, arith}
use Rattle.std.specs.Prelude.{slice_index_or}
use Rattle.std.proofs.lemmas.Bool.{false≢true}
use Rattle.std.proofs.lemmas.Option.{same_Some}
use Rattle.q_tree.specs.departure.PopSteps.{HasHead}
use Rattle.q_tree.specs.disciplines.EmptyFifo.{IsEmptyFifo}
use Rattle.q_codel.proofs.SinkLemmas.{told_nothing}
use Rattle.q_tree.specs.arrival.KeepSteps.{no_sink}
use Rattle.q_tree.specs.departure.GiveSteps.{nothing_shown}
use Rattle.q_tree.proofs.departure.GivenHeads.{head-band}
use Rattle.q_tree.proofs.departure.GivingComes.{band-decides, band-passed, no-band}
use Rattle.q_tree.proofs.disciplines.AskBands.{band-at, bands-start}
use Rattle.q_tree.proofs.disciplines.IdleBands.{band-idle}
use Rattle.q_tree.proofs.departure.giving.give_from_bands.Goals as goal

pub loop-place-init : goal.loop-place-init
loop-place-init c = (
  bands-start c.args.now c.args.bands.now nothing_shown (record { dropped = refl; marked = refl }) refl,
  told_nothing no_sink,
  refl,
  refl,
  λ h. omega arith,
)

-- a fifo that has nothing is passed over
pub loop-place-preserved : goal.loop-place-preserved
loop-place-preserved c =
    let band = slice_index_or c.loop-place.bands c.loop-place.place c.index-bands-place.result in
    let at = band-at c.args.now c.args.bands.now c.loop-place.bands c.loop-place.place nothing_shown c.loop-place.invariant.0 c.index-bands-place.result c.loop-place-test.true in
    let passed =
    band-idle c.args.now c.args.bands.now c.loop-place.bands c.loop-place.place nothing_shown c.requires.asks c.loop-place.invariant.0 band
    at (c.is_an_empty_fifo.ensures.means c.if-is_an_empty_fifo.true) no_sink no_sink c.loop-place.invariant.1 in (
      passed.0,
      passed.1,
      c.loop-place.invariant.2,
      c.loop-place.invariant.3,
      λ h. band-passed c.args.bands.now c.loop-place.place band h (c.loop-place.invariant.4 h) at (c.is_an_empty_fifo.ensures.means c.if-is_an_empty_fifo.true),
    )

pub returns-in-loop-place-clause-given : goal.returns-in-loop-place-clause-given
returns-in-loop-place-clause-given c = λ so own.
    let d = c.index-bands-place-in-loop-place-2.result in
    let band = slice_index_or c.loop-place.bands c.loop-place.place d in
    let at = band-at c.args.now c.args.bands.now c.loop-place.bands c.loop-place.place nothing_shown c.loop-place.invariant.0 d c.loop-place-test.true in
    let d1 = c.index-bands-place-in-loop-place.result in
    let at1 = band-at c.args.now c.args.bands.now c.loop-place.bands c.loop-place.place nothing_shown c.loop-place.invariant.0 d1 c.loop-place-test.true in
    let same : slice_index_or c.loop-place.bands c.loop-place.place d1 ≡ band = same_Some (slice_index_or c.loop-place.bands c.loop-place.place d1) band (sym at1 ∙ at) in
    head-band c.args.now c.args.bands.now c.loop-place.bands c.loop-place.place c.requires.asks c.loop-place.invariant.0 band at
    (subst HasHead same (c.has_head.ensures.means c.if-not-has_head.false)) c.send_head.new.out c.send_head.ensures.packet c.send_head.new.self c.send_head.ensures.after
    c.send_head.ensures.arrived c.loop-place.invariant.1 own

pub returns-then-not-has_head-clause-comes : goal.returns-then-not-has_head-clause-comes
returns-then-not-has_head-clause-comes c h =
    let d = c.index-bands-place-in-loop-place.result in
    let band = slice_index_or c.loop-place.bands c.loop-place.place d in
    let at = band-at c.args.now c.args.bands.now c.loop-place.bands c.loop-place.place nothing_shown c.loop-place.invariant.0 d c.loop-place-test.true in
    let d1 = c.index-bands-place.result in
    let at1 = band-at c.args.now c.args.bands.now c.loop-place.bands c.loop-place.place nothing_shown c.loop-place.invariant.0 d1 c.loop-place-test.true in
    let same : slice_index_or c.loop-place.bands c.loop-place.place d1 ≡ band = same_Some (slice_index_or c.loop-place.bands c.loop-place.place d1) band (sym at1 ∙ at) in
    c.if-not-has_head.ensures.comes (band-decides c.args.bands.now c.loop-place.place band h (c.loop-place.invariant.4 h) at
    (λ empty. false≢true (c.if-is_an_empty_fifo.ensures.comes (subst IsEmptyFifo (sym same) empty))))

pub returns-clause-comes : goal.returns-clause-comes
returns-clause-comes c h =
    absurd (no-band c.args.bands.now c.loop-place.place h (c.loop-place.invariant.4 h)
    (omega (arith, c.loop-place-test.false, ap (λ xs. length xs) c.loop-place.invariant.2)))
