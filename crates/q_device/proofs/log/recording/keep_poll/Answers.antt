use Rattle.std.proofs.Common.{◌∙◌, ◌<◌, length, sym, arith}
use Rattle.std.proofs.lemmas.Bool.{ltb-true}
use Rattle.q_model.specs.declared.event.Event.TheVariants as event
use Rattle.q_device.proofs.log.RecorderLemmas.{kept, not-kept}
use Rattle.q_device.proofs.log.recording.keep_poll.Goals as goal

pub keep-requires : goal.keep-requires
keep-requires c =
    let items = c.args.recorded.now.items in
    let room : length items < c.args.settings.now.recorder = ltb-true (length items) c.args.settings.now.recorder (sym c.has_room.ensures ∙ c.if-has_room.true) in
    omega (arith, room, c.requires)

pub returns-then-has_room-clause-items : goal.returns-then-has_room-clause-items
returns-then-has_room-clause-items c =
    c.keep.ensures.items ∙ kept c.args.settings.now.recorder (event.Poll c.args.at) c.args.recorded.now.items (sym c.if-has_room.true ∙ c.has_room.ensures)

pub returns-else-has_room-clause-items : goal.returns-else-has_room-clause-items
returns-else-has_room-clause-items c = not-kept c.args.settings.now.recorder (event.Poll c.args.at) c.args.recorded.now.items (sym c.if-has_room.false ∙ c.has_room.ensures)
