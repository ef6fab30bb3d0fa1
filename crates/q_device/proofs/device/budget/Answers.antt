use Rattle.std.proofs.Common.{◌∙◌, length, sym, arith}
use Rattle.std.proofs.lemmas.Bool.{ltb-false}
use Rattle.q_device.proofs.device.budget.Goals as goal

pub returns-clause-full : goal.returns-clause-full
returns-clause-full c some = omega (arith, ltb-false (length c.args.recorded.now.items) c.args.settings.now.recorder (sym c.has_room.ensures ∙ c.if-has_room.false))
