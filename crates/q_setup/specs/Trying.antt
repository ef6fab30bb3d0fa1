-- What a trial of the code is: lines that were tried.
use Rattle.q_setup.specs.Tried.{Tried}
use Rattle.q_setup.specs.declared.trial.Trial.{Trial}

abbrev pub seen : Trial → Tried
seen t = record { device = t.device.device; lines = t.lines; undone = t.undone.items; commands = t.commands.items; names_chosen = t.names_chosen }
