use Rattle.std.proofs.Common.{◌≡◌, drop}
use Rattle.q_device.specs.log.LastNoted.{all_noted}
use Rattle.qtree_c.specs.device.SettingUp.{commands_at}
use Rattle.qtree_c.proofs.device.set_up.note_each.Given as goal

-- what noting the commands that are left makes of the ring so far is what noting all makes of the first
abbrev pub invariant-loop-command : goal.invariant-loop-command
invariant-loop-command l = all_noted (commands_at l.at (drop l.command-index l.commands)) l.last ≡ all_noted (commands_at l.at l.commands) l.fn.last
