-- Losses that are handed out into lent places, oldest first.
-- Nothing here is of a standard.
use Rattle.std.specs.Prelude.{◌≡◌, ℕ, ◌+◌, List, ◌++◌, drop, length, map, min, take}
use Rattle.q_codel.specs.declared.loss.Loss.{Loss}
use Rattle.q_device.specs.device.DeviceSeen.{DeviceSeen}

-- As many losses as wait, or as there are places, are handed out, and this is told of each in the first places. The others wait on, and
-- what is behind those places stays as it was.
pub record IsReaps {A : Type 0} (told : Loss → A) (count : ℕ) (before after : List A) (d n : DeviceSeen) : Type 0 where
  pub counted : count ≡ min (length before) (length d.waiting)
  pub losses : after ≡ map told (take count d.waiting) ++ drop count before
  pub rest : n ≡ record d { waiting = drop count d.waiting; handed_out = d.handed_out + count }
