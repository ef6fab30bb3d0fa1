-- How many ports and gauges a device may have.
-- Nothing here is of a standard.
use Rattle.std.specs.Prelude.{ℕ, ◌≤◌}

-- so many ports and gauges there may be, with rings of so many places
pub record AreInRange (ports ring gauges : ℕ) : Type 0 where
  pub some : 1 ≤ ports
  pub few : ports ≤ 64
  pub places : 1 ≤ ring
  pub most_places : ring ≤ 65536
  pub few_gauges : gauges ≤ 16
