-- A packet in line: what leaves before it, and when it has left at the latest.
pub mod LaneLines
pub mod LaneNumbers
pub mod LanePuts
pub mod LanesStay
pub mod LatestArrives
pub mod LatestFills
pub mod LatestKept
pub mod LineAsks
pub mod LineDelay
pub mod LineInTime
pub mod LinePuts
pub mod LineStretches
pub mod WorstKept
pub mod WorstRows
