-- A packet in a drr that is the child of a class of a drr, and so on.
pub mod NestAsks
pub mod NestKept
pub mod NestTime
pub mod NestTurnRows
pub mod NestTurns
pub mod NestWaits
pub mod PathTurns
