-- A packet in a class of a drr: what leaves before it, and when it has left at the latest.
pub mod FifoTurn
pub mod MostOfTurn
pub mod Turn
pub mod TurnLatest
pub mod TurnWorst
