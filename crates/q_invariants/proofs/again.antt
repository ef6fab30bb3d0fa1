-- A node that is asked a second time, and a take right after a peek.
pub mod SecondClasses
pub mod SecondDrr
pub mod SecondFlow
pub mod SecondPeek
pub mod SecondPeeks
pub mod SecondPrio
pub mod TakeAfterPeek
pub mod TakeBands
pub mod TakeJoined
