-- What events grant a class of a drr, and what it sends.
pub mod AgainstTurns
pub mod ClassAsks
pub mod ClassChildren
pub mod ClassLooks
pub mod ClassMoves
pub mod ClassSteps
pub mod ClassSums
pub mod ClassTakes
pub mod Exact
pub mod SameTurns
pub mod TakeTurns
