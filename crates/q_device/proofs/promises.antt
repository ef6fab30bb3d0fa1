-- What a device answers of service, of the worst delay, and of the latest departure.
pub mod LackNumbers
pub mod OldestStands
pub mod PromiseStands
pub mod TurnNowStands
pub mod WorstStands
