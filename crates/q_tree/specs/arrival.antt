-- A packet comes in: the walk down its route to a queue, and back.
pub mod Arrivals
pub mod ArriveSteps
pub mod KeepSteps
pub mod Places
pub mod PutSteps
