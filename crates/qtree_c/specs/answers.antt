-- What a device answers of itself.
pub mod Buffers
pub mod Delays
pub mod Departures
pub mod Lateness
pub mod Nodes
pub mod Oldest
pub mod Promised
pub mod Readiness
