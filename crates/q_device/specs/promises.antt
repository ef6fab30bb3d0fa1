-- What a device answers of service, of the worst delay, and of the latest departure.
pub mod Latest
pub mod Promise
pub mod Worst
