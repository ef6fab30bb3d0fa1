pub mod Bands
pub mod Flows
pub mod Lines
pub mod Rates
pub mod Replays
