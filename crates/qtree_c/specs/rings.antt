-- Rings, and the calls on their two ends.
pub mod Ends
