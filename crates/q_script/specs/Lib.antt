pub mod Ended
pub mod Lengths
pub mod Reads
pub mod RunFault
pub mod Script
pub mod Settings
pub mod Step
