pub mod Lengths
pub mod ShowText
pub mod Writes
pub mod Written
