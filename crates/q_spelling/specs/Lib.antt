pub mod Lengths
pub mod Words
pub mod Events
