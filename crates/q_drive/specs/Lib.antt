pub mod Drained
pub mod Drive
pub mod Driven
pub mod Lengths
pub mod Loads
pub mod Reported
pub mod SetUp
pub mod Texts
