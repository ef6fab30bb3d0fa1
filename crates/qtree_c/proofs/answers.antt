-- What a device answers of itself.
pub mod Readying
pub mod Telling
