-- Texts and names for people.
pub mod Explaining
pub mod Names
pub mod Showing
