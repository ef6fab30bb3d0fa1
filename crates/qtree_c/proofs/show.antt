-- Texts and names for people.
pub mod Naming
