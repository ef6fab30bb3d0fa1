pub mod Chains
pub mod Digits
pub mod Written
