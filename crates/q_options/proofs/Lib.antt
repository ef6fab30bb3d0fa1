pub mod Chains
pub mod Explained
pub mod FoundOptions
pub mod Joined
