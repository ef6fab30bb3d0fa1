pub mod abi
pub mod answers
pub mod device
pub mod events
pub mod frames
pub mod rings
pub mod show
