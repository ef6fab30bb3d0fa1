pub mod Lengths
pub mod Reported
pub mod Seen
pub mod Session
pub mod SessionCode
pub mod ShowFault
pub mod Shown
