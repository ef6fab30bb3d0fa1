pub mod Addresses
pub mod Decimals
pub mod FaultText
pub mod Parts
pub mod Units
pub mod Values
pub mod Words
