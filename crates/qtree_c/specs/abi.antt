-- C's structs and numbers, and the places in C's memory that hold a device, a port or an outlet.
pub mod Codes
pub mod Holding
pub mod Lending
pub mod Sample
pub mod Structs
