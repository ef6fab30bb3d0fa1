-- C's structs and numbers, and the places in C's memory that hold a device, a port or an outlet.
pub mod HeldSteps
pub mod RawBoxValues
