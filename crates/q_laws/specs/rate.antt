-- What a tbf at the root delivers in time, and when it has paid.
pub mod Delay
pub mod Rate
