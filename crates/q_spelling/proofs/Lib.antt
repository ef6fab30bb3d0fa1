pub mod ReadBack
pub mod Spelled
