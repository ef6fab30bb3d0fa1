pub mod Laws
pub mod ReadBack
pub mod Report
pub mod Text
