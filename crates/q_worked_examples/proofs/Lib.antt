pub mod SharedRules
pub mod lines
pub mod reports
pub mod scripts
pub mod values
