pub mod reports
