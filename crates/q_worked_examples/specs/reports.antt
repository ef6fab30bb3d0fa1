-- The bytes of a script's report.
pub mod Reports
