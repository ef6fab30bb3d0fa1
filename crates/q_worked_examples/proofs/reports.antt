-- The bytes of a script's report.
pub mod ChangeReports
pub mod CoDelReports
pub mod FqCodelReports
pub mod LargeReports
pub mod RefusalReports
pub mod Reports
pub mod RuleReports
pub mod TreeReports
