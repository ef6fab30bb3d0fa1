pub mod Accounts
pub mod DrainLemmas
pub mod LoadLemmas
pub mod Reporting
pub mod SetUpLemmas
