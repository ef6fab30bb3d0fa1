-- What nodes count.
pub mod AskRows
pub mod Quiet
pub mod Rows
pub mod RowsOf
