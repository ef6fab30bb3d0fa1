pub mod CommandLemmas
pub mod ListedLemmas
pub mod PollLemmas
pub mod Reported
pub mod ShownCounts
pub mod ShownNodes
pub mod Writing
