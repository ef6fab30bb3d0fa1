-- A packet in line: what leaves before it, and when it has left at the latest.
pub mod Latest
pub mod Line
pub mod Worst
