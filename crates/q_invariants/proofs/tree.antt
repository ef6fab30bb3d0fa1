-- Nodes of a tree: which there are, where they come from, and what holds of all of them.
pub mod Forests
pub mod Members
pub mod Oldest
pub mod Quiet
pub mod Related
pub mod Stamps
pub mod StepNodes
pub mod Ways
pub mod Within
