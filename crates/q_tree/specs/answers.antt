-- What a tree answers of itself: its nodes and views, when it is ready, what it holds, and the ways to classes.
pub mod Finding
pub mod Flows
pub mod Lanes
pub mod MostPackets
pub mod Nodes
pub mod NodesCode
pub mod NodesSeen
pub mod Oldest
pub mod ReadyAt
pub mod Showing
pub mod TurnNow
pub mod Turns
pub mod Ways
