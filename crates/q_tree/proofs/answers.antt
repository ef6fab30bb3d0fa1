-- What a tree answers of itself: its nodes and views, when it is ready, what it holds, and the ways to classes.
pub mod FindLemmas
pub mod Foreseeing
pub mod ForeseenAsks
pub mod MostPacketsAsks
pub mod MostPacketsLemmas
pub mod MostPacketsPuts
pub mod MostPacketsQueues
pub mod MostPacketsTrees
pub mod NodesLemmas
pub mod OldestLemmas
pub mod OutlookLemmas
pub mod ReadyLemmas
pub mod ShowLemmas
pub mod SinceLemmas
pub mod StatsLemmas
pub mod TurnNowLemmas
pub mod WayLemmas
