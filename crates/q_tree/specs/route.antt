-- Where a packet goes: the choice of each node, and the path that follows from it.
pub mod Ahead
pub mod Choosing
pub mod RouteSeen
