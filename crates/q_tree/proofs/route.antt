-- Where a packet goes: the choice of each node, and the path that follows from it.
pub mod ChoosingLemmas
pub mod RouteLemmas
