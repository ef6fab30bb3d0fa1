-- What each discipline does in a tree.
pub mod EmptyFifo
pub mod Meeting
