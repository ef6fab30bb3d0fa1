-- A packet in a drr that is the child of a class of a drr, and so on.
pub mod NestedTurn
