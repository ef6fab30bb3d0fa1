-- An arrival keeps a tree.
pub mod DrrSettled
pub mod PutBeneath
pub mod PutHere
pub mod PutKinds
pub mod PutQueue
pub mod PutStages
pub mod Puts
