-- A packet comes in: the walk down its route to a queue, and back.
pub mod ArrivedNodes
pub mod Arriving
pub mod BurstArrivals
pub mod Keeping
pub mod KeepingComes
pub mod KeepingMany
pub mod PlacesLemmas
pub mod Puts
pub mod TreeArrivals
pub mod TreePuts
