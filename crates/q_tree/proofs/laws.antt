-- What holds for every tree, and for every call that handles a packet.
pub mod CountedLosses
pub mod OtherSubtrees
pub mod PolledTwice
pub mod TakePlaces
