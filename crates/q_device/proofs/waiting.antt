-- When a device is ready again, as its polls go on.
pub mod Moved
pub mod MovedAsks
pub mod MovedTrees
pub mod ReadyNumbers
pub mod Renewed
pub mod RenewedAsks
pub mod RenewedBands
pub mod RenewedTrees
pub mod SilentDrrs
pub mod WaitingLemmas
