-- The order of one flow's packets.
pub mod OrderAsks
pub mod OrderFlows
pub mod OrderParts
pub mod OrderPuts
pub mod OrderRows
pub mod OrderSteps
pub mod OrderWays
pub mod PartLemmas
