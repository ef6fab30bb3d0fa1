-- The laws of every replay.
pub mod BucketStretches
pub mod ClassStretches
pub mod CountLemmas
pub mod FlowStretches
pub mod LawfulLemmas
pub mod ReplayLemmas
pub mod ShrinkLemmas
