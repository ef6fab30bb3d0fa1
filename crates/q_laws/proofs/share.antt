-- What a class of a drr, or a flow of an fq_codel, gets beside others, in bytes and in time.
pub mod CalmRows
pub mod CalmShare
pub mod CalmSteps
pub mod FlowService
pub mod HandedInTime
pub mod LeastShare
pub mod OwnParts
pub mod PassedStretches
pub mod PromiseKept
pub mod PromiseNumbers
pub mod PromiseWays
pub mod ServiceStretches
pub mod ShareInTime
pub mod StillHeld
pub mod WayStretches
