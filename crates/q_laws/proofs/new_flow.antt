-- A flow that joins an fq_codel: what leaves before it, and what CoDel remembers of it.
pub mod NewFlowQuiet
pub mod NewFlowRows
pub mod NewFlowService
pub mod NewFlowSums
pub mod RestEdits
pub mod RestLemmas
pub mod RestMoves
pub mod RestNodes
pub mod RestReplays
pub mod RestSteps
