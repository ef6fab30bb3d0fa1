-- What events grant a flow of an fq_codel, and what it sends.
pub mod FlowAgainst
pub mod FlowBegins
pub mod FlowJoins
pub mod FlowLists
pub mod FlowMoves
pub mod FlowNotes
pub mod FlowPairs
pub mod FlowReach
pub mod FlowSteps
pub mod FlowVisits
