-- What a tbf at the root delivers in time, and when it has paid.
pub mod DelayRows
pub mod GivenPaid
pub mod HoldsNone
pub mod LevelsLeft
pub mod LinkAsks
pub mod LinkStretches
pub mod NeverLate
pub mod PaidInTime
pub mod PollHolds
pub mod RateStretches
