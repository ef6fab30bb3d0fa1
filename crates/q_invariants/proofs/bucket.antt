-- What events make of the bucket of a tbf.
pub mod BucketMoves
pub mod BucketSteps
