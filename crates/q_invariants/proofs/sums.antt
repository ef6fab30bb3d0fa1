-- What packets weigh, and that each node has noted what the packets at it and beneath it weigh.
pub mod Counted
pub mod Joined
pub mod Lengths
pub mod NoteSums
pub mod Risen
pub mod Shuffled
pub mod Sums
pub mod Told
pub mod Weights
