-- What nodes count.
pub mod CountersSeen
