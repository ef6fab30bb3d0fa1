pub mod Answer
pub mod CommandLine
pub mod Usage
