pub mod ClassesAsked
pub mod PacketFields
pub mod ShrinkLemmas
pub mod ShrinkSteps
