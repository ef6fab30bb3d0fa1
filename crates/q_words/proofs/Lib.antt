pub mod Both
pub mod Cuts
mod TextCuts
pub mod Numbers
pub mod Splits
pub mod GroupLemmas
pub mod DecimalLemmas
pub mod FrameLemmas
