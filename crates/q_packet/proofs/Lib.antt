pub mod ChecksumLemmas
pub mod ChoiceLemmas
pub mod HeadLemmas
pub mod KeyLemmas
pub mod LeastLemmas
pub mod MarkingLemmas
pub mod TotalsLemmas
