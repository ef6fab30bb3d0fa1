-- The filters of a node, and the index by which the first match is found.
pub mod ChainsLemmas
pub mod FieldIndexLemmas
pub mod FieldSetLemmas
pub mod FieldValueLemmas
pub mod FilterIndexValues
pub mod FilterSetLemmas
pub mod IndexOfFilterLemmas
pub mod MatchingLemmas
pub mod ShapeLemmas
