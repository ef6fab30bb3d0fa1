-- The filters of a node, and the index by which the first match is found.
pub mod Chains
pub mod ChainsSeen
pub mod FieldSets
pub mod FieldValues
pub mod FilterSets
pub mod FilterShapes
pub mod FiltersSeen
pub mod IndexByField
pub mod IndexOfFilters
pub mod Matching
pub mod SomeIndex
