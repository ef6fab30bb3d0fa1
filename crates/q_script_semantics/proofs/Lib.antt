pub mod FilterReadBack
pub mod PrefixReadBack
pub mod QdiscReadBack
pub mod ReadBack
pub mod ReportLemmas
pub mod ShownLemmas
