pub mod LinesLemmas
pub mod OnErr
pub mod Playing
pub mod ReadLemmas
pub mod StarvedLines
pub mod WrittenLemmas
