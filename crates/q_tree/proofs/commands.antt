-- What a command plans and edits.
pub mod ChangeLemmas
pub mod ClassAdding
pub mod ClassLemmas
pub mod ClassPlaces
pub mod ClassPlans
pub mod CountingLemmas
pub mod DisciplineChangeLemmas
pub mod EditLemmas
pub mod GraftLemmas
pub mod IndexLemmas
pub mod MakingLemmas
pub mod Plans
pub mod PurgeLemmas
pub mod TargetLemmas
pub mod TreeEdits
pub mod TreeIndex
