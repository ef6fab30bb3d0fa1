-- What a command plans and edits.
pub mod Changing
pub mod Commanding
pub mod Commands
pub mod DisciplineChanges
pub mod Editing
pub mod Grafting
pub mod Index
pub mod IndexSeen
pub mod Making
pub mod Planning
pub mod Purging
