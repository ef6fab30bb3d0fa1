pub mod Drafts
pub mod Grammar
pub mod Laws
pub mod OtherSpellings
pub mod Positions
pub mod Ranges
pub mod Reading
pub mod Spelling
