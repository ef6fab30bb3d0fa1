-- A flow that joins an fq_codel: what leaves before it, and what CoDel remembers of it.
pub mod NewFlow
pub mod Rest
