-- The recorder and the ring of the last events, as lines of a script.
pub mod NotingLemmas
