-- The recorder, the ring of the last events, and the play of a list of events.
pub mod LastLemmas
pub mod PlayLemmas
pub mod RecorderLemmas
