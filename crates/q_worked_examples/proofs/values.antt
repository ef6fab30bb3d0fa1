-- What a definition gives for some numbers.
pub mod BucketValues
pub mod CoDelValues
pub mod DrrValues
pub mod FqCodelValues
pub mod HeadValues
pub mod MadeValues
pub mod MarkingValues
pub mod MostPacketsValues
pub mod OldestValues
pub mod PacketValues
pub mod ScriptValues
pub mod ShowValues
