-- The bytes of packets: frames, heads, marks and hashes.
pub mod Frames
