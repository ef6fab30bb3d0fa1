-- What a class of a drr, or a flow of an fq_codel, gets beside others, in bytes and in time.
pub mod Calm
pub mod Delivered
pub mod Handed
pub mod InTime
pub mod Service
