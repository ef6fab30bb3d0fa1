-- No link is left idle, and a prio serves its bands in order.
pub mod Work
