-- The order of one flow's packets.
pub mod Order
