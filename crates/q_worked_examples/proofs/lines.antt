-- What the grammar gives for the words and bytes of a line, and for what show prints.
pub mod LeftmostValues
pub mod LineAddresses
pub mod LineFaults
pub mod LineHeads
pub mod LineOrders
pub mod LinePlaces
pub mod LineRanges
pub mod LineTable
pub mod LineUnits
pub mod LineValues
pub mod ReadBackRows
pub mod WordValues
