-- A poll keeps a tree: each node is asked for its packet, and the packet is popped.
pub mod Answer
pub mod AskClasses
pub mod AskDrr
pub mod AskFqCodel
pub mod AskLeaf
pub mod AskPrio
pub mod AskStages
pub mod AskTbf
pub mod Asks
pub mod DrrService
pub mod PopGives
pub mod Pops
pub mod SentStages
