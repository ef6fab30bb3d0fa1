-- What the model of the device makes of a list of events.
pub mod CoDelScripts
pub mod CommandScripts
pub mod FifoScripts
pub mod NoteScripts
pub mod PeekScripts
pub mod Script
pub mod ServiceScripts
pub mod SharingScripts
pub mod TbfPrioScripts
