-- How deep a tree is and how many nodes it has, before a command and after it.
pub mod EditSizes
pub mod MadeSizes
pub mod RemadeSizes
pub mod SizeChecks
pub mod SizedChanges
pub mod SizedPlans
