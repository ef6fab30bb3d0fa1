pub mod Alike
pub mod Anew
pub mod Done
pub mod Effects
pub mod Naming
pub mod SetUp
pub mod Tried
pub mod Trying
