pub mod Assembled
pub mod Branches
pub mod Drawing
pub mod Entries
pub mod Writing
