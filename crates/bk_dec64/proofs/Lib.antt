pub mod Changed
pub mod InWords
pub mod Placed
