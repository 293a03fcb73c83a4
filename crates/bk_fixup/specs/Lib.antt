pub mod Keys
pub mod Patches
pub mod Rounds
pub mod Sizes
