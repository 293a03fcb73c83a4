pub mod Bounds
pub mod Follows
pub mod Standing
