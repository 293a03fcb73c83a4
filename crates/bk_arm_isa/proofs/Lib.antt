mod Fields
mod Grouped
pub mod Decoded
pub mod Widths
pub mod Conditions
pub mod Memory
pub mod Steps
pub mod Start
