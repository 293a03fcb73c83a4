pub mod Families
pub mod Lines
pub mod Nodes
pub mod Sound
