pub mod Allotting
pub mod Blocks
pub mod Edges
pub mod Homeless
pub mod Room
pub mod Steps
pub mod Whole
