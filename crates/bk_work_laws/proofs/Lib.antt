pub mod Cells
pub mod Objects
pub mod Unique
