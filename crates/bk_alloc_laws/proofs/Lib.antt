pub mod Edges
pub mod Finds
pub mod Holding
pub mod Mirror
pub mod Numbers
pub mod Reach
pub mod Whole
