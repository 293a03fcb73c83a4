pub mod Edge
pub mod Holding
pub mod Mirror
pub mod Whole
