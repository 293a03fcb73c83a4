pub mod Equations
pub mod Opened
pub mod Powers
