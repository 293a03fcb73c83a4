pub mod Words
pub mod Begun
pub mod Placed
pub mod Addressed
