pub mod Counts
pub mod Named
pub mod Order
pub mod Search
