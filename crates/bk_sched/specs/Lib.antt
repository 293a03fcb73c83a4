pub mod Arranged
pub mod Named
pub mod Order
pub mod Schedule
pub mod Turns
