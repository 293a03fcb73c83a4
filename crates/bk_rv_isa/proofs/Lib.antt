pub mod Rows
pub mod Words
pub mod Back
pub mod Memory
pub mod Steps
pub mod Start
