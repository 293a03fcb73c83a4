pub mod Blocks
pub mod Code
pub mod Lines
pub mod Numbers
pub mod Units
pub mod Words
pub mod Written
