pub mod Blocks
pub mod Code
pub mod Insts
pub mod Lines
pub mod Units
pub mod Words
pub mod Written
