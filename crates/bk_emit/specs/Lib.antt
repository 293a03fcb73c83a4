pub mod Blocks
pub mod Code
pub mod Forms
pub mod Lines
pub mod Tables
