pub mod Encoding
pub mod Machine
