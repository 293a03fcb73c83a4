pub mod Encoding
pub mod Decoding
pub mod Operands
pub mod Machine
pub mod Classes
