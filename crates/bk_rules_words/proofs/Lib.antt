pub mod Bits
pub mod Extended
pub mod LoadStore
pub mod LowBits
pub mod Whole
