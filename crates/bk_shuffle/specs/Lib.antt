pub mod Sequence
pub mod Left
pub mod AtOnce
pub mod Cycles
