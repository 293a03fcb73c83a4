pub mod Standing
pub mod First
pub mod Heads
pub mod Chained
pub mod Turns
pub mod BaseSuffices
