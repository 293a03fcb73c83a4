pub mod Budget
pub mod Decomposed
pub mod Halves
pub mod Named
pub mod Signatures
pub mod Words
