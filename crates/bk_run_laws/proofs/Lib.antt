pub mod Following
pub mod Induction
