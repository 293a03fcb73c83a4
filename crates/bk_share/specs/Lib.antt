pub mod Law
pub mod Passes
pub mod Plan
pub mod Steps
