pub mod First
pub mod Making
pub mod Passes
pub mod Places
pub mod Roots
pub mod Trials
