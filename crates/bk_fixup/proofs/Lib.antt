pub mod Gains
pub mod Growing
pub mod Keyed
pub mod Passing
