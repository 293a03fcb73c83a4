pub mod Addresses
pub mod Conditions
pub mod Linked
pub mod Sites
pub mod Texts
