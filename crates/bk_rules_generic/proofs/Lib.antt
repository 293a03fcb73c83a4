pub mod Laws
pub mod Numbers
pub mod Offsets
pub mod Orders
pub mod SoundArithmetic
pub mod SoundComparisons
pub mod SoundConversions
pub mod WholeList
