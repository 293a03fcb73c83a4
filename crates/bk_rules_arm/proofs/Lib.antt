pub mod SoundAccesses
pub mod SoundArithmetic
pub mod SoundComparisons
pub mod SoundConversions
pub mod SoundImmediates
pub mod SoundShifts
pub mod Unsound
pub mod WholeList
