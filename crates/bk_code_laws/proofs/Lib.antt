pub mod Arm
pub mod Blind
pub mod Handed
pub mod Moved
pub mod Renamed
pub mod Rv
