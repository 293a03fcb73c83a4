pub mod Ret
pub mod Besides
pub mod Opening
pub mod Starting
pub mod Returning
pub mod Crossing
pub mod Turning
