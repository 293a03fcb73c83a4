pub mod ArmList
pub mod Dec64List
pub mod Deciding
pub mod Firsts
pub mod GenericList
pub mod Matching
pub mod RvList
pub mod Visiting
