pub mod Lines
pub mod Declarations
pub mod Printed
pub mod Naming
pub mod Limits
