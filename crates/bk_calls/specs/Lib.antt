pub mod Areas
pub mod Arguments
pub mod Budget
pub mod Chains
pub mod Frame
pub mod Numbering
pub mod Plans
