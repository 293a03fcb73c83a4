pub mod Relation
pub mod Calling
pub mod Within
pub mod Edges
pub mod Left
