pub mod Bindings
pub mod Expressions
pub mod Match
pub mod Sound
pub mod Trees
pub mod WordSound
