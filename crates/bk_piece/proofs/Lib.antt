pub mod Elements
pub mod Full
pub mod Rising
