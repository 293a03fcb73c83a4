pub mod Remaining
pub mod Borne
pub mod Counted
pub mod Noted
pub mod Planned
pub mod Linked
pub mod Renumbered
pub mod Entry
