pub mod Seen
pub mod Troubles
