pub mod CellNumbers
pub mod Followed
pub mod Seen
pub mod Halves
pub mod Steps
mod Rows
