mod Slots
pub mod Counting
mod Repeating
pub mod Sums
pub mod Texts
mod AccessRows
mod Asking
