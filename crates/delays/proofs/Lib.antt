pub mod Exact
pub mod Measuring
pub mod Sums
pub mod Short
pub mod Plain
pub mod Texts
mod DelayRows
