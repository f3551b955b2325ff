pub mod Tallies
pub mod CoverObjects
pub mod CoverText
