pub mod Causes
pub mod Stretches
pub mod Spans
pub mod Routines
pub mod ShortTests
pub mod Tallies
pub mod Plain
pub mod DelayText
