pub mod Levels
pub mod Accesses
pub mod Below
pub mod Repeats
pub mod Tallies
pub mod CellText
pub mod AccessText
pub mod Asked
