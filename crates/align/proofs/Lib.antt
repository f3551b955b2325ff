pub mod AlignRows
pub mod Known
pub mod Renames
pub mod Steps
pub mod Unpaired
