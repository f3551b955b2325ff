pub mod Nearest
mod Rows
mod Steps
pub mod Told
pub mod UseNames
mod UseRows
pub mod UseSteps
