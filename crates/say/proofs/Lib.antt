mod InstructionNames
mod Filled
mod Rows
pub mod Lines
