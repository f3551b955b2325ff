pub mod Digits
pub mod Fields
pub mod Places
pub mod Registers
pub mod Symbols
pub mod Cells
pub mod Inputs
pub mod Breaks
pub mod SymbolRows
mod Rows
