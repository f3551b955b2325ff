pub mod Leading
pub mod Branches
