pub mod Wordings
pub mod Sources
