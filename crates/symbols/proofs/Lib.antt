pub mod Names
mod Beginnings
