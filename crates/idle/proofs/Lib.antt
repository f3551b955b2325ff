pub mod Same
pub mod Turns
mod IdleRows
