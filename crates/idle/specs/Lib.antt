pub mod Alike
pub mod Idling
