pub mod Included
pub mod Located
