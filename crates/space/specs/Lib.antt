pub mod Cells
pub mod Laws
pub mod Places
pub mod Stored
