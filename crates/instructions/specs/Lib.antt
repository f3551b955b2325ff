pub mod Roles
pub mod Places
