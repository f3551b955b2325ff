pub mod Roles
pub mod Fields
pub mod Warnings
pub mod Joined
