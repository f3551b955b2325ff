pub mod Bytes
pub mod Digits
pub mod Fields
pub mod Lines
pub mod Stretches
pub mod Tables
pub mod Views
