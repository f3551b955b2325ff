pub mod Forms
pub mod LineForms
pub mod Places
pub mod Comparison
pub mod Lines
pub mod Doubted
pub mod Accounts
