pub mod CheckSums
pub mod DamageRows
pub mod Ends
pub mod Folds
pub mod LayoutRows
mod OctalBanks
pub mod OctalImages
mod OctalRows
pub mod OctalSteps
pub mod OrderSums
pub mod PartTexts
pub mod PlaceLines
pub mod Places
pub mod Steps
pub mod TextRows
