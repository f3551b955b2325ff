pub mod DigitSteps
pub mod LineLaws
pub mod Runs
pub mod Splits
