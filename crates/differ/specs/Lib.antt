pub mod Outputs
pub mod States
pub mod MainSteps
pub mod Windows
pub mod Causes
pub mod DifferText
pub mod WhyTold
