pub mod Instructions
pub mod Laws
pub mod NamedLines
pub mod Tables
pub mod Uses
