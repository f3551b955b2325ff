pub mod Pairs
pub mod KindNames
pub mod Sound
pub mod Apart
pub mod Chains
pub mod Words
pub mod Whole
pub mod CountLaw
