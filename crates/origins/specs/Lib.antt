pub mod Following
pub mod Tallies
pub mod Lines
pub mod Served
pub mod Gathering
pub mod Representation
pub mod Walks
