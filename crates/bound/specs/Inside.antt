-- What private contracts cite.
pub mod Kinds
pub mod Checks
pub mod Searches
