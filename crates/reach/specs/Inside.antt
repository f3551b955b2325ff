-- What private contracts cite.
pub mod Kinds
pub mod Seen
pub mod Rooted
