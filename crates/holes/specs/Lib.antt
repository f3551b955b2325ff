pub mod HoleLines
pub mod Holes
pub mod HoleLaws
pub mod HoleRuns
pub mod HoledWords
