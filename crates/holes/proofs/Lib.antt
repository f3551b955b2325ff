pub mod FilledPlaces
pub mod AroundPlaces
pub mod Listed
pub mod Passed
pub mod HoleTurns
pub mod HoleRows
pub mod HoledWordRows
