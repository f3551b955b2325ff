mod Appending
mod Booked
pub mod Calm
pub mod Counting
pub mod Divisions
mod Exact
mod FirstSteps
pub mod Recalled
pub mod Listing
pub mod LongWaits
pub mod Plain
pub mod Quietly
mod OneKind
mod Rows
mod Hearing
