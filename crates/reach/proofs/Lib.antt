pub mod KindNames
pub mod Lists
pub mod Marking
pub mod Coming
pub mod Exploring
pub mod Executing
pub mod Rooting
pub mod Landing
pub mod Running
mod WayRows
mod NamedRows
mod RootRows
