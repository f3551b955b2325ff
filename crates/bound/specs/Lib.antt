pub mod Turns
pub mod Counting
pub mod Bounds
pub mod CountedWays
pub mod Asked
pub mod BoundText
pub mod Inside
