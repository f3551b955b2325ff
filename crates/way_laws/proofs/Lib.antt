pub mod Leading
pub mod Guiding
pub mod SameWay
mod NeedRows
