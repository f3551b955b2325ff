pub mod Leading
pub mod SameWay
