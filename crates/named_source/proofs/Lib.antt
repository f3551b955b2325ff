pub mod Bytes
pub mod GivenBack
pub mod Images
pub mod OctalGivenBack
pub mod OtherOrder
pub mod Rows
pub mod Steps
