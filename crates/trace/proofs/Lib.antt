pub mod Finding
mod Rows
mod Nearness
