pub mod Accounts
pub mod Counting
pub mod Rows
mod ShownAccounts
mod FiguresOfFive
mod RowTexts
