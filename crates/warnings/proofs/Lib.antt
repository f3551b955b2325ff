mod Merging
mod WarningRows
mod BankRows
mod Written
