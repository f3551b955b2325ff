mod LineSteps
mod ParsedLaws
mod Rows
mod ExtendedLaws
pub mod SubjectLists
mod ExtendedRows
