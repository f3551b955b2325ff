mod LineSteps
mod Whole
mod Rows
mod SlipRows
mod SlipLaws
pub mod Sorting
mod SourceLaws
mod Merging
pub mod CountLaws
mod HeadLaws
mod CountTests
pub mod DueLaws
mod KeptLaws
mod AddLaws
mod GrowLaws
pub mod Givens
mod Numbered
