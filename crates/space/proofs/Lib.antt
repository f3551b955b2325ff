mod CellLemmas
mod ChangedLemmas
mod LaneLemmas
pub mod CellLaws
pub mod ReadLaws
