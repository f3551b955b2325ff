pub mod RunLaws
pub mod TakenLaws
pub mod Turns
pub mod SilentLaws
pub mod LateInputs
mod Rows
mod ChangeLaws
pub mod RowLaws
pub mod RowTexts
mod EntryLaws
mod StepLaws
pub mod SameBut
pub mod Resuming
pub mod ByValue
mod RequestLemmas
pub mod Holding
pub mod Held
mod HeldSteps
pub mod HeldRuns
pub mod FiveRun
pub mod ClockRun
pub mod Flowing
pub mod Following
pub mod Linking
pub mod Leaving
pub mod Trails
pub mod LeavingBeside
pub mod LeavingFlags
pub mod WaitingSums
pub mod CodeWords
pub mod Framing
pub mod Chaining
pub mod CellSets
pub mod Profiling
mod ReadRows
mod Bursts
pub mod Quiet
