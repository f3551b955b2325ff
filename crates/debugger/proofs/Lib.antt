pub mod Breaking
pub mod StopLemmas
pub mod MarkLemmas
pub mod ChainText
pub mod WhyLines
pub mod SinceFound
pub mod SinceLines
pub mod SinceStart
pub mod Indexing
pub mod Moved
pub mod PartByPart
pub mod Standings
pub mod Based
pub mod Filtered
pub mod Surveyed
pub mod SurveyLines
pub mod WholeReplies
pub mod InputsAdded
pub mod LineByLine
pub mod PlainTalk
pub mod Looking
pub mod NewSteps
pub mod Tellings
pub mod Stepping
pub mod Hushed
mod ListedHistories
mod Scripts
mod FiveRows
mod ClockRows
mod ExtendedRows
mod WhyRows
mod OriginRows
pub mod LevelLines
pub mod LevelsTold
mod WayRows
mod NeverRows
mod TailRows
mod SurveyRows
pub mod RequestNumbers
pub mod FirstHit
mod Retraced
pub mod SteppedOutputs
pub mod Travelling
pub mod Added
pub mod InputsRead
pub mod AddedLines
pub mod AddedBack
mod RoutineRows
mod InputRows
pub mod Entered
pub mod OutputsOnce
pub mod Serving
pub mod WhyEnds
pub mod WayFound
pub mod NeverFound
pub mod Calling
pub mod CallingInside
pub mod LastFirst
pub mod ValueTold
mod TriedReplies
