pub mod TraceLines
pub mod StepMembers
pub mod PlaceNumbers
