-- What only contracts of private functions cite. No public contract stands on these files.
pub mod Codes
pub mod Forms
pub mod Representation
pub mod Sound
pub mod Answers
pub mod Waiting
pub mod WordLines
pub mod Surveys
pub mod LinesRead
pub mod Names
