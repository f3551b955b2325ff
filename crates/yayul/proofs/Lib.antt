mod ByLength
mod Codes
mod Columns
mod Counts
pub mod NumberColumn
mod Fields
mod Rows
mod FlightRows
mod ListingRows
mod PlaceRows
mod Least
mod Asked
mod LeastOfSet
mod Labels
mod LateFaults
mod FormFaults
pub mod GivenWords
mod Lines
pub mod LinesRead
mod ReadSaid
mod LanguageKept
mod KeptFaultless
mod NoneStands
pub mod Tables
mod TakenPlaces
mod TextAlone
mod LineRequests
mod WholeSource
mod BankEnds
mod Decimals
mod RowTexts
mod PlaceLines
mod Names
mod NamedRows
mod Nearest
mod Apart
mod Arguments
mod Equalled
mod NameOnce
mod WordsWhileWaiting
mod NameAdded
mod RequestFault
mod AlikeWaiting
mod HoldsByLine
mod FaultOrder
mod LinesOfWords
mod SurveyByLine
mod FaultlessLines
mod LeastTold
mod ToldKinds
mod ToldOnce
mod Sure
mod NoLabel
mod KindsAs
mod Early
mod ValueSure
mod SurveyRows
mod PatchedRequest
mod NoneWaits
mod PlainLines
mod LineAgrees
mod Finished
pub mod Octals
pub mod WrittenStatements
pub mod WrittenWords
pub mod Vectors
