pub mod ChannelLines
pub mod Codes
pub mod State
pub mod Representation
pub mod Effects
pub mod Inputs
pub mod Next
pub mod Restarts
pub mod InputsLeft
pub mod Texts
pub mod Run
pub mod Silent
pub mod Bursts
pub mod Additions
pub mod Laws
pub mod Interrupts
pub mod Frames
pub mod ByValue
pub mod Links
pub mod Reads
pub mod Trails
pub mod NextStep
pub mod Dependence
pub mod Beside
pub mod Chains
pub mod Profiles
pub mod Operands
pub mod Asking
pub use Rattle.space.specs.Cells
pub use Rattle.rope.specs.Places as RopePlaces
pub use Rattle.feed.specs.Added as FeedAdded
pub use Rattle.feed.specs.CountsTaken as FeedCounts
pub use Rattle.feed.specs.declared.entry.Entry as FeedEntry
pub use Rattle.feed.specs.declared.input.Input as FeedInput
pub use Rattle.feed.specs.declared.list.AddFault as FeedAddFault
