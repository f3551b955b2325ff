pub mod Texts
pub mod Views
pub mod Steps
pub mod ReadingRows
pub mod HelpRows
