pub mod Instructions
pub mod Told
pub mod Sentences
pub mod Said
