pub mod GivenBack
pub mod NamedSources
pub mod OtherOrder
