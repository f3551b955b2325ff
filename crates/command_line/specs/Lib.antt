pub mod Forms
pub mod Values
pub mod Rules
pub mod Reading
pub mod Found
pub mod Help
