pub mod Xref
