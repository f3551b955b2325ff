pub mod WordingRows
pub mod NoRows
