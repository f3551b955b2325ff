pub mod Walking
mod LeadingRows
mod BranchRows
