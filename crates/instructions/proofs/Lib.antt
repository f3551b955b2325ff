pub mod Sets
mod InstructionRows
