mod Sets
mod NearNames
