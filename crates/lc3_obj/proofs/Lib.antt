pub mod NoObjects
pub mod Pieces
