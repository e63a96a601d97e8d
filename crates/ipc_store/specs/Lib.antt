pub mod Kept
pub mod Rows
pub mod Uses
pub mod Private
