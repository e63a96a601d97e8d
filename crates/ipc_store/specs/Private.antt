-- Definitions that only contracts inside the crate cite.
pub mod KeptRows
pub mod Kinds
pub mod Renamings
pub mod Used
