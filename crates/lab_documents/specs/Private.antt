-- Definitions that only contracts inside the crate cite.
pub mod Found
pub mod Positions
