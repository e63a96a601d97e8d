-- Definitions that only contracts inside the crate cite.
pub mod Decisions
pub mod Counts
pub mod Index
pub mod Messages
