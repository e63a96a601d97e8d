-- Definitions that only contracts inside the crate cite.
pub mod Explored
pub mod Runs
pub mod Shown
