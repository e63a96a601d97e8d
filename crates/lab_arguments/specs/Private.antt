-- Definitions that only contracts inside the crate cite.
pub mod Options
pub mod Requirements
pub mod Outputs
