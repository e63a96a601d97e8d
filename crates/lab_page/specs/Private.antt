-- Definitions that only contracts inside the crate cite.
pub mod Json
pub mod Stores
pub mod Written
