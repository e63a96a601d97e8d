-- Definitions that only contracts inside the crate cite.
pub mod Names
pub mod Settings
pub mod Statements
