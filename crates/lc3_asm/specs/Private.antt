-- Definitions that only contracts inside the crate cite.
pub mod Layouts
pub mod Words
pub mod Readings
pub mod Tables
