pub mod Diagnostics
pub mod Private
