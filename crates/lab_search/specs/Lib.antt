pub mod Stored
pub mod Reduced
pub mod Shown
pub mod Private
