-- Definitions that only contracts inside the crate cite.
pub mod Reading
pub mod Fresh
pub mod Settling
pub mod Blocks
pub mod Moved
pub mod Calling
