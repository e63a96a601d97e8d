pub mod Limits
pub mod Pages
