pub mod Device
pub mod Prompts
pub mod Slow
