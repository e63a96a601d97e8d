pub mod Calls
pub mod Wanted
pub mod Ways
pub mod Private
