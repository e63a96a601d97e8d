pub mod Counts
pub mod Told
pub mod Telling
pub mod Written
