pub mod Asking
pub mod Complaints
pub mod Found
pub mod Plain
pub mod Runs
pub mod Sources
pub mod Told
