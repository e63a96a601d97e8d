-- Definitions that only contracts inside the crate cite.
pub mod Told
pub mod Presences
pub mod Lefts
pub mod Readings
pub mod Founds
pub mod Rows
pub mod Says
pub mod Judged
