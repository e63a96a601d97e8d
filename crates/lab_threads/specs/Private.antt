-- Definitions that only contracts inside the crate cite.
pub mod Added
pub mod BookInvariant
pub mod CallOutcome
pub mod WorkerLogs
pub mod WorkerResults
pub mod Promised
pub mod Merged
pub mod Reported
