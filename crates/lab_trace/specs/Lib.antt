pub mod Bytes
pub mod Columns
pub mod Outcomes
pub mod Forms
pub mod Lines
pub mod Ends
pub mod Traces
pub mod Private
