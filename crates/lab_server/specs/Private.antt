-- Definitions that only contracts inside the crate cite.
pub mod Seen
pub mod Replies
pub mod Turned
