-- Definitions that only contracts inside the crate cite.
pub mod Replies
pub mod Ranges
pub mod Reading
pub mod LabelViews
pub mod Changes
