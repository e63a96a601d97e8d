pub mod Edits
pub mod Private
pub mod Unseen
