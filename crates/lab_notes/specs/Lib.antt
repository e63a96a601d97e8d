pub mod Notes
pub mod Objects
pub mod Openers
pub mod Private
pub mod Remarks
pub mod Texts
pub mod Waiting
