pub mod Private
pub mod Pieces
pub mod Programs
pub mod Requests
