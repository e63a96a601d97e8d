pub mod Labels
pub mod Statuses
pub mod Placed
pub mod Private
