pub mod Pictures
pub mod Private
