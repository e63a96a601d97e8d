pub mod Headers
pub mod Frames
pub mod Taking
pub mod Written
pub mod Private
