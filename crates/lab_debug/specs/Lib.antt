pub mod Lines
pub mod Script
pub mod Outputs
pub mod Commands
pub mod Labels
pub mod Effects
pub mod Laws
pub mod Private
