pub mod Conditions
pub mod Written
pub mod Losses
pub mod Refusals
