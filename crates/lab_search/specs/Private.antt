-- Definitions that no public contract cites.
pub mod Stored
pub mod FootprintEffect
