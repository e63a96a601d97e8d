-- Definitions that no public contract cites.
pub mod RowEnds
pub mod Ranked
pub mod Judged
pub mod Keeping
pub mod Explored
