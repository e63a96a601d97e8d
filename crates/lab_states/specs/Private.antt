-- Definitions that no public contract cites.
pub mod Edges
pub mod Outputs
pub mod CollapsedStates
pub mod Standing
pub mod Rising
