pub mod Rows
pub mod Edges
pub mod CollapsedStates
pub mod Depths
pub mod Rising
pub mod Falling
pub mod Private
