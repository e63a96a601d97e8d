pub mod MetWorlds
pub mod Explorations
mod FairSegments
mod Cycles
mod KeptConditions
mod KeptLosses
pub mod QuietSteps
mod KeptRefusals
mod ShownProcesses
pub mod JudgedSearches
pub mod KeptStates
pub mod CalmRows
pub mod LossesOfRows
pub mod JudgedRows
mod FirstRows
