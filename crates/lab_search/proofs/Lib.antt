pub mod Growths
pub mod StepsOfRows
pub mod StepCounts
mod StepsBehind
mod FootprintLemmas
pub mod FirstWorlds
pub mod StandingWorlds
pub mod Bounds
mod IndependentCalls
mod PassingSteps
mod ReducedSearches
mod ReducedPaths
pub mod ReducedEnds
pub mod ReducedStates
pub mod ReducedBounds
