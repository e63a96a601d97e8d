pub mod AlikeWorlds
pub mod AfterLocalSteps
pub mod UnwaitingWorlds
pub mod FewestCalls
pub mod HeldAdvances
mod StepsToCalls
pub mod ErrorLemmas
pub mod Pushes
pub mod WalkLemmas
pub mod FairLassos
pub mod StepsOnObjects
pub mod IndependentSteps
pub mod OnwardSteps
pub mod Beginnings
pub mod WalkedEnds
pub mod OwnCalls
pub mod EndedProcesses
