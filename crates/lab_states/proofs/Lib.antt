mod PieceLemmas
pub mod SilentProcesses
mod CollapsedStateLemmas
mod StandingStates
mod RowTables
mod EdgeLists
mod OnwardRows
mod KeptNames
