pub mod BookCalls
pub mod WorkerSteps
pub mod JoinedThreads
pub mod Merges
pub mod ReportedSteps
