pub mod LineLemmas
pub mod Ordered
pub mod PlaceSums
pub mod LeftLemmas
pub mod Reports
pub mod OneText
pub mod ToldEnds
pub mod TextLemmas
pub mod ClaimLemmas
mod Numbered
mod OrderLemmas
mod Watched
mod BasisLemmas
mod SoFar
mod FailureLemmas
pub mod ListLemmas
pub mod AnswerLemmas
mod WithinLemmas
mod ReadingLemmas
pub mod ToldLemmas
mod ValueLemmas
mod LeftOrder
mod ScheduleValues
mod CallLemmas
