pub mod StepLemmas
pub mod BlockLemmas
pub mod MarkLemmas
pub mod WatchLemmas
pub mod StopLemmas
pub mod TakenLemmas
pub mod PlayLemmas
pub mod CopyLemmas
