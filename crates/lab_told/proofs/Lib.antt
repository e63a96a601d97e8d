pub mod NameLemmas
pub mod BelowLemmas
pub mod SceneLemmas
pub mod TellingLemmas
pub mod AnswerLemmas
