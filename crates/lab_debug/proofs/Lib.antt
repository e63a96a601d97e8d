pub mod LineLemmas
pub mod PendingLemmas
pub mod ScriptLemmas
pub mod NumberLemmas
pub mod LawLemmas
pub mod WorldSessions
