pub mod NameLemmas
pub mod ReturnLemmas
pub mod StringLemmas
pub mod WalkLemmas
