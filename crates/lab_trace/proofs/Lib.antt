pub mod LineLemmas
pub mod WrittenLemmas
pub mod MissingLemmas
