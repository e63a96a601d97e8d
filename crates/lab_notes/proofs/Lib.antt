pub mod BelowLemmas
pub mod NoteLemmas
pub mod TextLemmas
