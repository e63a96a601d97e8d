mod NumberLemmas
mod HeaderLemmas
mod BodyLemmas
