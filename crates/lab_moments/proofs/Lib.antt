pub mod ValueLemmas
pub mod PlainLemmas
pub mod StateLemmas
pub mod WordLemmas
pub mod ObjectLemmas
pub mod BetweenLemmas
pub mod WaitLemmas
pub mod EventLemmas
