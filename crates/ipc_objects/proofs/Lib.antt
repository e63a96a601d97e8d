pub mod BucketLemmas
pub mod Orders
pub mod QueueCopies
pub mod QueueLemmas
pub mod SentLemmas
