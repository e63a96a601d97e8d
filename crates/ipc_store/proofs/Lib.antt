pub mod Renamings
pub mod Alikes
mod Exchanges
mod FollowingRenamings
mod ExactAlikes
pub mod Consistents
pub mod AlikeOutcomes
pub mod LikeAnswers
pub mod OperandAnswers
pub mod SettledAnswers
mod NumberLemmas
mod ArrangedRows
mod RowLemmas
mod KeptLemmas
mod WorkPlaces
pub mod LocalCalls
mod SettledTables
mod OperandRows
mod NamedPlaces
pub mod CommutingCalls
mod UsedObjects
mod LastMessages
pub mod UsesOfSome
mod UsedParts
mod LowKernels
mod SwappedQueues
mod UnnoticedCalls
pub mod UnnoticedLaws
