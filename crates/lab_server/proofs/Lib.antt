mod DocumentLemmas
mod ReplyLemmas
mod SessionLemmas
mod TurnLemmas
mod ValueLemmas
