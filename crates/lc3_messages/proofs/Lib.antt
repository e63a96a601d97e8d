pub mod ToldLemmas
pub mod CountLemmas
pub mod WrittenLemmas
