pub mod CountLemmas
mod RefusalWords
