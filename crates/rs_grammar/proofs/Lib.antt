mod ExactReading
pub mod GrammarLaws
