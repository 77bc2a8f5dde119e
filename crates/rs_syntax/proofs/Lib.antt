pub mod ToldLaws
pub mod BracketLaws
pub mod VerdictLaws
pub mod UnquotedLaws
pub mod ChainLaws
mod SpellingLaws
mod QuerySpelling
mod CommandSpelling
mod OneMeaning
mod OneAnswer
mod CleanTexts
mod SoundParts
mod SoundQueries
pub mod SoundLaws
mod EveryCut
mod Ranges
mod CommandRanges
mod Descent
mod QueryDescent
mod CommandDescent
mod EveryLine
