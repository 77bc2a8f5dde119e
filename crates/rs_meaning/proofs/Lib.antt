pub mod MeaningLaws
mod SayingLaws
mod OperandLaws
mod ViewTexts
mod CommandLaws
