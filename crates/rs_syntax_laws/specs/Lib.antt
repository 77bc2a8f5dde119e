pub mod ViewTexts
